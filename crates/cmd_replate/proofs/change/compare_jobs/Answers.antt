use Rattle.std.proofs.Common.{◌≡◌, List, length, ap, sym, subst, ◌∙◌}
use Rattle.std.specs.Prelude.{All}
use Rattle.plan_rows.specs.Groups.{groups_of}
use Rattle.replate.specs.Inputs.{JobData}
use Rattle.replate.specs.Picks.{dropped_of}
use Rattle.replate.specs.Plates.{PlateAt}
use Rattle.cmd_replate.specs.Change.{IsPlaced}
use Rattle.cmd_replate.specs.Remade.{dropped_lines}
use Rattle.cmd_replate.proofs.Changing.{dropped_placed, picks_are}
use Rattle.cmd_replate.proofs.change.compare_jobs.Goals.{After-dropped-plates}
use Rattle.cmd_replate.proofs.change.compare_jobs.Goals as goal

-- the old plates whose lines are printed
dropped_are : (c : After-dropped-plates) → c.dropped-plates.result.now ≡ dropped_of c.args.before.now.plan c.args.job.now.plan
dropped_are c =
    c.dropped-plates.ensures ∙ c.in_ok-picks.ensures.dropped
    ∙ ap (λ (j : JobData). dropped_of j.plan c.inputs_of-news.result.plan) c.inputs_of-olds.ensures.job
    ∙ ap (λ (j : JobData). dropped_of c.args.before.now.plan j.plan) c.inputs_of-news.ensures.job

pub dropped_lines-requires : goal.dropped_lines-requires
dropped_lines-requires c =
    let before = c.args.before.now.plan in
    let is = dropped_are (goal.at.dropped_lines-requires c).After-dropped-plates in
    subst (λ (list : List PlateAt). All (IsPlaced before) list) (sym is) (dropped_placed before c.args.job.now.plan)

pub returns : goal.returns
returns c =
    let is = dropped_are (goal.at.returns c).After-dropped-plates in
    record {
      are_picks = picks_are c.args.before.now c.args.job.now c.inputs_of-olds.result c.inputs_of-news.result
          c.in_ok-picks.picks c.inputs_of-olds.ensures.job c.inputs_of-news.ensures.job c.in_ok-picks.ensures.made;
      groups = c.in_ok-picks.ensures.groups ∙ ap (λ (j : JobData). length (groups_of j.plan)) c.inputs_of-news.ensures.job;
      dropped = c.in_ok-dropped.ensures ∙ ap (dropped_lines c.args.before.now.plan c.args.out.now) is;
    }
