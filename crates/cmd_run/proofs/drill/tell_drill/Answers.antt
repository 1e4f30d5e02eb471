use Rattle.std.proofs.Common.{◌∙◌, ap, subst, string_bytes}
use Rattle.press_job.specs.Job.{JobData}
use Rattle.site_agent.proofs.Results.{if_ok}
use Rattle.cmd_run.specs.Drill.{HaveRun, IsDrilled, drill_text, told_of}
use Rattle.cmd_run.proofs.drill.tell_drill.Goals as goal

pub returns : goal.returns
unfolding drill_text
returns c =
    if_ok c.told.result _ (λ text. IsDrilled c.args.drill.number c.args.drill.ring (string_bytes text))
    (λ text h. record {
      is = h ∙ ap told_of c.requires.job;
      racks = c.args.drilled.now.racks.items;
      run = subst (λ (job : JobData). HaveRun job c.args.drill.ring c.args.drilled.now.racks.items)
          c.requires.job c.requires.racks;
    }) c.told.ensures
