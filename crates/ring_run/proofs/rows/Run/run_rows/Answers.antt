use Rattle.std.proofs.Common.{map, ap, subst, ◌∙◌}
use Rattle.ring_rule.specs.Marks.{TableMark}
use Rattle.ring_rule.specs.declared.view.RingNumbers.{RingNumbers}
use Rattle.pr_rack.specs.Told.{RackTells, told}
use Rattle.ring_run.specs.Fits.{on_ring}
use Rattle.ring_run.specs.JobRun.{RunLeaves}
use Rattle.ring_run.proofs.Running.{none_leaves}
use Rattle.ring_run.proofs.rows.Run.run_rows.Goals as goal

pub returns-in_err-table : goal.returns-in_err-table
returns-in_err-table g c = record { leaves = none_leaves _ _ _ c.from_residual.result c.from_residual.ensures.0 }

pub returns : goal.returns
returns g c =
    let tell : g.row.R.Denot → RackTells = told g.R.Rack in
    let is = ap {A = TableMark} (λ t. t.ring) c.set_pauses.ensures ∙ c.in_ok-table.ensures.ring in
    record { leaves = subst (λ (r : RingNumbers). RunLeaves (on_ring c.args.self.now.plan.now c.args.self.now.out.now r) c.args.keys (map tell c.args.racks.now) (map tell c.run_on.new.racks) c.run_on.result) is c.run_on.ensures.leaves }
