use Rattle.std.proofs.Common.{◌≡◌, drop}
use Rattle.std.specs.List.{list_all}
use Rattle.cmd_run.specs.Report.{is_finished}
use Rattle.cmd_run.proofs.edition.status_of.Given as goal

abbrev pub invariant-loop-end : goal.invariant-loop-end
invariant-loop-end l = list_all is_finished (drop l.end-index l.ends) ≡ list_all is_finished l.ends
