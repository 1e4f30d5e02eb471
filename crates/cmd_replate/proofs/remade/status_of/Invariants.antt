use Rattle.std.proofs.Common.{◌≡◌, drop}
use Rattle.std.specs.List.{list_all}
use Rattle.cmd_replate.specs.Remade.{is_done}
use Rattle.cmd_replate.proofs.remade.status_of.Given as goal

abbrev pub invariant-loop-end : goal.invariant-loop-end
invariant-loop-end l = list_all is_done (drop l.end-index l.ends) ≡ list_all is_done l.ends
