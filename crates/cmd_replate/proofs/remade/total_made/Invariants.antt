use Rattle.std.proofs.Common.{◌≡◌, ◌≤◌, ◌+◌, ◌*◌, drop}
use Rattle.cmd_replate.specs.Remade.{total_made}
use Rattle.cmd_replate.proofs.remade.total_made.Given as goal

abbrev pub invariant-loop-end : goal.invariant-loop-end
invariant-loop-end l =
    (l.total + total_made (drop l.end-index l.ends) ≡ total_made l.ends) × (l.total ≤ 4294967295 * l.end-index)
