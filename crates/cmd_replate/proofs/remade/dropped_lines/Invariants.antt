use Rattle.std.proofs.Common.{◌≡◌, ◌++◌, drop, string_bytes}
use Rattle.cmd_replate.specs.Remade.{dropped_lines}
use Rattle.cmd_replate.proofs.remade.dropped_lines.Given as goal

abbrev pub invariant-loop-plate : goal.invariant-loop-plate
invariant-loop-plate l =
    string_bytes l.text ++ dropped_lines l.before.plan l.out (drop l.plate-index l.plates) ≡ dropped_lines l.before.plan l.out l.plates
