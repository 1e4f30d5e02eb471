use Rattle.std.proofs.Common.{◌≡◌, ◌++◌, drop, string_bytes}
use Rattle.cmd_replate.specs.Remade.{remade_lines}
use Rattle.cmd_replate.proofs.remade.remade_text.Given as goal

abbrev pub invariant-loop-i : goal.invariant-loop-i
invariant-loop-i l =
    string_bytes l.text ++ remade_lines (drop l.i l.plan.sites) (drop l.i l.ends) ≡ remade_lines l.plan.sites l.ends
