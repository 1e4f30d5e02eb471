use Rattle.std.proofs.Common.{◌≡◌, map, take}
use Rattle.replate.specs.Classes.{classed}
use Rattle.replate.proofs.alike.same_layers.Given as goal

abbrev pub invariant-loop-i : goal.invariant-loop-i
invariant-loop-i l =
    take l.i (map (classed l.classes.before.items) l.old) ≡ take l.i (map (classed l.classes.after.items) l.new)
