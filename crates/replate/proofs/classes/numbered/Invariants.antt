use Rattle.std.proofs.Common.{◌≡◌, map, take}
use Rattle.replate.specs.Inputs.{bytes_of}
use Rattle.replate.specs.Classes.{Knows, class_of}
use Rattle.replate.proofs.classes.numbered.Given as goal

abbrev pub invariant-loop-index : goal.invariant-loop-index
invariant-loop-index l = record {
  classes : l.classes.items ≡ map (class_of (bytes_of l.files)) (take l.index (bytes_of l.files));
  known : Knows l.known (take l.index (bytes_of l.files));
}
