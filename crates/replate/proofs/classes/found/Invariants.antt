use Rattle.std.proofs.Common.{◌≡◌, ℕ, List, length, map, take}
use Rattle.replate.specs.Inputs.{bytes_of}
use Rattle.replate.specs.Classes.{Knows, class_of}
use Rattle.replate.proofs.classes.found.Given as goal

abbrev pub invariant-loop-file : goal.invariant-loop-file
invariant-loop-file l = (olds : List (List ℕ)) → Knows l.known olds → length olds ≡ l.count
    → l.classes.items ≡ map (class_of olds) (take l.file-index (bytes_of l.files))
