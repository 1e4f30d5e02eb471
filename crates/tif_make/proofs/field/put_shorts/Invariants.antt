use Rattle.std.proofs.Common.{◌≡◌, ◌++◌, take}
use Rattle.std.specs.List.{flat_map}
use Rattle.tif_dir.specs.Directory.{bytes_of}
use Rattle.tif_make.proofs.field.put_shorts.Given as goal

abbrev pub invariant-loop-n : goal.invariant-loop-n
invariant-loop-n l = l.file.items ≡ l.fn.file.items ++ flat_map (bytes_of l.order 2) (take l.n-index l.numbers)
