use Rattle.std.proofs.Common.{◌≡◌, map}
use Rattle.std.specs.List.{range_with_len}
use Rattle.tif_strips.specs.Extents.{extent_of}
use Rattle.tif_strips.proofs.strip_table.StripTable.all_extents.Given as goal

abbrev pub invariant-loop-i : goal.invariant-loop-i
invariant-loop-i l = l.extents.items ≡ map (extent_of l.self) (range_with_len 0 l.i)
