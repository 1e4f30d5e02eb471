use Rattle.std.proofs.Common.{◌≡◌, ◌++◌}
use Rattle.std.specs.List.{flat_map, range_with_len}
use Rattle.tif_make.specs.Strips.{stored_at}
use Rattle.tif_make.proofs.strips.put_rows.Given as goal

abbrev pub invariant-loop-k : goal.invariant-loop-k
invariant-loop-k l =
    l.stored.items ≡ l.fn.stored.items ++ flat_map (stored_at l.form l.rows l.plane) (range_with_len l.from l.k)
