use Rattle.std.proofs.Common.{◌≡◌, ◌++◌, map}
use Rattle.std.specs.List.{range_with_len}
use Rattle.job_gen.proofs.ImageRows.{mask_byte}
use Rattle.job_gen.proofs.images.put_mask_row.Given as goal

abbrev pub invariant-loop-j : goal.invariant-loop-j
invariant-loop-j l = l.rows.items ≡ l.fn.rows.items ++ map (mask_byte l.half) (range_with_len 0 l.j)
