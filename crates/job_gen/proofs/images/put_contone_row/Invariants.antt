use Rattle.std.proofs.Common.{◌≡◌, ◌++◌}
use Rattle.std.specs.List.{flat_map, range_with_len}
use Rattle.job_gen.specs.Images.{contone_pixel}
use Rattle.job_gen.proofs.images.put_contone_row.Given as goal

abbrev pub invariant-loop-x : goal.invariant-loop-x
invariant-loop-x l = l.rows.items ≡ l.fn.rows.items ++ flat_map (contone_pixel l.n l.f l.y) (range_with_len 0 l.x)
