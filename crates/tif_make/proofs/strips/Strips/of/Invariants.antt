use Rattle.std.specs.List.{flat_map, range_with_len}
use Rattle.tif_make.specs.Made.{HasStrips}
use Rattle.tif_make.specs.Strips.{plane_strips}
use Rattle.tif_make.proofs.strips.Strips.of.Given as goal

abbrev pub invariant-loop-plane : goal.invariant-loop-plane
invariant-loop-plane l =
    HasStrips l.first (flat_map (plane_strips l.form l.rows) (range_with_len 0 l.plane)) l.made
