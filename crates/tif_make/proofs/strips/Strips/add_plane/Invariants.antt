use Rattle.std.proofs.Common.{map}
use Rattle.std.specs.List.{range_with_len}
use Rattle.tif_make.specs.Made.{Grows}
use Rattle.tif_make.specs.Strips.{strip}
use Rattle.tif_make.proofs.strips.Strips.add_plane.Given as goal

abbrev pub invariant-loop-i : goal.invariant-loop-i
invariant-loop-i l = Grows l.first (map (strip l.form l.rows l.plane) (range_with_len 0 l.i)) l.initial.self l.self
