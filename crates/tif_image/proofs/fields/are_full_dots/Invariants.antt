use Rattle.std.proofs.Common.{◌≡◌, true, take}
use Rattle.std.specs.List.{enumerate_from, list_all}
use Rattle.tif_image.specs.Fields.{is_full_dot}
use Rattle.tif_image.proofs.fields.are_full_dots.Given as goal

-- the values so far are those of the full range
abbrev pub invariant-loop-i : goal.invariant-loop-i
invariant-loop-i l = list_all is_full_dot (take l.i (enumerate_from 0 l.field)) ≡ true
