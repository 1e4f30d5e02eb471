use Rattle.std.proofs.Common.{refl}
use Rattle.tif_strips.specs.Marks.{marks_per_strip}
use Rattle.tif_strips.specs.Strips.{planes, strip_count, strips_per_plane}
use Rattle.image_tests.proofs.strips.assert_marks.Goals as goal

pub check_wide-requires-clause-room : goal.check_wide-requires-clause-room
unfolding marks_per_strip planes strip_count strips_per_plane
check_wide-requires-clause-room g c κs within = refl
