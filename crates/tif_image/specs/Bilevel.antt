-- The invariant of a bilevel image.
use Rattle.std.specs.Prelude.{◌≡◌, ◌==◌, Bool, Ok}
use Rattle.tif_strips.specs.declared.shape.Shape.{Shape}
use Rattle.tif_strips.specs.Strips.{Image}
use Rattle.tif_image.specs.declared.usage.BilevelUse.{BilevelUse}
use Rattle.tif_image.specs.Image.{IsBilevel, bilevel_shape, photometric}

-- the tests for this use pass with this shape, which is that of the strips; the file gives marks_zeros
pub record IsChecked (usage : BilevelUse) (shape : Shape) (marks_zeros : Bool) (strips : Image) : Type 0 where
  pub same : shape ≡ strips.shape
  pub passed : bilevel_shape usage strips.bytes ≡ Ok shape
  pub bilevel : IsBilevel shape
  pub marks : marks_zeros ≡ (photometric strips.bytes == 1)
