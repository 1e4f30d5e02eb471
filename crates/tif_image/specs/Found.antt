-- What the tests of a file found for one use.
use Rattle.std.specs.Prelude.{◌≡◌, ◌==◌, ℕ, Bool, false, List, [], Ok}
use Rattle.tif_strips.specs.declared.extents.Extent.{Extent}
use Rattle.tif_strips.specs.declared.shape.Shape.{Shape}
use Rattle.tif_strips.specs.Extents.{extents_of}
use Rattle.tif_strips.specs.Marks.{MarksOf}
use Rattle.tif_image.specs.Image.{IsShapeFor, photometric, shape_of}
use Rattle.tif_image.specs.declared.usage.Usage.{Usage}

-- the shape of an image, whether pixels with bit 0 are the marked ones, the extents of its strips, and their
-- marks
pub record FoundData : Type 0 where
  pub shape : Shape
  pub marks_zeros : Bool
  pub extents : List Extent
  pub marks : List ℕ

-- a record of nothing: a shape without pixels, and no strips
abbrev pub nothing : FoundData
nothing =
    record {
      shape = record {
        width = 0;
        length = 0;
        samples = 0;
        bits = 0;
        planar = 0;
        packed = false;
        rows_per_strip = 0;
      };
      marks_zeros = false;
      extents = [];
      marks = [];
    }

-- a file passes the tests of this use, and this is its record
pub record IsFound (usage : Usage) (bytes : List ℕ) (found : FoundData) : Type 0 where
  pub passed : shape_of usage bytes ≡ Ok found.shape
  pub shape_is : IsShapeFor usage found.shape
  pub zeros_are : found.marks_zeros ≡ (photometric bytes == 1)
  pub extents_are : found.extents ≡ extents_of (record { shape = found.shape; bytes = bytes })
  pub marks_are : MarksOf (record { shape = found.shape; bytes = bytes }) found.marks
