-- What is promised of the files of a generated job: they pass the tests of their uses, with these shapes and
-- these pixels.
use Rattle.std.specs.Prelude.{◌≡◌, ℕ, ◌%◌, ◌<◌, ◌≤◌, ◌==◌, if◌then◌else◌, Bool, true, false, List, length}
use Rattle.std.specs.Prelude.{Some, Ok}
use Rattle.tif_dir.specs.declared.order.Order.TheVariants.{Little, Big}
use Rattle.tif_dir.specs.Directory.{header_of}
use Rattle.tif_strips.specs.declared.shape.Shape.{Shape}
use Rattle.tif_image.specs.declared.usage.BilevelUse.{BilevelUse}
use Rattle.tif_image.specs.declared.usage.BilevelUse.TheVariants.{Line, Mask}
use Rattle.tif_image.specs.Image.{bilevel_shape, contone_shape, pixel_marked, sample_at}
use Rattle.job_gen.specs.Images.{line_marked, mask_marked, sample}
use Rattle.job_gen.specs.Numbers.{image_length, image_width}

-- the largest size of a file in bytes
abbrev pub most_bytes : ℕ
most_bytes = 4000000

-- the shape of the contone image of index f: for odd f with the samples of a pixel side by side, for even f
-- with a plane for each ink; uncompressed, four rows per strip
abbrev pub contone_shape_of : ℕ → ℕ → Shape
contone_shape_of n f = record {
  width = image_width n;
  length = image_length n;
  samples = 4;
  bits = 8;
  planar = if f % 2 == 1 then 1 else 2;
  packed = false;
  rows_per_strip = 4;
}

-- the shape of an image of one bit a pixel
abbrev pub bilevel_shape_of : Bool → ℕ → ℕ → Shape
bilevel_shape_of packed rows_per_strip n = record {
  width = image_width n;
  length = image_length n;
  samples = 1;
  bits = 1;
  planar = 1;
  packed = packed;
  rows_per_strip = rows_per_strip;
}

-- the shape of the linework: packed, four rows per strip
abbrev pub line_shape_of : ℕ → Shape
line_shape_of n = bilevel_shape_of true 4 n

-- the shape of the mask: uncompressed, a single strip
abbrev pub mask_shape_of : ℕ → Shape
mask_shape_of n = bilevel_shape_of false (image_length n) n

-- the contone image of index f: least significant byte first for odd f, most significant byte first for
-- even f
pub record IsContoneFile (n f : ℕ) (file : List ℕ) : Type 0 where
  pub order : header_of file ≡ Some (if f % 2 == 1 then Little else Big)
  pub passes : contone_shape file ≡ Ok (contone_shape_of n f)
  pub pixels : (x y i : ℕ) → x < image_width n → y < image_length n → i < 4
      → sample_at (contone_shape_of n f) file x y i ≡ sample n f i x y
  pub small : length file ≤ most_bytes

-- an image of this use and shape, with these marked pixels
pub record IsBilevelFile (usage : BilevelUse) (shape : Shape) (marked : ℕ → ℕ → Bool) (file : List ℕ)
    : Type 0 where
  pub passes : bilevel_shape usage file ≡ Ok shape
  pub pixels : (x y : ℕ) → x < shape.width → y < shape.length → pixel_marked shape file x y ≡ marked x y
  pub small : length file ≤ most_bytes

abbrev pub IsLineFile : ℕ → List ℕ → Type 0
IsLineFile n = IsBilevelFile Line (line_shape_of n) line_marked

abbrev pub IsMaskFile : ℕ → List ℕ → Type 0
IsMaskFile n = IsBilevelFile Mask (mask_shape_of n) (λ x y. mask_marked (image_width n) x)

-- all images of job n
pub record ArePassing (n : ℕ) (contone : ℕ → List ℕ) (line mask : List ℕ) : Type 0 where
  pub contones : (f : ℕ) → IsContoneFile n f (contone f)
  pub line_is : IsLineFile n line
  pub mask_is : IsMaskFile n mask
