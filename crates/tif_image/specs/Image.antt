-- The images that plateroom accepts. A file is a list of bytes.
use Rattle.std.specs.Prelude.{ℕ, ◌+◌, ◌*◌, ◌==◌, ◌≡◌, Bool, not, if◌then◌else◌, List, [], ◌∷◌, Result, Ok}
use Rattle.std.specs.Prelude.{slice_index}
use Rattle.std.specs.Result.{result_unwrap_or}
use Rattle.pr_base.specs.Bits.{bit_at}
use Rattle.pr_base.specs.declared.fault.TagFault.{TagFault}
use Rattle.pr_base.specs.declared.fault.FaultKind.TheVariants.{Width, Length, Samples, Compression}
use Rattle.pr_base.specs.declared.fault.FaultKind.TheVariants.{Photometric, FillOrder, Orientation, Planar}
use Rattle.pr_base.specs.declared.fault.FaultKind.TheVariants.{InkSet, RowsPerStrip}
use Rattle.tif_dir.specs.Directory.{dir_fault, number_at}
use Rattle.tif_dir.specs.Names as tag
use Rattle.tif_strips.specs.declared.shape.Shape.{Shape}
use Rattle.tif_strips.specs.Strips.{IsStriped, image_row, strip_fault}
use Rattle.tif_image.specs.declared.usage.BilevelUse.{BilevelUse}
use Rattle.tif_image.specs.declared.usage.Usage.{Usage}
use Rattle.tif_image.specs.declared.usage.Usage.TheVariants.{Contone, Bilevel}
use Rattle.tif_image.specs.Fields.{◌>>=◌, ◌>>◌, bits_each, full_dot_range, no_fault, no_tiles, number_among}
use Rattle.tif_image.specs.Fields.{number_within}
use Rattle.tif_image.specs.Usage.{depth_of, photometrics_of, samples_of}

-- ---- the tests

-- the fields of separated inks, which are tested in a contone image only (Section 16)
abbrev pub ink_fields : Usage → List ℕ → Result (Unit {0}) TagFault
ink_fields Contone bytes = number_among bytes tag.ink_set (1 ∷ []) InkSet >> full_dot_range bytes
ink_fields (Bilevel usage) bytes = Ok tt

-- the shape of an image for this use, or the first fault of its fields
unfoldable pub image_fields : Usage → List ℕ → Result Shape TagFault
image_fields usage bytes = do
  no_tiles bytes
  width ← number_within bytes tag.image_width 1 65535 Width
  length ← number_within bytes tag.image_length 1 65535 Length
  number_among bytes tag.samples_per_pixel (samples_of usage ∷ []) Samples
  bits_each bytes (samples_of usage) (depth_of usage)
  compression ← number_among bytes tag.compression (1 ∷ 32773 ∷ []) Compression
  number_among bytes tag.photometric_interpretation (photometrics_of usage) Photometric
  number_among bytes tag.fill_order (1 ∷ []) FillOrder
  number_among bytes tag.orientation (1 ∷ []) Orientation
  planar ← number_among bytes tag.planar_configuration (1 ∷ 2 ∷ []) Planar
  ink_fields usage bytes
  rows ← number_within bytes tag.rows_per_strip 1 4294967295 RowsPerStrip
  Ok (record {
    width = width;
    length = length;
    samples = samples_of usage;
    bits = depth_of usage;
    planar = planar;
    packed = compression == 32773;
    rows_per_strip = rows;
  })

-- the shape of an image for this use, or the first fault, in the order header and directory, fields, strips
unfoldable pub shape_of : Usage → List ℕ → Result Shape TagFault
shape_of usage bytes = do
  no_fault (dir_fault bytes)
  shape ← image_fields usage bytes
  no_fault (strip_fault shape bytes)
  Ok shape

-- the same for a contone image, CMYK (Section 16)
abbrev pub contone_shape : List ℕ → Result Shape TagFault
contone_shape bytes = shape_of Contone bytes

-- the same for a bilevel image (Section 3)
abbrev pub bilevel_shape : BilevelUse → List ℕ → Result Shape TagFault
bilevel_shape usage bytes = shape_of (Bilevel usage) bytes

-- ---- accepted images

-- a valid shape of an image for this use
pub record IsShapeFor (usage : Usage) (shape : Shape) : Type 0 where
  pub striped : IsStriped shape
  pub samples : shape.samples ≡ samples_of usage
  pub bits : shape.bits ≡ depth_of usage

-- a valid shape of a contone image: four samples of eight bits
abbrev pub IsContone : Shape → Type 0
IsContone shape = IsShapeFor Contone shape

-- a valid shape of a bilevel image for either use: one sample of one bit
pub record IsBilevel (shape : Shape) : Type 0 where
  pub striped : IsStriped shape
  pub samples : shape.samples ≡ 1
  pub bits : shape.bits ≡ 1

-- the model of a bilevel image: its use, its shape, and the bytes of its file
pub record BilevelImage : Type 0 where
  pub usage : BilevelUse
  pub shape : Shape
  pub bytes : List ℕ

-- ---- pixels

-- sample i of the pixel at column x of row y, 0 to 3 for cyan, magenta, yellow and black (Section 16)
abbrev pub sample_at : Shape → List ℕ → ℕ → ℕ → ℕ → ℕ
sample_at shape bytes x y i = slice_index (image_row shape bytes y) (4 * x + i)

-- PhotometricInterpretation of a file that has it (Section 8)
abbrev pub photometric : List ℕ → ℕ
photometric bytes = result_unwrap_or (number_at bytes tag.photometric_interpretation 0 1) 0

-- whether pixel x of a row is marked: its bit is 1 for WhiteIsZero (0) and a mask (4), and 0 for
-- BlackIsZero (1) (Section 8)
abbrev pub is_marked : ℕ → List ℕ → ℕ → Bool
is_marked interpretation row x = if interpretation == 1 then not (bit_at row x) else bit_at row x

-- whether the pixel at column x of row y is marked
abbrev pub pixel_marked : Shape → List ℕ → ℕ → ℕ → Bool
pixel_marked shape bytes x y = is_marked (photometric bytes) (image_row shape bytes y) x
