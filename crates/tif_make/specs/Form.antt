-- The sizes and field values of an image in its file (TIFF 6.0, Sections 3, 8, 9 and 16).
use Rattle.std.specs.Prelude.{ℕ, ◌+◌, ◌-◌, ◌*◌, ◌/◌, ◌≤◌, List, [], ◌∷◌}
use Rattle.pr_base.specs.Row.{row_size}
use Rattle.tif_make.specs.declared.form.ImageForm.{ImageForm}
use Rattle.tif_make.specs.declared.form.Kind.{Kind}
use Rattle.tif_make.specs.declared.form.Kind.TheVariants.{Contone, Line, Mask}
use Rattle.tif_make.specs.declared.form.Planar.{Planar}
use Rattle.tif_make.specs.declared.form.Planar.TheVariants.{Chunky, Separate}
use Rattle.tif_make.specs.declared.form.Compression.{Compression}
use Rattle.tif_make.specs.declared.form.Compression.TheVariants.{Uncompressed, PackBits}

-- valid width and length, and at least one row per strip
pub record IsForm (form : ImageForm) : Type 0 where
  pub width : (1 ≤ form.width) × (form.width ≤ 65535)
  pub length : (1 ≤ form.length) × (form.length ≤ 65535)
  pub rows_per_strip : 1 ≤ form.rows_per_strip

-- the bytes in a row of pixels: four samples per pixel, or one bit
abbrev pub row_bytes : Kind → ℕ → ℕ
row_bytes Contone width = 4 * width
row_bytes Line width = row_size width
row_bytes Mask width = row_size width

abbrev pub row_length : ImageForm → ℕ
row_length form = row_bytes form.kind form.width

-- the number of planes: one per ink if the samples are separate ("PlanarConfiguration" 2), otherwise one
abbrev pub planes_of : Kind → Planar → ℕ
planes_of Contone Separate = 4
planes_of Contone Chunky = 1
planes_of Line planar = 1
planes_of Mask planar = 1

abbrev pub planes : ImageForm → ℕ
planes form = planes_of form.kind form.planar

-- the bytes of a row in one plane
abbrev pub plane_row_bytes : Kind → Planar → ℕ → ℕ
plane_row_bytes Contone Separate width = width
plane_row_bytes Contone Chunky width = 4 * width
plane_row_bytes Line planar width = row_size width
plane_row_bytes Mask planar width = row_size width

abbrev pub plane_row_length : ImageForm → ℕ
plane_row_length form = plane_row_bytes form.kind form.planar form.width

-- the number of strips per plane ("RowsPerStrip": StripsPerImage)
abbrev pub strips_each : ImageForm → ℕ
strips_each form = (form.length + form.rows_per_strip - 1) / form.rows_per_strip

-- the number of strips in all planes
abbrev pub strip_count : ImageForm → ℕ
strip_count form = planes form * strips_each form

-- ---- values of fields

-- "BitsPerSample", one value per sample
abbrev pub bits_of : Kind → List ℕ
bits_of Contone = 8 ∷ 8 ∷ 8 ∷ 8 ∷ []
bits_of Line = 1 ∷ []
bits_of Mask = 1 ∷ []

-- "SamplesPerPixel"
abbrev pub samples_of : Kind → ℕ
samples_of Contone = 4
samples_of Line = 1
samples_of Mask = 1

-- "PhotometricInterpretation": separated inks, WhiteIsZero, transparency mask
abbrev pub photometric_of : Kind → ℕ
photometric_of Contone = 5
photometric_of Line = 0
photometric_of Mask = 4

-- "Compression"
abbrev pub compression_of : Compression → ℕ
compression_of Uncompressed = 1
compression_of PackBits = 32773

-- the number of fields of an image: all ten, or nine without "PlanarConfiguration"
abbrev pub field_count : Planar → ℕ
field_count Chunky = 9
field_count Separate = 10
