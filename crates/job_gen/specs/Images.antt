-- The images of a generated job.
use Rattle.std.specs.Prelude.{ℕ, ◌+◌, ◌*◌, ◌%◌, ◌==◌, nat_lt, Bool, if◌then◌else◌, List, [], ◌∷◌, ◌++◌, map}
use Rattle.std.specs.Prelude.{codes}
use Rattle.std.specs.List.{flat_map, range_with_len}
use Rattle.pr_base.specs.Bits.{packed_row}
use Rattle.tif_make.specs.declared.form.ImageForm.{ImageForm}
use Rattle.tif_make.specs.declared.form.Kind.{Kind}
use Rattle.tif_make.specs.declared.form.Kind.TheVariants.{Contone, Line, Mask}
use Rattle.tif_make.specs.declared.form.Planar.TheVariants.{Chunky, Separate}
use Rattle.tif_make.specs.declared.form.Compression.{Compression}
use Rattle.tif_make.specs.declared.form.Compression.TheVariants.{Uncompressed, PackBits}
use Rattle.tif_dir.specs.declared.order.Order.TheVariants.{Little, Big}
use Rattle.tif_make.specs.Image.{image_file}
use Rattle.job_gen.specs.Numbers.{image_length, image_width, page_count}
use Rattle.job_gen.specs.Plan.{line_file, mask_file, other_file, page_file}

-- ---- pixels

-- sample i of the pixel at column x of row y in the contone image of index f; i is 0 to 3 for cyan, magenta,
-- yellow and black
abbrev pub sample : ℕ → ℕ → ℕ → ℕ → ℕ → ℕ
sample n f i x y = (n % 256 + 29 * f + 61 * i + 3 * x + 7 * y) % 256

-- whether a pixel of the linework is marked
abbrev pub line_marked : ℕ → ℕ → Bool
line_marked x y = (x + y) % 4 == 0

-- whether a pixel of the mask is marked: those of the left half are
abbrev pub mask_marked : ℕ → ℕ → Bool
mask_marked width x = nat_lt (2 * x) width

-- ---- rows

abbrev pub contone_pixel : ℕ → ℕ → ℕ → ℕ → List ℕ
contone_pixel n f y x = sample n f 0 x y ∷ sample n f 1 x y ∷ sample n f 2 x y ∷ sample n f 3 x y ∷ []

unfoldable pub contone_row : ℕ → ℕ → ℕ → ℕ → List ℕ
contone_row n f width y = flat_map (contone_pixel n f y) (range_with_len 0 width)

unfoldable pub line_row : ℕ → ℕ → List ℕ
line_row width y = packed_row width (λ x. line_marked x y)

unfoldable pub mask_row : ℕ → ℕ → List ℕ
mask_row width y = packed_row width (mask_marked width)

-- all rows of an image, concatenated
abbrev pub rows_of : (ℕ → List ℕ) → ℕ → List ℕ
rows_of row length = flat_map row (range_with_len 0 length)

-- ---- files

-- for odd f, least significant byte first with the samples of a pixel side by side; for even f, most
-- significant byte first with a plane for each ink
abbrev pub contone_form : ℕ → ℕ → ImageForm
contone_form n f =
    record {
      kind = Contone;
      width = image_width n;
      length = image_length n;
      order = if f % 2 == 1 then Little else Big;
      planar = if f % 2 == 1 then Chunky else Separate;
      compression = Uncompressed;
      rows_per_strip = 4;
    }

-- one bit a pixel, least significant byte first
abbrev pub bilevel_form : Kind → Compression → ℕ → ℕ → ImageForm
bilevel_form kind compression rows_per_strip n =
    record {
      kind = kind;
      width = image_width n;
      length = image_length n;
      order = Little;
      planar = Chunky;
      compression = compression;
      rows_per_strip = rows_per_strip;
    }

abbrev pub line_form : ℕ → ImageForm
line_form n = bilevel_form Line PackBits 4 n

-- a single strip
abbrev pub mask_form : ℕ → ImageForm
mask_form n = bilevel_form Mask Uncompressed (image_length n) n

abbrev pub contone_rows : ℕ → ℕ → List ℕ
contone_rows n f = rows_of (contone_row n f (image_width n)) (image_length n)

abbrev pub line_rows : ℕ → List ℕ
line_rows n = rows_of (line_row (image_width n)) (image_length n)

abbrev pub mask_rows : ℕ → List ℕ
mask_rows n = rows_of (mask_row (image_width n)) (image_length n)

unfoldable pub contone_bytes : ℕ → ℕ → List ℕ
contone_bytes n f = image_file (contone_form n f) (contone_rows n f)

unfoldable pub line_bytes : ℕ → List ℕ
line_bytes n = image_file (line_form n) (line_rows n)

unfoldable pub mask_bytes : ℕ → List ℕ
mask_bytes n = image_file (mask_form n) (mask_rows n)

-- ---- the files of the job

-- the path of a file of the plan
abbrev pub path_of : List ℕ → List ℕ
path_of name = codes "in/" ++ name

-- page j of the section has the image of index j
abbrev pub page_entry : ℕ → ℕ → List ℕ × List ℕ
page_entry n j = (path_of (page_file j), contone_bytes n j)

-- the replacement page has the image of index 0
abbrev pub other_entries : ℕ → List (List ℕ × List ℕ)
other_entries n =
    (path_of other_file, contone_bytes n 0) ∷ (path_of line_file, line_bytes n)
    ∷ (path_of mask_file, mask_bytes n) ∷ []

unfoldable pub files_with : ℕ → ℕ → List (List ℕ × List ℕ)
files_with n pages = map (page_entry n) (range_with_len 1 pages) ++ other_entries n

-- each path with its bytes
abbrev pub files_of : ℕ → List (List ℕ × List ℕ)
files_of n = files_with n (page_count n)
