-- The dots of plates: the 1 bits of their rows. Padding bits are 0, so each dot is a pixel that prints.
use Rattle.std.specs.Prelude.{◌≡◌, ◌*◌, ℕ, List, All, length, map, sum_by, take, drop, count_ones}
use Rattle.std.specs.Global.{Vec}
use Rattle.pr_base.specs.Row.{row_size}
use Rattle.tif_packbits.specs.Packbits.{expansion}

-- the dots of a row
abbrev pub row_dots : List ℕ → ℕ
row_dots row = sum_by count_ones row

-- the dots of the rows of a plate
abbrev pub plate_dots : List (List ℕ) → ℕ
plate_dots rows = sum_by row_dots rows

-- the dots of all plates
abbrev pub all_dots : List (List (List ℕ)) → ℕ
all_dots plates = sum_by plate_dots plates

-- the rows of a plate of this width and height
pub record HasSides (width height : ℕ) (rows : List (List ℕ)) : Type 0 where
  pub count : length rows ≡ height
  pub sizes : All (λ row. length row ≡ row_size width) rows

-- ---- private calls

-- the bytes of the rows of a plate
abbrev pub row_bytes_of : ℕ → ℕ → ℕ
row_bytes_of width height = row_size width * height

-- the 1 bits of the first `count` bytes that packed bytes expand to
abbrev pub ones_in : ℕ → List ℕ → ℕ
ones_in count packed = row_dots (take count (expansion packed))

-- the 1 bits of the packed bytes after the first eight bytes of a file
abbrev pub file_dots : ℕ → List ℕ → ℕ
file_dots count file = ones_in count (drop 8 file)

-- the bytes of each file
abbrev pub bytes_of : List (List ℕ × Vec ℕ) → List (List ℕ)
bytes_of files = map (λ file. file.1.items) files
