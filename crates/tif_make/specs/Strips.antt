-- The strips of an image, from all its rows concatenated from top to bottom.
use Rattle.std.specs.Prelude.{ℕ, ◌+◌, ◌-◌, ◌*◌, min, List, [], ◌∷◌, length, map, take, drop, slice_index}
use Rattle.std.specs.List.{flat_map, range_with_len}
use Rattle.tif_packbits.specs.Packbits.{packing}
use Rattle.tif_make.specs.declared.form.ImageForm.{ImageForm}
use Rattle.tif_make.specs.declared.form.Kind.{Kind}
use Rattle.tif_make.specs.declared.form.Kind.TheVariants.{Contone, Line, Mask}
use Rattle.tif_make.specs.declared.form.Planar.{Planar}
use Rattle.tif_make.specs.declared.form.Planar.TheVariants.{Chunky, Separate}
use Rattle.tif_make.specs.declared.form.Compression.{Compression}
use Rattle.tif_make.specs.declared.form.Compression.TheVariants.{Uncompressed, PackBits}
use Rattle.tif_make.specs.Form.{planes, row_length, strips_each}

-- row y of the image, size bytes long
abbrev pub row_at : ℕ → List ℕ → ℕ → List ℕ
row_at size rows y = take size (drop (y * size) rows)

-- the samples of one ink in a row of pixels
unfoldable pub ink_row : ℕ → ℕ → List ℕ → List ℕ
ink_row width ink row = map (λ x. slice_index row (4 * x + ink)) (range_with_len 0 width)

-- the part of a row that belongs to one plane ("PlanarConfiguration")
abbrev pub plane_row_of : Kind → Planar → ℕ → ℕ → List ℕ → List ℕ
plane_row_of Contone Separate width plane row = ink_row width plane row
plane_row_of Contone Chunky width plane row = row
plane_row_of Line planar width plane row = row
plane_row_of Mask planar width plane row = row

abbrev pub plane_row : ImageForm → List ℕ → ℕ → ℕ → List ℕ
plane_row form rows plane y =
    plane_row_of form.kind form.planar form.width plane (row_at (row_length form) rows y)

-- a row as it is stored; with PackBits each row is packed by itself (Section 9)
abbrev pub stored_row : Compression → List ℕ → List ℕ
stored_row Uncompressed row = row
stored_row PackBits row = packing row

-- row y of a plane as it is stored
unfoldable pub stored_at : ImageForm → List ℕ → ℕ → ℕ → List ℕ
stored_at form rows plane y = stored_row form.compression (plane_row form rows plane y)

-- strip i of a plane: its rows; the last strip may have fewer ("RowsPerStrip")
unfoldable pub strip : ImageForm → List ℕ → ℕ → ℕ → List ℕ
strip form rows plane i =
    flat_map
    (stored_at form rows plane)
    (range_with_len (i * form.rows_per_strip)
    (min form.rows_per_strip (form.length - i * form.rows_per_strip)))

-- the strips of a plane, from top to bottom
unfoldable pub plane_strips : ImageForm → List ℕ → ℕ → List (List ℕ)
plane_strips form rows plane = map (strip form rows plane) (range_with_len 0 (strips_each form))

-- all strips, those of the first plane first ("StripOffsets")
unfoldable pub strips : ImageForm → List ℕ → List (List ℕ)
strips form rows = flat_map (plane_strips form rows) (range_with_len 0 (planes form))

-- pieces concatenated
abbrev pub joined : List (List ℕ) → List ℕ
joined pieces = flat_map (λ piece. piece) pieces

-- the offset of each piece; place is that of the first
unfoldable pub begins : ℕ → List (List ℕ) → List ℕ
begins place [] = []
begins place (piece ∷ pieces) = place ∷ begins (place + length piece) pieces

-- the length of each piece in bytes
abbrev pub sizes : List (List ℕ) → List ℕ
sizes pieces = map length pieces
