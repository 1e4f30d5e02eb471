-- The file of an image: its fields, then its strips (TIFF 6.0, Sections 3, 8, 9 and 16).
use Rattle.std.specs.Prelude.{ℕ, ◌+◌, ◌*◌, nat_le, if◌then◌else◌, List, [], ◌∷◌, ◌++◌, take}
use Rattle.tif_dir.specs.Names as tag
use Rattle.tif_make.specs.declared.form.ImageForm.{ImageForm}
use Rattle.tif_make.specs.declared.form.Kind.{Kind}
use Rattle.tif_make.specs.declared.form.Kind.TheVariants.{Contone, Line, Mask}
use Rattle.tif_make.specs.Fields.{FieldData, shorts, longs, front, directory_end}
use Rattle.tif_make.specs.Form.{bits_of, compression_of, field_count, photometric_of, samples_of, strip_count}
use Rattle.tif_make.specs.Strips.{begins, joined, sizes, strips}

-- the fields of an image whose strips have these offsets and byte counts, in tag order
unfoldable pub all_fields : ImageForm → List ℕ → List ℕ → List FieldData
all_fields form places counts =
    longs tag.image_width (form.width ∷ [])
    ∷ longs tag.image_length (form.length ∷ [])
    ∷ shorts tag.bits_per_sample (bits_of form.kind)
    ∷ shorts tag.compression (compression_of form.compression ∷ [])
    ∷ shorts tag.photometric_interpretation (photometric_of form.kind ∷ [])
    ∷ longs tag.strip_offsets places
    ∷ shorts tag.samples_per_pixel (samples_of form.kind ∷ [])
    ∷ longs tag.rows_per_strip (form.rows_per_strip ∷ [])
    ∷ longs tag.strip_byte_counts counts
    ∷ shorts tag.planar_configuration (2 ∷ [])
    ∷ []

-- PlanarConfiguration, the last field, is omitted if it is 1, its default
unfoldable pub image_fields : ImageForm → List ℕ → List ℕ → List FieldData
image_fields form places counts = take (field_count form.planar) (all_fields form places counts)

-- the outside bytes of BitsPerSample, and of a field with one value per strip
abbrev pub bits_outside : Kind → ℕ
bits_outside Contone = 8
bits_outside Line = 0
bits_outside Mask = 0

abbrev pub table_outside : ℕ → ℕ
table_outside count = if nat_le (4 * count) 4 then 0 else 4 * count

-- the offset of the first strip: after the directory and the outside values
unfoldable pub first_strip : ImageForm → ℕ
first_strip form =
    directory_end (field_count form.planar) + bits_outside form.kind + 2 * table_outside (strip_count form)

-- the file of an image with these rows, concatenated from top to bottom
unfoldable pub image_file : ImageForm → List ℕ → List ℕ
image_file form rows =
    front form.order
    (image_fields form (begins (first_strip form) (strips form rows)) (sizes (strips form rows)))
    ++ joined (strips form rows)
