-- Tables of strips, by the fields of a file and as they were kept.
use Rattle.std.proofs.Common.{◌≡◌, ℕ, ◌<◌, ◌≤◌, List, [], length, Some, Ok, refl, sym, ap, ◌∙◌, arith, zero-add}
use Rattle.std.specs.Prelude.{slice_index_or}
use Rattle.std.specs.Result.{result_unwrap_or}
use Rattle.std.proofs.lemmas.List.FromFn.{get_or-map-range_with_len, length-map-range_with_len}
use Rattle.tif_dir.specs.Directory.{field_of}
use Rattle.tif_dir.specs.Names.{strip_byte_counts, strip_offsets}
use Rattle.tif_dir.proofs.Fields.{number_at-present}
use Rattle.tif_strips.specs.declared.extents.Extent.{Extent}
use Rattle.tif_strips.specs.declared.extents.Extents.{Extents}
use Rattle.tif_strips.specs.declared.extents.Extents.TheVariants.{Fields}
use Rattle.tif_strips.specs.Extents.{count_in, extent_in, extent_of, extents_of}
use Rattle.tif_strips.specs.Marks.{MarksOf}
use Rattle.tif_strips.specs.Strip.{strip_of}
use Rattle.tif_strips.specs.Strips.{Image, IsStriped, needed_length, strip_count, strip_offset, strip_size}
use Rattle.tif_strips.specs.Table.{HasTable}
use Rattle.tif_strips.proofs.Marks.{no_marks}

-- the extents of strips by the values of the two fields
pub fields_table : (image : Image) (offsets sizes : List ℕ) → IsStriped image.shape
    → field_of image.bytes strip_offsets ≡ Ok (Some offsets)
    → field_of image.bytes strip_byte_counts ≡ Ok (Some sizes)
    → strip_count image.shape ≤ length offsets → strip_count image.shape ≤ length sizes
    → HasTable image (Fields offsets sizes) []
unfolding strip_offset strip_size
fields_table image offsets sizes striped offsets_are sizes_are long many = record {
  striped = striped;
  enough = omega arith;
  extents_are = λ i below.
      same _ _ _ _ (sym (ap (λ value. result_unwrap_or value 0) (number_at-present image.bytes strip_offsets i (strip_count image.shape) offsets offsets_are long)))
      (sym (ap (λ value. result_unwrap_or value 0) (number_at-present image.bytes strip_byte_counts i (strip_count image.shape) sizes sizes_are many)));
  marks_are = no_marks image;
}
  where
    same : (a b s t : ℕ) → a ≡ b → s ≡ t
        → ◌≡◌ {A = Extent} (record { offset = a; size = s }) (record { offset = b; size = t })
    same a b s t one other = rw (one, other) refl

-- the extents of strips as they were kept
pub kept_table : (image : Image) (extents : List Extent) (any : Extents) (marks : List ℕ)
    → IsStriped image.shape → extents ≡ extents_of image → MarksOf image marks → count_in any ≡ length extents
    → ((i : ℕ) → extent_in any i ≡ slice_index_or extents i (record { offset = 0; size = 0 }))
    → HasTable image any marks
unfolding extents_of
kept_table image extents any marks striped are has count each =
    let long : length extents ≡ strip_count image.shape = ap {A = List Extent} length are ∙ length-map-range_with_len (extent_of image) 0 (strip_count image.shape) in
    record {
      striped = striped;
      enough = omega arith;
      extents_are = λ i below.
          each i ∙ ap {A = List Extent} (λ l. slice_index_or l i (record { offset = 0; size = 0 })) are ∙ get_or-map-range_with_len (extent_of image) 0 (strip_count image.shape) i i _ below (zero-add i);
      marks_are = has;
    }

-- strip i by its extent
pub strip_known : (image : Image) (extents : Extents) (marks : List ℕ) (i : ℕ) (extent : Extent)
    → HasTable image extents marks → i < strip_count image.shape → extent ≡ extent_in extents i
    → strip_of image.shape image.bytes i
    ≡ record { offset = extent.offset; size = extent.size; needed = needed_length image.shape i }
strip_known image extents marks i extent table below is =
    let same : extent ≡ extent_of image i = is ∙ table.extents_are i below in
    sym (ap {A = Extent} (λ p. record { offset = p.offset; size = p.size; needed = needed_length image.shape i }) same)

-- a copy of a table
pub same_table : (image : Image) (old new : Extents) (marks : List ℕ) → HasTable image old marks
    → count_in new ≡ count_in old → extent_in new ≡ extent_in old → HasTable image new marks
same_table image old new marks table count each = record {
  striped = table.striped;
  enough = omega (arith, table.enough);
  extents_are = λ i below. ap (λ (f : ℕ → Extent). f i) each ∙ table.extents_are i below;
  marks_are = table.marks_are;
}
