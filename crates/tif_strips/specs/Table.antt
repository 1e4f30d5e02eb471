-- A table of strips: their extents, and their marks.
use Rattle.std.specs.Prelude.{◌≡◌, ℕ, ◌<◌, ◌≤◌, List, [], ◌∷◌, Option, None}
use Rattle.pr_base.specs.declared.fault.TagFault.{TagFault}
use Rattle.tif_dir.specs.Names.{strip_byte_counts, strip_offsets}
use Rattle.tif_strips.specs.declared.extents.Extents.{Extents}
use Rattle.tif_strips.specs.declared.shape.Shape.{Shape}
use Rattle.tif_strips.specs.Extents.{count_in, extent_in, extent_of}
use Rattle.tif_strips.specs.Marks.{MarksOf}
use Rattle.tif_strips.specs.Strips.{Image, IsStriped, fault_of_field, first_fault, strip_count, strip_fault}

-- the first fault of the two fields
abbrev pub field_fault : Shape → List ℕ → Option TagFault
field_fault shape bytes =
    first_fault (fault_of_field shape bytes strip_offsets ∷ fault_of_field shape bytes strip_byte_counts ∷ [])

-- the image has a valid shape, and these are the extents of its strips and its marks
pub record HasTable (image : Image) (extents : Extents) (marks : List ℕ) : Type 0 where
  pub striped : IsStriped image.shape
  pub enough : strip_count image.shape ≤ count_in extents
  pub extents_are : (i : ℕ) → i < strip_count image.shape → extent_in extents i ≡ extent_of image i
  pub marks_are : MarksOf image marks

-- the image has a valid shape, and all its strip tests pass
pub record HasPassed (shape : Shape) (bytes : List ℕ) : Type 0 where
  pub striped : IsStriped shape
  pub passed : strip_fault shape bytes ≡ None
