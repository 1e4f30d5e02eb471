-- Strips built one after the other.
use Rattle.std.specs.Prelude.{◌≡◌, ℕ, ◌+◌, ◌*◌, ◌≤◌, List, ◌++◌, length}
use Rattle.tif_make.specs.declared.form.ImageForm.{ImageForm}
use Rattle.tif_make.specs.declared.strips.Strips.{Strips}
use Rattle.tif_make.specs.Form.{row_length}
use Rattle.tif_make.specs.Strips.{begins, joined, sizes}

-- the rows of an image, small enough that every offset in its file fits in 32 bits
pub record HasRows (form : ImageForm) (rows : List ℕ) : Type 0 where
  pub are : length rows ≡ form.length * row_length form
  pub few : length rows ≤ 2000000000

-- these strips were appended; first is the offset of the first strip of all
pub record Grows (first : ℕ) (pieces : List (List ℕ)) (old new : Strips) : Type 0 where
  pub bytes_are : new.bytes.items ≡ old.bytes.items ++ joined pieces
  pub places_are : new.places.items ≡ old.places.items ++ begins (first + length old.bytes.items) pieces
  pub counts_are : new.counts.items ≡ old.counts.items ++ sizes pieces

-- these are all the strips
pub record HasStrips (first : ℕ) (pieces : List (List ℕ)) (made : Strips) : Type 0 where
  pub bytes_are : made.bytes.items ≡ joined pieces
  pub places_are : made.places.items ≡ begins first pieces
  pub counts_are : made.counts.items ≡ sizes pieces
