-- The tests of some strips of an image.
use Rattle.std.specs.Prelude.{◌≡◌, ℕ, List, map, None, Option}
use Rattle.std.specs.Option.{ForSome}
use Rattle.std.specs.List.{range_with_len}
use Rattle.pr_base.specs.declared.fault.TagFault.{TagFault}
use Rattle.tif_strips.specs.declared.strip.Strip.{Strip}
use Rattle.tif_strips.specs.Marks.{AreMarks}
use Rattle.tif_strips.specs.Strip.{fault_of}
use Rattle.tif_strips.specs.Strips.{Image, fault_of_strip, first_fault}

-- the last strip that was tested passes
abbrev pub Passed : Image → Option Strip → Type 0
Passed image passed = ForSome passed (λ strip. fault_of image.shape.packed image.bytes strip ≡ None)

-- the first fault of so many strips, from strip first on
unfoldable pub fault_among : Image → ℕ → ℕ → Option TagFault
fault_among image first count =
    first_fault (map (fault_of_strip image.shape image.bytes) (range_with_len first count))

-- the fault found in so many strips, from strip first on, and their marks where there is none
pub record IsTested (image : Image) (first count per : ℕ) (fault : Option TagFault) (marks : List ℕ)
    : Type 0 where
  pub found : fault ≡ fault_among image first count
  pub marked : fault ≡ None → AreMarks image first count per marks
