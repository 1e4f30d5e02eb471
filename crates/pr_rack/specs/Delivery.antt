-- How the file of a plate takes the plate's name.
use Rattle.std.specs.Prelude.{◌≡◌, ℕ, ◌<◌, List, [], ◌∷◌, ◌++◌, codes, length, take, Option, Some, IfSome}
use Rattle.std.specs.Io.KnownBytes.{Appends}
use Rattle.std.specs.Option.{option_map}
use Rattle.byteorder.specs.Endian.{little_bytes}
use Rattle.pr_rack.specs.declared.delivery.FileCall.{FileCall}
use Rattle.pr_rack.specs.declared.delivery.FileCall.TheVariants.{Place, Sync, Rename, SyncFolder}

-- the name under which the file of a plate is written until it is complete
abbrev pub part_of : List ℕ → List ℕ
part_of path = path ++ codes ".part"

-- the calls that give a written file the plate's name, in order
abbrev pub delivery : ℕ → List FileCall
delivery at = Place at ∷ Sync ∷ Rename ∷ SyncFolder ∷ []

-- the calls so far followed by these, where known
abbrev pub with_all : List FileCall → Option (List FileCall) → Option (List FileCall)
with_all more calls = option_map (λ before. before ++ more) calls

-- the calls so far followed by this one, where known
abbrev pub with_call : FileCall → Option (List FileCall) → Option (List FileCall)
with_call call calls = with_all (call ∷ []) calls

-- some of these calls were made, starting with the first, but not all
abbrev pub IsCutShort : List FileCall → Option (List FileCall) → Option (List FileCall) → Type 0
IsCutShort all old new = (count : ℕ) × (count < length all) × (new ≡ with_all (take count all) old)

-- the four bytes of this offset were written at byte 4 of the file, least significant byte first
-- (TIFF 6.0, Section 2)
abbrev pub IsPlaced : {F : Type 0} → (F → Option ℕ) → (F → Option (List ℕ)) → F → F → ℕ → Type 0
IsPlaced {F} position contents old new at =
    (there : F) × IfSome (position old) (λ _. position there ≡ Some 4)
    × Appends (contents there) (contents new) (little_bytes 4 at)
