-- The contents of a rack, and the effects of its calls.
use Rattle.std.specs.Prelude.{◌≡◌, ℕ, ◌+◌, ◌%◌, ◌⊎◌, Bool, true, false, if◌then◌else◌, List, [], ◌∷◌, ◌++◌}
use Rattle.std.specs.Prelude.{Option, Some, None, Result, Ok, Err, slice_index_or, slice_set, unwrap_or}
use Rattle.std.specs.Prelude.{option_and_then, option_to_list}
use Rattle.std.specs.Option.{option_map}
use Rattle.pr_base.specs.Offset.{with_offset}
use Rattle.ring_lanes.specs.declared.source.Source.{Source}
use Rattle.pr_rack.specs.declared.rack.RackCall.{RackCall}
use Rattle.pr_rack.specs.declared.rack.RackFault.{RackFault}
use Rattle.pr_rack.specs.declared.rack.RackFault.TheVariants.{Failed, Memory}

-- a plate: its path and its bytes
abbrev pub Plate : Type 0
Plate = List ℕ × List ℕ

-- the content of each slot
abbrev pub Slots : Type 0
Slots = List (Option Plate)

-- a rack of five slots, none of them begun
abbrev pub none_begun : List Bool
none_begun = false ∷ false ∷ false ∷ false ∷ false ∷ []

-- the plate in this slot, where known
abbrev pub plate_in : Option Slots → ℕ → Option Plate
plate_in working slot = option_and_then (λ slots. slice_index_or slots slot None) working

-- the path of the plate in this slot, where known
abbrev pub path_in : Option Slots → ℕ → List ℕ
path_in working slot = unwrap_or (option_map (λ plate. plate.0) (plate_in working slot)) []

-- the slots with this content in one of them and the others unchanged, where known
abbrev pub with_plate : ℕ → Option Plate → Option Slots → Option Slots
with_plate slot plate working = option_map (λ slots. slice_set slots slot plate) working

-- the plate with these bytes appended
abbrev pub with_bytes : List ℕ → Plate → Plate
with_bytes bytes plate = (plate.0, plate.1 ++ bytes)

-- the slots with these bytes appended to the plate in one of them, where known
abbrev pub with_more : ℕ → List ℕ → Option Slots → Option Slots
with_more slot bytes working = with_plate slot (option_map (with_bytes bytes) (plate_in working slot)) working

-- the plate, closed by this tail and this offset of its directory
abbrev pub closed : List ℕ → ℕ → Plate → Plate
closed tail place plate = (plate.0, with_offset place (plate.1 ++ tail))

-- the finished plates followed by the slot's plate, closed by this tail and offset, where known
abbrev pub finished_with : Option Slots → ℕ → List ℕ → ℕ → Option (List Plate) → Option (List Plate)
finished_with working slot tail place finished =
    let plates : List Plate = option_to_list (option_map (closed tail place) (plate_in working slot)) in
    option_map (λ before. before ++ plates) finished

-- a directory at this offset directly follows a plate of `len` bytes: at `len`, or one byte on if `len` is
-- odd
abbrev pub IsBehind : ℕ → ℕ → Type 0
IsBehind len place = (place ≡ len) ⊎ ((len % 2 ≡ 1) × (place ≡ len + 1))

-- whether each slot but this one is begun is unchanged
abbrev pub OthersBegun : ℕ → List Bool → List Bool → Type 0
OthersBegun slot old new = slice_set new slot false ≡ slice_set old slot false

-- the contents of the slots but this one are unchanged, where known
abbrev pub OthersStand : ℕ → Option Slots → Option Slots → Type 0
OthersStand slot old new = with_plate slot None new ≡ with_plate slot None old

-- the rows taken followed by the row with this number and source, where known
abbrev pub with_row : ℕ → Source → Option (List (ℕ × Source)) → Option (List (ℕ × Source))
with_row number source taken = option_map (λ rows. rows ++ (number, source) ∷ []) taken

-- the call returned `Failed`
abbrev pub has_failed : {T : Type 0} → Result T RackFault → Bool
has_failed (Ok value) = false
has_failed (Err Failed) = true
has_failed (Err Memory) = false

-- the last failed call and its plate's path after this call at this path, which failed or not, where known
abbrev pub missed_after : Bool → RackCall → List ℕ
    → Option (Option (RackCall × List ℕ)) → Option (Option (RackCall × List ℕ))
missed_after failed call path missed = option_map (λ last. if failed then Some (call, path) else last) missed
