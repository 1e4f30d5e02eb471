-- What contracts see of the racks in memory and on the machine.
use Rattle.std.specs.Prelude.{◌≡◌, ℕ, ◌≤◌, Bool, List, [], ◌∷◌, ◌++◌, length, map, slice_index_or, slice_set}
use Rattle.std.specs.Prelude.{option_to_list, Option, Some, None, Result, Ok, Err}
use Rattle.std.specs.Global.{Vec}
use Rattle.std.specs.List.{All}
use Rattle.std.specs.Option.{ForSome, option_map}
use Rattle.ring_lanes.specs.declared.source.Source.{Source}
use Rattle.pr_base.specs.Count.{count_after}
use Rattle.ring_lanes.specs.Held.{HeldRow}
use Rattle.tif_packbits.specs.Frame.{packed_in}
use Rattle.pr_rack.specs.Rack.{Plate, Slots, closed, with_bytes}
use Rattle.pr_rack.specs.declared.rack.RackCall.{RackCall}
use Rattle.pr_rack.specs.declared.rack.RackFault.{RackFault}
use Rattle.pr_rack.specs.declared.rack.RackFault.TheVariants.{Failed, Memory}

-- a plate in the code's form: its path and its bytes
abbrev pub plate_of : List ℕ × Vec ℕ → Plate
plate_of plate = (plate.0, plate.1.items)

-- the contents of the slots
abbrev pub slots_of : List (Option (List ℕ × Vec ℕ)) → Slots
slots_of slots = map (option_map plate_of) slots

-- the finished plates
abbrev pub files_of : List (List ℕ × Vec ℕ) → List Plate
files_of files = map plate_of files

-- each plate in a slot has the eight bytes before its rows
abbrev pub AreBegun : List (Option (List ℕ × Vec ℕ)) → Type 0
AreBegun slots = All (λ slot. ForSome slot (λ plate. 8 ≤ length plate.1.items)) slots

-- five empty slots
abbrev pub empty_slots : Slots
empty_slots = None ∷ None ∷ None ∷ None ∷ None ∷ []

-- the failures of a rack in memory
pub record MissState : Type 0 where
  pub faults : ℕ
  -- the last call that failed, and the path of its plate
  pub missed : Option (RackCall × List ℕ)

-- the effect on them of a call that is to fail for the plate at this path, by the fault it returns
abbrev pub Misses : MissState → MissState → RackCall → List ℕ → RackFault → Type 0
Misses old new call path Failed = new ≡ record { faults = count_after old.faults; missed = Some (call, path) }
Misses old new call path Memory = new ≡ old

-- a rack in memory
pub record MemState : Type 0 where
  -- the content of each slot
  pub slots : Slots
  -- the finished plates
  pub files : List Plate
  -- the number and the source of each row taken
  pub taken : List (ℕ × Source)
  -- the numbers of the calls that fail
  pub failing : List ℕ
  -- the number of the next call
  pub calls : ℕ
  -- the failed calls
  pub misses : MissState

-- the rack after a counted call that failed for the plate at this path
abbrev pub failed_at : RackCall → List ℕ → MemState → MemState
failed_at call path rack =
    let misses : MissState = record { faults = count_after rack.misses.faults; missed = Some (call, path) } in
    record rack { calls = count_after rack.calls; misses = misses }

-- the rack after a call for the plate at this path that turns it into `done` if it succeeds
abbrev pub IsAfter : {T : Type 0} → MemState → MemState → RackCall → List ℕ → MemState
    → Result T RackFault → Type 0
IsAfter old new call path done (Ok value) = new ≡ record done { calls = count_after old.calls }
IsAfter old new call path done (Err Failed) = new ≡ failed_at call path old
IsAfter old new call path done (Err Memory) =
    (new.calls ≡ count_after old.calls) × (new.failing ≡ old.failing) × (new.misses ≡ old.misses)

-- the rack with another plate, or none, in a slot
abbrev pub in_slot : ℕ → Option Plate → MemState → MemState
in_slot slot plate rack = record rack { slots = slice_set rack.slots slot plate }

-- the plate in a slot of the rack
abbrev pub at_slot : MemState → ℕ → Option Plate
at_slot rack slot = slice_index_or rack.slots slot None

-- the rack after a successful call of `begin`
abbrev pub after_begin : MemState → ℕ → List ℕ → List ℕ → MemState
after_begin old slot path head = in_slot slot (Some (path, head)) old

-- the rack after a successful call of `row`
abbrev pub after_row : MemState → ℕ → HeldRow → MemState
after_row old slot held =
    let plate : Option Plate = option_map (with_bytes (packed_in held.bytes)) (at_slot old slot) in
    let done : MemState = in_slot slot plate old in
    record done { taken = old.taken ++ (held.number, held.source) ∷ [] }

-- the rack after a successful call of `finish`
abbrev pub after_finish : MemState → ℕ → List ℕ → ℕ → MemState
after_finish old slot tail place =
    let plates : List Plate = option_to_list (option_map (closed tail place) (at_slot old slot)) in
    record old { slots = slice_set old.slots slot None; files = old.files ++ plates }

-- what contracts see of the rack on the machine
pub record HostState : Type 0 where
  pub begun : List Bool
  pub faults : ℕ
