-- What contracts see of the racks of a plan's sites, before and after a run.
use Rattle.std.specs.Prelude.{◌≡◌, ℕ, ◌<◌, ◌≤◌, List, map, Some, IfSome, is_some, slice_get}
use Rattle.pr_rack.specs.Rack.{none_begun}
use Rattle.pr_rack.specs.Told.{RackTells}

-- the counts of failures never decrease
pub record KeepCounts (before now : List RackTells) : Type 0 where
  pub each : (site : ℕ) (old new : RackTells) → slice_get before site ≡ Some old
      → slice_get now site ≡ Some new → old.faults ≤ new.faults

-- no slot of these racks is begun
pub record AreIdle (count : ℕ) (racks : List RackTells) : Type 0 where
  pub each : (site : ℕ) (told : RackTells) → site < count → slice_get racks site ≡ Some told
      → told.tells.begun ≡ none_begun

-- what is known of a rack's slots agrees with which of them are begun
abbrev pub TellsSlots : RackTells → Type 0
TellsSlots told = IfSome told.tells.working (λ slots. told.tells.begun ≡ map is_some slots)

-- the same for each of the racks
abbrev pub AllTellSlots : List RackTells → Type 0
AllTellSlots racks = (site : ℕ) (told : RackTells) → slice_get racks site ≡ Some told → TellsSlots told
