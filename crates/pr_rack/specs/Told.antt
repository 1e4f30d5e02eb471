-- What contracts see of a rack, collected from the members of its type: the only place where that is done.
use Rattle.std.specs.Prelude.{ℕ, Bool, List, Option, map}
use Rattle.ring_lanes.specs.declared.source.Source.{Source}
use Rattle.pr_rack.specs.declared.rack.Rack.{Ghosts}
use Rattle.pr_rack.specs.declared.rack.RackCall.{RackCall}
use Rattle.pr_rack.specs.Rack.{Plate, Slots}

-- the finished plates, the contents of the slots, which of them are begun, and the rows taken
pub record Tells : Type 0 where
  pub finished : Option (List Plate)
  pub working : Option Slots
  pub begun : List Bool
  pub taken : Option (List (ℕ × Source))

-- the last failed call and its plate's path, where known
abbrev pub Missed : Type 0
Missed = Option (Option (RackCall × List ℕ))

-- the same, with the last failed call and the number of failed calls
pub record RackTells : Type 0 where
  pub tells : Tells
  pub missed : Missed
  pub faults : ℕ

-- what contracts see of a rack
abbrev pub told : {R : Type 0} → Ghosts R → R → RackTells
told g rack = record {
  tells = record {
    finished = g.finished rack;
    working = g.working rack;
    begun = g.begun rack;
    taken = g.taken rack;
  };
  missed = g.missed rack;
  faults = g.faults rack;
}

-- what contracts see of each of these racks
abbrev pub all_told : {R : Type 0} → Ghosts R → List R → List RackTells
all_told g racks = map (told g) racks
