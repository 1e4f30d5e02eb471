-- What a call of `plate_main` observed of its shelf, its racks and its sinks: their state before and after.
use Rattle.std.specs.Prelude.{ℕ, ◌≡◌, ◌≤◌, ◌⊎◌, List, All, length, Option, Some, slice_get}
use Rattle.pr_base.specs.Count.{Rose, count_after}
use Rattle.pr_ports.specs.declared.shelf.Shelf as shelf
use Rattle.pr_ports.specs.declared.sink.Sink as sink
use Rattle.pr_rack.specs.Rack.{none_begun}
use Rattle.pr_rack.specs.declared.rack.Rack as rack

-- the files of a shelf: each path with its bytes
abbrev pub Files : Type 0
Files = List (List ℕ × List ℕ)

-- a shelf: the files that it holds, the path of its last failed load, and its counts
pub record ShelfSeen : Type 0 where
  pub held : Option Files
  pub missed : Option (Option (List ℕ))
  pub missed' : Option (Option (List ℕ))
  pub faults : ℕ
  pub faults' : ℕ
  pub longs : ℕ
  pub longs' : ℕ

abbrev pub shelf_seen : {H : Type 0} → shelf.Ghosts H → H → H → ShelfSeen
shelf_seen g old new = record {
  held = g.held old;
  missed = g.missed old;
  missed' = g.missed new;
  faults = g.faults old;
  faults' = g.faults new;
  longs = g.longs old;
  longs' = g.longs new;
}

-- a sink: the bytes it took, and its count of failures
pub record SinkSeen : Type 0 where
  pub given : Option (List ℕ)
  pub given' : Option (List ℕ)
  pub faults : ℕ
  pub faults' : ℕ

abbrev pub sink_seen : {S : Type 0} → sink.Ghosts S → S → S → SinkSeen
sink_seen g old new = record {
  given = g.given old;
  given' = g.given new;
  faults = g.faults old;
  faults' = g.faults new;
}

-- what a command observed: its arguments, the shelf, the racks before and after, and the output
pub record Seen (R : Type 0) : Type 0 where
  pub words : List (List ℕ)
  pub shelf : ShelfSeen
  pub racks : List R
  pub racks' : List R
  pub out : SinkSeen

-- no load failed, and no file was counted as too long
pub record IsUntouched (shelf : ShelfSeen) : Type 0 where
  pub missed : shelf.missed' ≡ shelf.missed
  pub faults : shelf.faults' ≡ shelf.faults
  pub longs : shelf.longs' ≡ shelf.longs

-- a load failed
abbrev pub LoadFailed : ShelfSeen → Type 0
LoadFailed shelf = Rose shelf.faults shelf.faults'

-- a write failed
abbrev pub PutFailed : SinkSeen → Type 0
PutFailed sink = Rose sink.faults sink.faults'

-- at most one write failed
abbrev pub FailsOnce : SinkSeen → Type 0
FailsOnce sink = (sink.faults' ≡ sink.faults) ⊎ (sink.faults' ≡ count_after sink.faults)

-- a sink took nothing, and no write failed
pub record IsSilent (sink : SinkSeen) : Type 0 where
  pub given : sink.given' ≡ sink.given
  pub faults : sink.faults' ≡ sink.faults

-- a call of a rack failed
pub record RackFailed {R : Type 0} (g : rack.Ghosts R) (racks racks' : List R) : Type 0 where
  pub site : ℕ
  pub old : R
  pub new : R
  pub before : slice_get racks site ≡ Some old
  pub after : slice_get racks' site ≡ Some new
  pub rose : Rose (g.faults old) (g.faults new)

-- no rack has a begun slot
abbrev pub AreIdle : {R : Type 0} → rack.Ghosts R → List R → Type 0
AreIdle g racks = All (λ rack. g.begun rack ≡ none_begun) racks

-- a command may store plates on these racks: each site of a plan has one, and no rack has a begun slot
pub record AreReady {R : Type 0} (g : rack.Ghosts R) (racks : List R) : Type 0 where
  pub enough : 16 ≤ length racks
  pub idle : AreIdle g racks
