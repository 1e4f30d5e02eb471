-- A reader of a run at its end of the ring.
use Rattle.std.specs.Prelude.{ℕ, Bool, true, false, not, ◌&&◌, nat_lt, List, Option, Some, None, slice_get}
use Rattle.std.specs.List.{list_any}
use Rattle.std.specs.Option.{option_and_then}
use Rattle.ink_keys.specs.Counts.{CountsData}
use Rattle.ring_lanes.specs.Reader.{ReaderState}
use Rattle.ring_run.specs.declared.role.Role.{Role}
use Rattle.ring_run.specs.declared.role.Role.TheVariants.{Going, Left, Stopped, Counting}

-- a reader of a run at its end of the ring
pub record SeatData : Type 0 where
  pub reader : ReaderState
  pub role : Role

-- the reader hasn't left, and rows are still to come
abbrev pub is_going : ReaderState → Bool
is_going reader = not reader.left && nat_lt reader.cursor reader.ring.total

-- a site that ran out of memory
abbrev pub is_stopped : Role → Bool
is_stopped (Going going) = false
is_stopped (Left cause) = false
is_stopped Stopped = true
is_stopped (Counting key) = false

-- some reader continues, and no site ran out of memory
abbrev pub are_going : List SeatData → Bool
are_going seats =
    list_any (λ seat. is_going seat.reader) seats && not (list_any (λ seat. is_stopped seat.role) seats)

-- the counts of a key reader
abbrev pub counts_in : Role → Option CountsData
counts_in (Going going) = None
counts_in (Left cause) = None
counts_in Stopped = None
counts_in (Counting key) = Some key.counts

-- those of the reader at an index
abbrev pub counts_at : ℕ → List SeatData → Option CountsData
counts_at n seats = option_and_then (λ seat. counts_in seat.role) (slice_get seats n)
