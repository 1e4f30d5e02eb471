-- The eight events: when each is possible, and what it changes.
use Rattle.std.specs.Prelude.{ℕ, zero, suc, ◌+◌, Bool, true, false, not, ◌&&◌, ◌||◌, nat_lt}
use Rattle.std.specs.Prelude.{if◌then◌else◌, List, [], ◌∷◌, ◌++◌, map, Option, Some, None, is_some, is_none}
use Rattle.std.specs.Prelude.{unwrap_or, option_map, slice_index_or, slice_set}
use Rattle.ring_core.specs.declared.event.Stage.{Stage}
use Rattle.ring_core.specs.declared.event.Stage.TheVariants.{Idle, Holding, Closed}
use Rattle.ring_core.specs.declared.event.Event.{Event}
use Rattle.ring_core.specs.declared.event.Event.TheVariants.{Look, Fill, Publish, See, Open, Close, Advance}
use Rattle.ring_core.specs.declared.event.Event.TheVariants.{Leave}
use Rattle.ring_core.specs.Schedule.{Schedule, readers, Progress, Lanes, progress_of, lanes_of, lane_place}

abbrev pub is_idle : Stage → Bool
is_idle Idle = true
is_idle Holding = false
is_idle Closed = false

abbrev pub is_holding : Stage → Bool
is_holding Idle = false
is_holding Holding = true
is_holding Closed = false

abbrev pub is_closed : Stage → Bool
is_closed Idle = false
is_closed Holding = false
is_closed Closed = true

-- there is a number, and it exceeds low
abbrev pub is_above : ℕ → Option ℕ → Bool
is_above low None = false
is_above low (Some n) = nat_lt low n

-- there is a number, and it is less than high
abbrev pub is_below : ℕ → Option ℕ → Bool
is_below high None = false
is_below high (Some n) = nat_lt n high

-- p holds for each number below n
abbrev pub each_below : ℕ → (ℕ → Bool) → Bool
each_below zero p = true
each_below (suc n) p = each_below n p && p n

-- The state of one reader that makes its event possible.

abbrev pub can_fill : ℕ → ℕ → ℕ → Progress → Lanes → Bool
can_fill places total head p l =
    is_above head (option_map (λ k. k + places) p.known) && (nat_lt head total && not l.filled)

-- the writer saw it leave, or filled its lane
abbrev pub is_ready : Progress → Lanes → Bool
is_ready p l = is_none p.known || l.filled

abbrev pub can_open : Progress → Lanes → Bool
can_open p l = is_below p.seen p.cursor && is_idle l.stage

abbrev pub can_close : Progress → Lanes → Bool
can_close p l = is_some p.cursor && is_holding l.stage

abbrev pub can_advance : Progress → Lanes → Bool
can_advance p l = is_some p.cursor && is_closed l.stage

abbrev pub can_leave : Progress → Lanes → Bool
can_leave p l = is_some p.cursor && is_idle l.stage

-- whether the event is possible
abbrev pub can_be : Schedule → Event → Bool
can_be s (Look r) = nat_lt r (readers s)
can_be s (Fill r) = nat_lt r (readers s) && can_fill s.places s.total s.head (progress_of s r) (lanes_of s r)
can_be s Publish =
    nat_lt s.head s.total && each_below (readers s) (λ r. is_ready (progress_of s r) (lanes_of s r))
can_be s (See r) = nat_lt r (readers s) && is_some (progress_of s r).cursor
can_be s (Open r) = nat_lt r (readers s) && can_open (progress_of s r) (lanes_of s r)
can_be s (Close r) = nat_lt r (readers s) && can_close (progress_of s r) (lanes_of s r)
can_be s (Advance r) = nat_lt r (readers s) && can_advance (progress_of s r) (lanes_of s r)
can_be s (Leave r) = nat_lt r (readers s) && can_leave (progress_of s r) (lanes_of s r)

abbrev pub IsAdvance : Event → Type 0
IsAdvance (Look r) = ⊥
IsAdvance (Fill r) = ⊥
IsAdvance Publish = ⊥
IsAdvance (See r) = ⊥
IsAdvance (Open r) = ⊥
IsAdvance (Close r) = ⊥
IsAdvance (Advance r) = Unit {0}
IsAdvance (Leave r) = ⊥

-- the cursor of reader r
abbrev pub cursor_at : Schedule → ℕ → ℕ
cursor_at s r = unwrap_or (progress_of s r).cursor 0

-- the effect of the event, where it is possible
abbrev pub after : Schedule → Event → Schedule
after s (Look r) = record s { known = slice_set s.known r (progress_of s r).cursor }
after s (Fill r) = record s {
  filled = slice_set s.filled r true;
  lane = slice_set s.lane (lane_place s.places r s.head) (Some s.head);
}
after s Publish = record s { head = s.head + 1; filled = map (λ _. false) s.filled }
after s (See r) = record s { seen = slice_set s.seen r s.head }
after s (Open r) = record s {
  stage = slice_set s.stage r Holding;
  lane = slice_set s.lane (lane_place s.places r (cursor_at s r)) None;
}
after s (Close r) = record s {
  stage = slice_set s.stage r Closed;
  lane = slice_set s.lane (lane_place s.places r (cursor_at s r)) (Some (cursor_at s r));
}
after s (Advance r) = record s {
  cursor = slice_set s.cursor r (Some (cursor_at s r + 1));
  stage = slice_set s.stage r Idle;
  taken = slice_set s.taken r (slice_index_or s.taken r [] ++ cursor_at s r ∷ []);
}
after s (Leave r) = record s { cursor = slice_set s.cursor r None }

-- an event that is not possible changes nothing
abbrev pub step : Schedule → Event → Schedule
step s e = if can_be s e then after s e else s

-- the schedule after a list of events
abbrev pub run : Schedule → List Event → Schedule
run s [] = s
run s (e ∷ es) = run (step s e) es
