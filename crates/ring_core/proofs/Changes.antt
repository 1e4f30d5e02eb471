-- The changes that events make, in one reader's part.
use Rattle.std.specs.Prelude.{ℕ, ◌+◌, ◌%◌, true, false, nat_eq, if◌then◌else◌, [], ◌∷◌, ◌++◌, Option, Some, None}
use Rattle.ring_core.specs.declared.event.Stage.TheVariants.{Idle, Holding, Closed}
use Rattle.ring_core.specs.Schedule.{Progress, Lanes}

-- the row at each row's place, once v is stored at the place of row n
abbrev pub put_row : ℕ → ℕ → Option ℕ → (ℕ → Option ℕ) → ℕ → Option ℕ
put_row places n v row k = if nat_eq (k % places) (n % places) then v else row k

abbrev pub looked : Progress → Progress
looked p = record p { known = p.cursor }

abbrev pub saw : ℕ → Progress → Progress
saw head p = record p { seen = head }

abbrev pub advanced : ℕ → Progress → Progress
advanced c p = record p { cursor = Some (c + 1); taken = p.taken ++ c ∷ [] }

abbrev pub departed : Progress → Progress
departed p = record p { cursor = None }

abbrev pub filled_with : ℕ → ℕ → Lanes → Lanes
filled_with places head l = record l { filled = true; row = put_row places head (Some head) l.row }

abbrev pub unfilled : Lanes → Lanes
unfilled l = record l { filled = false }

abbrev pub opened : ℕ → ℕ → Lanes → Lanes
opened places c l = record l { stage = Holding; row = put_row places c None l.row }

abbrev pub closed : ℕ → ℕ → Lanes → Lanes
closed places c l = record l { stage = Closed; row = put_row places c (Some c) l.row }

abbrev pub settled : Lanes → Lanes
settled l = record l { stage = Idle }
