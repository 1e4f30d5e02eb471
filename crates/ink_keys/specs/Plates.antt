-- The counts of an edition's plates, after all of its rows passed through a ring and were counted.
use Rattle.std.specs.Prelude.{◌≡◌, ◌<◌, ℕ, List, Some, Contains, length, slice_get}
use Rattle.pr_base.specs.declared.ink.Ink.{Ink}
use Rattle.plan_json.specs.Data.{PlanData, plate_width}
use Rattle.plan_json.specs.Plan.{IsPlan}
use Rattle.plan_rows.specs.declared.group.Group.{Group}
use Rattle.plan_rows.specs.Groups.{groups_of}
use Rattle.plan_rows.specs.Inks.{inks_of}
use Rattle.plan_rows.specs.Rows.{row_places, rows_of}
use Rattle.ring_rule.specs.declared.view.RingNumbers.{RingNumbers}
use Rattle.ink_keys.specs.Keys.{key_count}
use Rattle.ink_keys.specs.Counts.{CountsData, no_counts, number_at}
use Rattle.ink_keys.specs.Turn.{AreRowsOf, CountsRows}

-- all rows of a plan, which are the rows of a ring, were counted once each, starting from zeros
pub record CountsPlan (plan : PlanData) (ring : RingNumbers) (counts : CountsData) : Type 0 where
  pub is_plan : IsPlan plan
  pub rows : AreRowsOf (plate_width plan) ring
  pub total : ring.total ≡ length (row_places plan)
  pub counted : CountsRows (rows_of plan) ring 0 ring.total
      (no_counts (length (groups_of plan)) (plate_width plan) counts.keys) counts

-- the counts of each plate, which is a group of the plan in one of its inks, are those of the plate's rows
-- among all rows of the edition in order
abbrev pub AreKeyCounts : PlanData → List (List ℕ) → CountsData → Type 0
AreKeyCounts plan rows counts =
    (index : ℕ) (group : Group) (ink : Ink) (k : ℕ) → slice_get (groups_of plan) index ≡ Some group
    → Contains (inks_of group) ink → k < counts.keys
    → number_at counts index ink k ≡ key_count plan rows group ink counts.keys k
