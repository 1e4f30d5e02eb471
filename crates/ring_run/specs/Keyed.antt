-- The key counts of a job's plates, as a run leaves them.
use Rattle.std.specs.Prelude.{◌≡◌, ℕ, List, Option, length, None, Some}
use Rattle.plan_json.specs.Data.{PlanData, plate_width}
use Rattle.plan_rows.specs.Groups.{groups_of}
use Rattle.plan_rows.specs.Rows.{rows_of}
use Rattle.ink_keys.specs.Counts.{CountsData, no_counts}
use Rattle.ink_keys.specs.Plates.{AreKeyCounts}
use Rattle.ink_keys.specs.Turn.{KeyReaderData}

-- the counts are those of a plan's groups, by its plates' width and this many keys, and each count of a plate
-- is that of its rows, among all rows in order
pub record KeysFit (plan : PlanData) (rows : List (List ℕ)) (keys : ℕ) (counts : CountsData) : Type 0 where
  pub groups_are : counts.groups ≡ length (groups_of plan)
  pub width_is : counts.width ≡ plate_width plan
  pub keys_are : counts.keys ≡ keys
  pub each : AreKeyCounts plan rows counts

-- a key reader for the rows of a plan, with counts of nothing yet
pub record IsFreshKey (plan : PlanData) (key : KeyReaderData) : Type 0 where
  pub rows_are : key.rows ≡ rows_of plan
  pub zeros : key.counts ≡ no_counts (length (groups_of plan)) (plate_width plan) key.counts.keys

-- the same for the key reader of a run, if it has one
abbrev pub AreFreshKeys : PlanData → Option KeyReaderData → Type 0
AreFreshKeys plan None = Unit {0}
AreFreshKeys plan (Some key) = IsFreshKey plan key

-- how many readers a run has after its sites
abbrev pub further_count : Option KeyReaderData → ℕ
further_count None = 0
further_count (Some key) = 1

-- the counts of a run fit where it has a key reader; otherwise it has none
abbrev pub CountsFit : PlanData → List (List ℕ) → Option KeyReaderData → Option CountsData → Type 0
CountsFit plan rows None counts = counts ≡ None
CountsFit plan rows (Some key) (Some counts) = KeysFit plan rows key.counts.keys counts
CountsFit plan rows (Some key) None = ⊥
