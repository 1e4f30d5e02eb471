-- A lane before the first row.
use Rattle.std.specs.Prelude.{◌≡◌, ℕ, Some, None, length}
use Rattle.ring_rule.specs.declared.lane.Lane.{Lane}
use Rattle.ring_rule.specs.Shown.{Slot}

-- a buffer of this length without a row number
pub record IsEmptyLane (row_len : ℕ) (slot : Slot) : Type 0 where
  pub lane : Lane
  pub is : slot ≡ Some lane
  pub number : lane.number ≡ None
  pub long : length lane.bytes.items ≡ row_len
