-- What the ends of a ring keep of its numbers.
use Rattle.std.specs.Prelude.{◌≡◌, ◌<◌, ◌≤◌, length}
use Rattle.ring_rule.specs.declared.view.RingNumbers.{RingNumbers}
use Rattle.ring_rule.specs.Views.{left_word}
use Rattle.ring_lanes.specs.declared.numbers.Numbers.{Numbers}

-- a ring of these numbers
pub record HasNumbers (ring : RingNumbers) (n : Numbers) : Type 0 where
  pub places_is : ring.places ≡ n.places
  pub readers_is : ring.readers ≡ n.readers
  pub total_is : ring.total ≡ n.total
  pub row_len_is : ring.row_len ≡ n.row_len
  pub some_place : 1 ≤ n.places
  pub few_readers : n.readers ≤ 17
  -- the cursor word of a reader that left is not a number of rows
  pub total_in : n.total < left_word
  pub rows_in : length ring.rows ≡ n.total
  pub some_byte : 1 ≤ n.row_len
  pub few_bytes : n.row_len ≤ 8258
