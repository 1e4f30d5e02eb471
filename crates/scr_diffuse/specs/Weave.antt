-- Eight interleaved rows.
use Rattle.std.specs.Prelude.{◌≡◌, ℕ, ◌+◌, ◌-◌, ◌*◌, ◌/◌, ◌%◌, ◌<◌, if◌then◌else◌, nat_lt}
use Rattle.std.specs.Prelude.{List, [], length, slice_index, slice_index_or}
use Rattle.std.specs.Borrow.{Bor}
use Rattle.scr_diffuse.specs.Block.{row_in}

-- the value in column x of a row that is so many columns behind: 0 before the row's first column, and 0 past
-- its last one, since reading past the end gives 0
abbrev pub value_behind : List ℕ → ℕ → ℕ → ℕ
value_behind row x behind = (if nat_lt x behind then 0 else slice_index row (x - behind))

-- the first columns of eight rows, interleaved: the eight values of a column are contiguous, and each row is
-- three columns behind the one before it
pub record HasColumns (rows : List (Bor (List ℕ))) (count : ℕ) (columns : List ℕ) : Type 0 where
  pub each : (k x : ℕ) → k < 8 → x < count
      → slice_index columns (8 * x + k) ≡ value_behind (row_in rows k) x (3 * k)

-- eight vectors of sixteen places each
abbrev pub AreVectors : List (List ℕ) → Type 0
AreVectors vectors = (k : ℕ) → k < 8 → length (slice_index_or vectors k []) ≡ 16

-- the value at a place of eight vectors of sixteen
abbrev pub woven_at : List (List ℕ) → ℕ → ℕ
woven_at vectors n = slice_index (slice_index_or vectors (n / 16) []) (n % 16)
