-- The ink keys of a plate: the key of a column, and how many pixels of a row and of a plate are 1 at a key.
use Rattle.std.specs.Prelude.{◌≡◌, ◌<◌, ◌≤◌, ◌↔◌, ℕ, ◌+◌, ◌-◌, ◌*◌, ◌/◌, ◌==◌, ◌&&◌, List, count_by, sum_by}
use Rattle.std.specs.Int.{div_ceil}
use Rattle.std.specs.List.{range_with_len}
use Rattle.pr_base.specs.Bits.{bit_at}
use Rattle.pr_base.specs.declared.ink.Ink.{Ink}
use Rattle.plan_json.specs.Data.{PlanData, plate_width}
use Rattle.plan_rows.specs.declared.group.Group.{Group}
use Rattle.plan_rows.specs.Plates.{plate_rows}

-- the key of column x of a row of this width; keys are of nearly equal width and numbered from the left
abbrev pub key_of : ℕ → ℕ → ℕ → ℕ
key_of width keys x = x * keys / width

-- how many pixels of a row are 1 at the columns of key k
unfoldable pub key_dots : ℕ → ℕ → List ℕ → ℕ → ℕ
key_dots width keys row k =
    count_by (λ x. bit_at row x && (key_of width keys x == k)) (range_with_len 0 width)

-- how many pixels of a plate are 1 at the columns of key k, given all rows of the edition in order
abbrev pub key_count : PlanData → List (List ℕ) → Group → Ink → ℕ → ℕ → ℕ
key_count plan rows group ink keys k =
    sum_by (λ row. key_dots (plate_width plan) keys row k) (plate_rows plan rows (group, ink))

-- the first column of key k: k * width / keys, rounded up
unfoldable pub first_column : ℕ → ℕ → ℕ → ℕ
first_column width keys k = div_ceil (k * width) keys

-- how many pixels of a row are 1 at the columns in the range from..to
unfoldable pub dots_between : List ℕ → ℕ → ℕ → ℕ
dots_between row from to = count_by (bit_at row) (range_with_len from (to - from))

-- the columns of key k are those from its first one to before the first one of the next key
abbrev pub KeyHasColumns : ℕ → ℕ → ℕ → ℕ → Type 0
KeyHasColumns width keys k x =
    (key_of width keys x ≡ k) ↔ ((first_column width keys k ≤ x) × (x < first_column width keys (k + 1)))
