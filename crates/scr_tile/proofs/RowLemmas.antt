-- Columns of a repeated row.
use Rattle.std.proofs.Common.{◌≡◌, ℕ, ◌+◌, ◌-◌, ◌%◌, ◌<◌, ◌≤◌, List, length, get_or, slice_range, ap, sym, ◌∙◌, arith}
use Rattle.scr_tile.specs.Tile.{Repeats, tile_bit}
use Rattle.std.proofs.lemmas.Nat.{mod_below}
use Rattle.std.proofs.lemmas.List.Edits.{get_or-between}
use Rattle.std.proofs.Math.Nat.{add-mod-mod, mod-add-mod, add-mod_right, mod-eq_of_lt, mod_self}

-- the column of a pixel, from the column of another pixel a few to its left
pub column_within : (a b width : ℕ) → a % width + b % width < width → (a + b) % width ≡ a % width + b % width
column_within a b width within =
    sym (add-mod-mod a b width) ∙ sym (mod-add-mod a width (b % width)) ∙ mod-eq_of_lt within

pub column_past : (a b width : ℕ) → 0 < width → width ≤ a % width + b % width → (a + b) % width ≡ a % width + b % width - width
column_past a b width above past =
    let first : a % width < width = mod_below a width above in
    let second : b % width < width = mod_below b width above in
    let past_by : a % width + b % width - width + width ≡ a % width + b % width = omega arith in
    let left : a % width + b % width - width < width = omega arith in
    sym (add-mod-mod a b width) ∙ sym (mod-add-mod a width (b % width)) ∙ ap (λ n. n % width) (sym past_by)
    ∙ add-mod_right (a % width + b % width - width) width ∙ mod-eq_of_lt left

-- the column after the last one of a row that starts again
pub column_wraps : (i width : ℕ) → i % width + 1 ≡ width → (i + 1) % width ≡ 0
column_wraps i width whole =
    sym (mod-add-mod i width 1) ∙ ap (λ n. n % width) whole ∙ mod_self width

pub column_next : (i width : ℕ) → i % width + 1 < width → (i + 1) % width ≡ i % width + 1
column_next i width within = sym (mod-add-mod i width 1) ∙ mod-eq_of_lt within

-- the threshold of a pixel, from the column of the first pixel
pub repeats_at : (row numbers : List ℕ) (n start done column x : ℕ) → Repeats row n numbers → 0 < length row → column ≡ (start + done) % length row → column + x < n → get_or numbers (column + x) 0 ≡ get_or row ((start + (done + x)) % length row) 0
repeats_at row numbers n start done column x repeats above here within =
    let whole : start + done + x ≡ start + (done + x) = omega arith in
    repeats (column + x) within
    ∙ ap (λ k. get_or row k 0) (ap (λ c. (c + x) % length row) here ∙ mod-add-mod (start + done) (length row) x ∙ ap (λ k. k % length row) whole)

-- the column b pixels further on, from the column of the first pixel
pub step_within : (a b width column : ℕ) → column ≡ a % width → column + b % width < width → column + b % width ≡ (a + b) % width
step_within a b width column here within =
    ap (λ c. c + b % width) here ∙ sym (column_within a b width (omega arith))

pub step_past : (a b width column : ℕ) → 0 < width → column ≡ a % width → width ≤ column + b % width → column + b % width - width ≡ (a + b) % width
step_past a b width column above here past =
    ap (λ c. c + b % width - width) here ∙ sym (column_past a b width above (omega arith))

-- one of m pixels, when its value and its threshold are read from slices of m items
pub bit_of_part : (row numbers values : List ℕ) (n m start done column x : ℕ) → Repeats row n numbers → 0 < length row → column ≡ (start + done) % length row → column + m ≤ n → x < m → tile_bit (get_or (slice_range values done (done + m)) x 0) (get_or (slice_range numbers column (column + m)) x 0) ≡ tile_bit (get_or values (done + x) 0) (get_or row ((start + (done + x)) % length row) 0)
bit_of_part row numbers values n m start done column x repeats above here within part =
    ap (λ v. tile_bit v (get_or (slice_range numbers column (column + m)) x 0)) (get_or-between values done (done + m) x 0 (omega arith))
    ∙ ap (λ t. tile_bit (get_or values (done + x) 0) t) (get_or-between numbers column (column + m) x 0 (omega arith)
    ∙ repeats_at row numbers n start done column x repeats above here (omega arith))
