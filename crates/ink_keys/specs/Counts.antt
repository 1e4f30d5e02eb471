-- The counts of all ink keys of the plates of an edition, as contracts see them.
use Rattle.std.specs.Prelude.{◌≡◌, ◌<◌, ◌≤◌, ℕ, ◌+◌, ◌*◌, ◌/◌, ◌==◌, ◌&&◌, if◌then◌else◌, List, length, map}
use Rattle.std.specs.Prelude.{replicate, slice_index}
use Rattle.std.specs.List.{range_with_len}
use Rattle.pr_base.specs.declared.ink.Ink.{Ink}
use Rattle.pr_base.specs.Ink.{slot_of}
use Rattle.ink_keys.specs.Keys.{first_column, key_dots}

-- what contracts see of counts
pub record CountsData : Type 0 where
  -- how many groups their row plan has
  pub groups : ℕ
  pub width : ℕ
  pub keys : ℕ
  -- one number per key, for each of five slots, for each group
  pub numbers : List ℕ

-- the initial counts, all zero
abbrev pub no_counts : ℕ → ℕ → ℕ → CountsData
no_counts groups width keys = record {
  groups = groups;
  width = width;
  keys = keys;
  numbers = replicate (groups * 5 * keys) 0;
}

-- how many numbers come before those of a group and an ink
abbrev pub keys_before : ℕ → ℕ → Ink → ℕ
keys_before keys group ink = (group * 5 + slot_of ink) * keys

-- the count of key k of a group and an ink
abbrev pub number_at : CountsData → ℕ → Ink → ℕ → ℕ
number_at counts group ink k = slice_index counts.numbers (keys_before counts.keys group ink + k)

-- each count is at most 65,535 times the number of rows counted
abbrev pub IsBounded : CountsData → ℕ → Type 0
IsBounded counts rows = (place : ℕ) → slice_index counts.numbers place ≤ 65535 * rows

-- what a row of a group and an ink adds to the count of key k of group g and ink i: its dots at the key if it
-- is of group g and ink i, otherwise nothing
unfoldable pub row_adds : ℕ → ℕ → ℕ → Ink → List ℕ → ℕ → Ink → ℕ → ℕ
row_adds width keys group ink row g i k =
    if (group == g) && (slot_of ink == slot_of i) then key_dots width keys row k else 0

-- a row of a group and an ink was added; all other counts are unchanged
pub record AddsRow (group : ℕ) (ink : Ink) (row : List ℕ) (old new : CountsData) : Type 0 where
  pub same : new ≡ record old { numbers = new.numbers }
  pub each : (g : ℕ) (i : Ink) (k : ℕ) → k < old.keys
      → number_at new g i k ≡ number_at old g i k + row_adds old.width old.keys group ink row g i k
  -- no number grows by more than 65,535, the most pixels that a row has
  pub most : (place : ℕ) → slice_index new.numbers place ≤ slice_index old.numbers place + 65535

-- the invariant of counts between calls: one number for each key, the first column of each key followed by
-- the width, and a buffer of whole words for one unpacked row
pub record IsCounts (groups width keys : ℕ) (numbers firsts row : List ℕ) : Type 0 where
  pub wide : 1 ≤ width
  pub narrow : width ≤ 65535
  pub some_key : 1 ≤ keys
  pub few_keys : keys ≤ 64
  pub few_groups : groups ≤ 8192
  pub count : length numbers ≡ groups * 5 * keys
  pub firsts_are : firsts ≡ map (first_column width keys) (range_with_len 0 (keys + 1))
  pub room : length row ≡ 8 * (width / 64 + 1)
