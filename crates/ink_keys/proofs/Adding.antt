-- What a row adds to the counts.
use Rattle.std.proofs.Common.{◌≡◌, ◌≢◌, ℕ, zero, suc, ◌+◌, ◌-◌, ◌*◌, ◌/◌, ◌%◌, ◌<◌, ◌≤◌, List, [], ◌∷◌, ◌++◌, length, take, drop, map, get_or, refl, ap, sym, ◌∙◌, arith, inl, inr, subst, Ok, Err}
use Rattle.std.specs.Prelude.{Result, OnOk, OnErr, ◌==◌, ◌&&◌, if◌then◌else◌}
use Rattle.std.specs.List.{range_with_len}
use Rattle.std.proofs.lemmas.Bool.{cases_eq, cases_lt}
use Rattle.std.proofs.lemmas.Bool.Decides.{nat_tests}
use Rattle.std.proofs.lemmas.List.{append-nil, drop_all, get_or_append_left, take_all}
use Rattle.std.proofs.lemmas.List.FromFn.{get_or-map-range_with_len, length-map-range_with_len}
use Rattle.std.proofs.Math.Nat.{mul-le-mul_right}
use Rattle.pr_base.specs.Bits.{bit_at, byte_bit}
use Rattle.pr_base.specs.Row.{row_size}
use Rattle.pr_base.specs.declared.ink.Ink.{Ink}
use Rattle.pr_base.specs.Ink.{slot_of}
use Rattle.pr_base.proofs.Inks.{slot_below}
use Rattle.tif_packbits.specs.Frame.{framed_row, packed_in}
use Rattle.tif_packbits.specs.Packbits.{expansion}
use Rattle.ink_keys.specs.Keys.{key_dots, dots_between, first_column}
use Rattle.ink_keys.specs.Counts.{CountsData, IsCounts, AddsRow, keys_before, row_adds}
use Rattle.ink_keys.proofs.Columns.{first-grows, first-within, key-dots-between}
use Rattle.ink_keys.proofs.Ranges.{sum-same}
use Rattle.ink_keys.proofs.Words.{dots-most, number}

-- ---- first columns, from the list in the counts

pub first-at : (width keys : ℕ) (firsts : List ℕ) (k : ℕ) → firsts ≡ map (first_column width keys) (range_with_len 0 (keys + 1)) → k ≤ keys
    → get_or firsts k 0 ≡ first_column width keys k
first-at width keys firsts k are within =
    ap (λ xs. get_or xs k 0) are ∙ get_or-map-range_with_len (first_column width keys) 0 (keys + 1) k k 0 (omega arith) (omega arith)

pub length-firsts : (width keys : ℕ) (firsts : List ℕ) → firsts ≡ map (first_column width keys) (range_with_len 0 (keys + 1)) → length firsts ≡ keys + 1
length-firsts width keys firsts are = ap length are ∙ length-map-range_with_len (first_column width keys) 0 (keys + 1)

past : (xs : List ℕ) (k : ℕ) → length xs ≤ k → get_or xs k 0 ≡ 0
past [] k beyond = refl
past (x ∷ xs) zero beyond = absurd (omega arith)
past (x ∷ xs) (suc k) beyond = past xs k (omega arith)

pub first-most : (width keys : ℕ) (firsts : List ℕ) (k : ℕ) → firsts ≡ map (first_column width keys) (range_with_len 0 (keys + 1)) → 0 < keys → get_or firsts k 0 ≤ width
first-most width keys firsts k are some =
    elim (cases_lt k (keys + 1)) [
      | inl inside ↦ omega (arith, first-at width keys firsts k are (omega arith), first-within width keys k some (omega arith))
      | inr beyond ↦ omega (arith, past firsts k (omega (arith, length-firsts width keys firsts are)))
    ]

pub first-order : (width keys : ℕ) (firsts : List ℕ) (k : ℕ) → firsts ≡ map (first_column width keys) (range_with_len 0 (keys + 1)) → 0 < keys → k + 1 < length firsts
    → get_or firsts k 0 ≤ get_or firsts (k + 1) 0
first-order width keys firsts k are some within =
    let long = length-firsts width keys firsts are in
    omega (arith, first-at width keys firsts k are (omega arith), first-at width keys firsts (k + 1) are (omega arith), first-grows width keys k some)

-- ---- a row at the front of the row buffer

pub dots-front : (row rest : List ℕ) (width from to : ℕ) → length row ≡ row_size width → to ≤ width → dots_between (row ++ rest) from to ≡ dots_between row from to
unfolding dots_between
dots-front row rest width from to size within =
    sum-same (λ x. number (bit_at (row ++ rest) x)) (λ x. number (bit_at row x)) from (to - from)
    (λ x low high. ap (λ b. number (byte_bit b (x % 8))) (get_or_append_left row rest 0 (x / 8) (omega arith)))

-- a row that fills the buffer it is unpacked into, whatever the unpacker returns
pub unpacked : {A E : Type 0} (frame packed ahead old new : List ℕ) (result : Result A E) → packed ≡ packed_in frame → ahead ≡ expansion packed → length (framed_row frame) ≡ length old
    → OnOk result (new ≡ take (length old) ahead) → OnErr result (new ≡ ahead ++ drop (length ahead) old) → new ≡ framed_row frame
unfolding framed_row
unpacked frame packed ahead old new (Ok done) held all size filled front =
    let row : ahead ≡ expansion (packed_in frame) = all ∙ ap expansion held in
    filled ∙ take_all (length old) ahead (omega (arith, ap length row, size)) ∙ row
unpacked frame packed ahead old new (Err short) held all size filled front =
    let row : ahead ≡ expansion (packed_in frame) = all ∙ ap expansion held in
    front ∙ ap (λ rest. ahead ++ rest) (drop_all (length ahead) old (omega (arith, ap length row, size))) ∙ append-nil ahead ∙ row

-- ---- which keys a row adds to

both : (a b c d x : ℕ) → a ≡ b → c ≡ d → (if (a == b) && (c == d) then x else 0) ≡ x
both a b c d x one other = grind (arith, nat_tests)

not-first : (a b c d x : ℕ) → (a ≡ b → ⊥) → (if (a == b) && (c == d) then x else 0) ≡ 0
not-first a b c d x apart = grind (arith, nat_tests)

not-second : (a b c d x : ℕ) → (c ≡ d → ⊥) → (if (a == b) && (c == d) then x else 0) ≡ 0
not-second a b c d x apart = grind (arith, nat_tests)

pub adds-own : (width keys group : ℕ) (ink : Ink) (row : List ℕ) (g : ℕ) (i : Ink) (k : ℕ) → group ≡ g → slot_of ink ≡ slot_of i
    → row_adds width keys group ink row g i k ≡ key_dots width keys row k
unfolding row_adds
adds-own width keys group ink row g i k same slot = both group g (slot_of ink) (slot_of i) (key_dots width keys row k) same slot

pub adds-none : (width keys group : ℕ) (ink : Ink) (row : List ℕ) (g : ℕ) (i : Ink) (k : ℕ) → group * 5 + slot_of ink ≢ g * 5 + slot_of i
    → row_adds width keys group ink row g i k ≡ 0
unfolding row_adds
adds-none width keys group ink row g i k apart =
    elim (cases_eq group g) [
      | inl same ↦ not-second group g (slot_of ink) (slot_of i) (key_dots width keys row k) (λ slot. apart (omega arith))
      | inr other ↦ not-first group g (slot_of ink) (slot_of i) (key_dots width keys row k) other
    ]

-- numbers after the dots of each key were added, from index start on
pub record AddsDots (row firsts : List ℕ) (start : ℕ) (old new : List ℕ) : Type 0 where
  pub here : (k : ℕ) → k + 1 < length firsts → get_or new (start + k) 0 ≡ get_or old (start + k) 0 + dots_between row (get_or firsts k 0) (get_or firsts (k + 1) 0)
  pub below : (place : ℕ) → place < start → get_or new place 0 ≡ get_or old place 0
  pub above : (place : ℕ) → start + (length firsts - 1) ≤ place → get_or new place 0 ≡ get_or old place 0

pub adds-row : (counts : CountsData) (group : ℕ) (ink : Ink) (row room room' firsts numbers : List ℕ) → IsCounts counts.groups counts.width counts.keys counts.numbers firsts room
    → ((from to : ℕ) → to ≤ counts.width → dots_between room' from to ≡ dots_between row from to)
    → AddsDots room' firsts (keys_before counts.keys group ink) counts.numbers numbers
    → AddsRow group ink row counts (record counts { numbers = numbers })
adds-row counts group ink row room room' firsts numbers is front adds =
    let width = counts.width in
    let keys = counts.keys in
    let p = group * 5 + slot_of ink in
    let start = p * keys in
    let wide = is.wide in
    let narrow = is.narrow in
    let some = is.some_key in
    let long = length-firsts width keys firsts is.firsts_are in
    let dots : (k : ℕ) → k < keys → get_or numbers (start + k) 0 ≡ get_or counts.numbers (start + k) 0 + key_dots width keys row k =
    λ k less. adds.here k (omega arith)
    ∙ ap (λ n. get_or counts.numbers (start + k) 0 + n)
    (ap (λ n. dots_between room' n (get_or firsts (k + 1) 0)) (first-at width keys firsts k is.firsts_are (omega arith))
    ∙ ap (λ n. dots_between room' (first_column width keys k) n) (first-at width keys firsts (k + 1) is.firsts_are (omega arith))
    ∙ front (first_column width keys k) (first_column width keys (k + 1)) (first-within width keys (k + 1) some (omega arith))
    ∙ sym (key-dots-between width keys k row wide some less)) in
    record {
      same = refl;
      each = λ g i k less.
          let q = g * 5 + slot_of i in
          elim (cases_lt q p) [
            | inl lower ↦ let scaled : (q + 1) * keys ≤ p * keys = mul-le-mul_right keys (let next : q + 1 ≤ p = omega arith in next) in
                let none = adds-none width keys group ink row g i k (λ e. absurd (omega arith)) in
                let stays = adds.below (q * keys + k) (omega arith) in
                omega arith
            | inr rest ↦ elim (cases_lt p q) [
              | inl higher ↦ let scaled : (p + 1) * keys ≤ q * keys = mul-le-mul_right keys (let next : p + 1 ≤ q = omega arith in next) in
                  let none = adds-none width keys group ink row g i k (λ e. absurd (omega arith)) in
                  let stays = adds.above (q * keys + k) (omega arith) in
                  omega arith
              | inr other ↦ let equal : p ≡ q = omega arith in
                  let one = slot_below ink in
                  let two = slot_below i in
                  let own = adds-own width keys group ink row g i k (omega arith) (omega arith) in
                  let place : q * keys + k ≡ start + k = ap (λ n. n * keys + k) (sym equal) in
                  ap (λ n. get_or numbers n 0) place ∙ dots k less ∙ ap (λ n. get_or counts.numbers n 0 + key_dots width keys row k) (sym place)
                  ∙ ap (λ n. get_or counts.numbers (q * keys + k) 0 + n) (sym own)
            ]
          ];
      most = λ place.
          elim (cases_lt place start) [
            | inl before ↦ omega (arith, adds.below place before)
            | inr from ↦ elim (cases_lt place (start + keys)) [
              | inl within ↦ let k = place - start in
                  let there : start + k ≡ place = omega arith in
                  let added = adds.here k (omega arith) in
                  let few = dots-most room' (get_or firsts k 0) (get_or firsts (k + 1) 0) in
                  let high = first-most width keys firsts (k + 1) is.firsts_are some in
                  let new = ap (λ n. get_or numbers n 0) there in
                  let old = ap (λ n. get_or counts.numbers n 0) there in
                  omega arith
              | inr behind ↦ omega (arith, adds.above place (omega arith))
            ]
          ];
    }

-- a row was added, given the effect of each step
pub adds-whole : (counts : CountsData) (group : ℕ) (ink : Ink) (row room room' firsts firsts' old new numbers : List ℕ) (start : ℕ)
    → IsCounts counts.groups counts.width counts.keys counts.numbers firsts room
    → ((from to : ℕ) → to ≤ counts.width → dots_between room' from to ≡ dots_between row from to)
    → firsts' ≡ firsts → old ≡ counts.numbers → new ≡ numbers → start ≡ keys_before counts.keys group ink → AddsDots room' firsts' start old new
    → AddsRow group ink row counts (record counts { numbers = numbers })
adds-whole counts group ink row room room' firsts firsts' old new numbers start is front firsts_are old_is new_is start_is adds =
    let one : AddsDots room' firsts start old new = subst (λ (xs : List ℕ). AddsDots room' xs start old new) firsts_are adds in
    let two : AddsDots room' firsts start counts.numbers new = subst (λ (xs : List ℕ). AddsDots room' firsts start xs new) old_is one in
    let three : AddsDots room' firsts start counts.numbers numbers = subst (λ (xs : List ℕ). AddsDots room' firsts start counts.numbers xs) new_is two in
    let four : AddsDots room' firsts (keys_before counts.keys group ink) counts.numbers numbers = subst (λ (n : ℕ). AddsDots room' firsts n counts.numbers numbers) start_is three in
    adds-row counts group ink row room room' firsts numbers is front four

-- the numbers and the row buffer may be overwritten
pub still-counts : (groups width keys : ℕ) (numbers numbers' firsts row row' : List ℕ) → IsCounts groups width keys numbers firsts row → length numbers' ≡ length numbers
    → length row' ≡ length row → IsCounts groups width keys numbers' firsts row'
still-counts groups width keys numbers numbers' firsts row row' is numbers_count row_count = record {
  wide = is.wide;
  narrow = is.narrow;
  some_key = is.some_key;
  few_keys = is.few_keys;
  few_groups = is.few_groups;
  count = numbers_count ∙ is.count;
  firsts_are = is.firsts_are;
  room = row_count ∙ is.room;
}
