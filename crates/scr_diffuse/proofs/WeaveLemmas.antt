-- Eight vectors of sixteen places: interleaving two halves three times gives the columns one after the other.
use Rattle.std.proofs.Common.{◌≡◌, ℕ, ◌+◌, ◌-◌, ◌*◌, ◌/◌, ◌%◌, ◌<◌, ◌≤◌, cond, List, [], ◌∷◌, ◌++◌, length, get_or, refl, ap, sym, subst, ◌∙◌, inl, inr, arith}
use Rattle.std.specs.Borrow.{Bor}
use Rattle.std.proofs.lemmas.Bool.{cases_eq, cases_lt, le-ltb}
use Rattle.std.proofs.lemmas.List.{get_or_append_left, get_or-append-add}
use borrow.Rule.Slice.PartMut.{put_mid}
use Rattle.pr_base.proofs.Parts.{part_below, part_here}
use Rattle.scr_diffuse.specs.Block.{row_in}
use Rattle.scr_diffuse.specs.Weave.{AreVectors, HasColumns, value_behind, woven_at}
use Rattle.scr_diffuse.proofs.LaneLemmas.{each_of_eight}

-- a property of each number below 16
each_of_sixteen : (P : ℕ → Type 0) → P 0 → P 1 → P 2 → P 3 → P 4 → P 5 → P 6 → P 7 → P 8 → P 9 → P 10 → P 11
    → P 12 → P 13 → P 14 → P 15 → (k : ℕ) → k < 16 → P k
each_of_sixteen P a b c d e f g h i j k l m n o p x within =
    elim (cases_lt x 8) [
      | inl low ↦ each_of_eight P a b c d e f g h x low
      | inr high ↦ (let place : 8 + (x - 8) ≡ x = omega arith in subst P place (each_of_eight (λ y. P (8 + y)) i j k l m n o p (x - 8) (omega arith)))
    ]

-- the first halves of two vectors, interleaved, and the second halves
abbrev pub low : List ℕ → List ℕ → List ℕ
low a b =
    get_or (a ++ b) 0 0 ∷ get_or (a ++ b) 16 0 ∷ get_or (a ++ b) 1 0 ∷ get_or (a ++ b) 17 0 ∷ get_or (a ++ b) 2 0 ∷ get_or (a ++ b) 18 0 ∷ get_or (a ++ b) 3 0 ∷ get_or (a ++ b) 19 0
    ∷ get_or (a ++ b) 4 0 ∷ get_or (a ++ b) 20 0 ∷ get_or (a ++ b) 5 0 ∷ get_or (a ++ b) 21 0 ∷ get_or (a ++ b) 6 0 ∷ get_or (a ++ b) 22 0 ∷ get_or (a ++ b) 7 0 ∷ get_or (a ++ b) 23 0 ∷ []

abbrev pub high : List ℕ → List ℕ → List ℕ
high a b =
    get_or (a ++ b) 8 0 ∷ get_or (a ++ b) 24 0 ∷ get_or (a ++ b) 9 0 ∷ get_or (a ++ b) 25 0 ∷ get_or (a ++ b) 10 0 ∷ get_or (a ++ b) 26 0 ∷ get_or (a ++ b) 11 0 ∷ get_or (a ++ b) 27 0
    ∷ get_or (a ++ b) 12 0 ∷ get_or (a ++ b) 28 0 ∷ get_or (a ++ b) 13 0 ∷ get_or (a ++ b) 29 0 ∷ get_or (a ++ b) 14 0 ∷ get_or (a ++ b) 30 0 ∷ get_or (a ++ b) 15 0 ∷ get_or (a ++ b) 31 0 ∷ []

low_at : (a b : List ℕ) (i : ℕ) → i < 16 → get_or (low a b) i 0 ≡ get_or (a ++ b) (16 * (i % 2) + i / 2) 0
low_at a b = each_of_sixteen (λ i. get_or (low a b) i 0 ≡ get_or (a ++ b) (16 * (i % 2) + i / 2) 0) refl refl refl refl refl refl refl refl refl refl refl refl refl refl refl refl

high_at : (a b : List ℕ) (i : ℕ) → i < 16
    → get_or (high a b) i 0 ≡ get_or (a ++ b) (16 * (i % 2) + (8 + i / 2)) 0
high_at a b = each_of_sixteen (λ i. get_or (high a b) i 0 ≡ get_or (a ++ b) (16 * (i % 2) + (8 + i / 2)) 0) refl refl refl refl refl refl refl refl refl refl refl refl refl refl refl refl

-- a place of two vectors joined end to end
half : (v : List (List ℕ)) (t s m : ℕ) → t < 4 → s < 2 → m < 16 → AreVectors v
    → get_or (get_or v t [] ++ get_or v (t + 4) []) (16 * s + m) 0 ≡ get_or (get_or v (t + 4 * s) []) m 0
half v t s m few two within long =
    elim (cases_eq s 0) [
      | inl first ↦
          (let place : 16 * s + m ≡ m = omega arith in
          let vector : t + 4 * s ≡ t = omega arith in
          ap (λ n. get_or (get_or v t [] ++ get_or v (t + 4) []) n 0) place ∙ get_or_append_left (get_or v t []) (get_or v (t + 4) []) 0 m (omega (arith, long t (omega arith)))
          ∙ ap (λ n. get_or (get_or v n []) m 0) (sym vector))
      | inr second ↦
          (let place : 16 * s + m ≡ length (get_or v t []) + m = omega (arith, long t (omega arith)) in
          let vector : t + 4 * s ≡ t + 4 = omega arith in
          ap (λ n. get_or (get_or v t [] ++ get_or v (t + 4) []) n 0) place ∙ get_or-append-add (get_or v t []) (get_or v (t + 4) []) m 0
          ∙ ap (λ n. get_or (get_or v n []) m 0) (sym vector))
    ]

-- eight vectors, the first half interleaved with the second
abbrev pub weave_of : List (List ℕ) → List (List ℕ)
weave_of v =
    low (get_or v 0 []) (get_or v 4 []) ∷ high (get_or v 0 []) (get_or v 4 []) ∷ low (get_or v 1 []) (get_or v 5 []) ∷ high (get_or v 1 []) (get_or v 5 [])
    ∷ low (get_or v 2 []) (get_or v 6 []) ∷ high (get_or v 2 []) (get_or v 6 []) ∷ low (get_or v 3 []) (get_or v 7 []) ∷ high (get_or v 3 []) (get_or v 7 []) ∷ []

weave_low : (v : List (List ℕ)) (t i a b : ℕ) → t < 4 → i < 16 → AreVectors v → t + 4 * (i % 2) ≡ a
    → i / 2 ≡ b → get_or (low (get_or v t []) (get_or v (t + 4) [])) i 0 ≡ get_or (get_or v a []) b 0
weave_low v t i a b few within long vector place =
    low_at (get_or v t []) (get_or v (t + 4) []) i within ∙ half v t (i % 2) (i / 2) few (omega arith) (omega arith) long
    ∙ ap (λ n. get_or (get_or v n []) (i / 2) 0) vector ∙ ap (λ n. get_or (get_or v a []) n 0) place

weave_high : (v : List (List ℕ)) (t i a b : ℕ) → t < 4 → i < 16 → AreVectors v → t + 4 * (i % 2) ≡ a
    → 8 + i / 2 ≡ b → get_or (high (get_or v t []) (get_or v (t + 4) [])) i 0 ≡ get_or (get_or v a []) b 0
weave_high v t i a b few within long vector place =
    high_at (get_or v t []) (get_or v (t + 4) []) i within ∙ half v t (i % 2) (8 + i / 2) few (omega arith) (omega arith) long
    ∙ ap (λ n. get_or (get_or v n []) (8 + i / 2) 0) vector ∙ ap (λ n. get_or (get_or v a []) n 0) place

-- place i of vector j
weave_vector : (v : List (List ℕ)) (i a b j : ℕ) → j < 8 → i < 16 → AreVectors v → j / 2 + 4 * (i % 2) ≡ a
    → 8 * (j % 2) + i / 2 ≡ b → get_or (get_or (weave_of v) j []) i 0 ≡ get_or (get_or v a []) b 0
weave_vector v i a b j few within long =
    each_of_eight (λ j. j / 2 + 4 * (i % 2) ≡ a → 8 * (j % 2) + i / 2 ≡ b → get_or (get_or (weave_of v) j []) i 0 ≡ get_or (get_or v a []) b 0)
    (λ x y. weave_low v 0 i a b (omega arith) within long (omega arith) (omega arith)) (λ x y. weave_high v 0 i a b (omega arith) within long (omega arith) (omega arith))
    (λ x y. weave_low v 1 i a b (omega arith) within long (omega arith) (omega arith)) (λ x y. weave_high v 1 i a b (omega arith) within long (omega arith) (omega arith))
    (λ x y. weave_low v 2 i a b (omega arith) within long (omega arith) (omega arith)) (λ x y. weave_high v 2 i a b (omega arith) within long (omega arith) (omega arith))
    (λ x y. weave_low v 3 i a b (omega arith) within long (omega arith) (omega arith)) (λ x y. weave_high v 3 i a b (omega arith) within long (omega arith) (omega arith))
    j few

pub weave_at : (v : List (List ℕ)) (n : ℕ) → n < 128 → AreVectors v
    → woven_at (weave_of v) n ≡ woven_at v (64 * (n % 2) + n / 2)
weave_at v n within long =
    weave_vector v (n % 16) ((64 * (n % 2) + n / 2) / 16) ((64 * (n % 2) + n / 2) % 16) (n / 16) (omega arith) (omega arith) long (omega arith) (omega arith)

-- the places of the vectors of eight rows after interleaving three times
pub thrice_at : (v one two three : List (List ℕ)) (k x : ℕ) → k < 8 → x < 16
    → ((n : ℕ) → n < 128 → woven_at one n ≡ woven_at v (64 * (n % 2) + n / 2))
    → ((n : ℕ) → n < 128 → woven_at two n ≡ woven_at one (64 * (n % 2) + n / 2))
    → ((n : ℕ) → n < 128 → woven_at three n ≡ woven_at two (64 * (n % 2) + n / 2))
    → woven_at three (8 * x + k) ≡ woven_at v (16 * k + x)
thrice_at v one two three k x few within first second third =
    let a : ℕ = 8 * x + k in
    let b : ℕ = 64 * (k % 2) + (4 * x + k / 2) in
    let c : ℕ = 64 * (k / 2 % 2) + (32 * (k % 2) + (2 * x + k / 4)) in
    let ab : 64 * (a % 2) + a / 2 ≡ b = omega arith in
    let bc : 64 * (b % 2) + b / 2 ≡ c = omega arith in
    let cd : 64 * (c % 2) + c / 2 ≡ 16 * k + x = omega arith in
    third a (omega arith) ∙ ap (woven_at two) ab ∙ second b (omega arith) ∙ ap (woven_at one) bc ∙ first c (omega arith) ∙ ap (woven_at v) cd

-- ---- the columns of a list of which a part was written

-- from its first column on, the value is the row's own
pub value-within : (row : List ℕ) (x behind : ℕ) → behind ≤ x
    → value_behind row x behind ≡ get_or row (x - behind) 0
value-within row x behind from = ap (λ b. cond b 0 (get_or row (x - behind) 0)) (le-ltb x behind from)

-- one more vector of a block
pub block_more : (rows : List (Bor (List ℕ))) (first k at cut : ℕ) (columns part : List ℕ)
    (woven : List (List ℕ)) → at ≡ 8 * first + 16 * k → cut ≡ 16 → at + cut ≤ length columns
    → length part ≡ cut → part ≡ get_or woven k [] → (m : ℕ) → m < 16 * (k + 1)
    → ((m : ℕ) → m < 16 * k → get_or columns (8 * first + m) 0 ≡ woven_at woven m)
    → get_or (put_mid at cut columns part) (8 * first + m) 0 ≡ woven_at woven m
block_more rows first k at cut columns part woven at_is cut_is room long part_is m within before =
    elim (cases_lt m (16 * k)) [
      | inl low ↦ part_below at cut columns part (8 * first + m) room (omega arith) ∙ before m low
      | inr high ↦
          (let place : 8 * first + m - at ≡ m % 16 = omega arith in
          let vector : k ≡ m / 16 = omega arith in
          part_here at cut columns part (8 * first + m) room long (omega arith) (omega arith)
          ∙ ap (λ n. get_or part n 0) place ∙ ap (λ list. get_or list (m % 16) 0) part_is ∙ ap (λ n. get_or (get_or woven n []) (m % 16) 0) vector)
    ]

-- the columns before a part that was written
pub columns_before : (rows : List (Bor (List ℕ))) (first at cut : ℕ) (columns part : List ℕ)
    → HasColumns rows first columns → 8 * first ≤ at → at + cut ≤ length columns
    → HasColumns rows first (put_mid at cut columns part)
columns_before rows first at cut columns part has behind room = record {
  each = λ k x few within. part_below at cut columns part (8 * x + k) room (omega arith) ∙ has.each k x few within;
}

-- a block after the columns before it
pub block_done : (rows : List (Bor (List ℕ))) (first : ℕ) (columns : List ℕ) (v woven : List (List ℕ))
    → 21 ≤ first → HasColumns rows first columns
    → ((m : ℕ) → m < 128 → get_or columns (8 * first + m) 0 ≡ woven_at woven m)
    → ((k x : ℕ) → k < 8 → x < 16 → woven_at woven (8 * x + k) ≡ woven_at v (16 * k + x))
    → ((k x : ℕ) → k < 8 → x < 16 → woven_at v (16 * k + x) ≡ get_or (row_in rows k) (first - 3 * k + x) 0)
    → HasColumns rows (first + 16) columns
block_done rows first columns v woven late has here thrice values = record {
  each = λ k x few within.
      elim (cases_lt x first) [
        | inl before ↦ has.each k x few before
        | inr behind ↦
            (let y : ℕ = x - first in
            let place : 8 * x + k ≡ 8 * first + (8 * y + k) = omega arith in
            let column : first - 3 * k + y ≡ x - 3 * k = omega arith in
            ap (λ n. get_or columns n 0) place ∙ here (8 * y + k) (omega arith) ∙ thrice k y few (omega arith) ∙ values k y few (omega arith) ∙ ap (λ n. get_or (row_in rows k) n 0) column
            ∙ sym (value-within (row_in rows k) x (3 * k) (omega arith)))
      ];
}
