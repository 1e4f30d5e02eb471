-- Counting the 1 bits of bytes given one by one.
use Rattle.std.proofs.Common.{◌≡◌, ℕ, zero, suc, ◌+◌, ◌*◌, ◌≤◌, List, [], ◌∷◌, ◌++◌, take, drop, count_ones, refl, ap, sym, ◌∙◌, add-one, arith}
use Rattle.std.proofs.lemmas.List.Sums.{sum_by_push}
use Rattle.drill_mem.specs.Dots.{row_dots}

-- the first `count` of these bytes are counted, and the others are left
pub record HasCounted (all left : List ℕ) (count ones : ℕ) : Type 0 where
  pub left_is : left ≡ drop count all
  pub ones_are : ones ≡ row_dots (take count all)
  pub few : ones ≤ 8 * count

pub counted_none : (all : List ℕ) → HasCounted all all 0 0
counted_none all = record { left_is = refl; ones_are = refl; few = omega arith }

-- the byte at an index, and the bytes before and after it
next_is : (all : List ℕ) (i byte : ℕ) (next : List ℕ) → drop i all ≡ byte ∷ next
    → (next ≡ drop (suc i) all) × (take (suc i) all ≡ take i all ++ byte ∷ [])
next_is [] zero byte next h = cc
next_is [] (suc i) byte next h = cc
next_is (x ∷ xs) zero byte next h = (cc, let e : x ≡ byte = cc in ap {A = ℕ} (λ b. b ∷ []) e)
next_is (x ∷ xs) (suc i) byte next h =
    let parts = next_is xs i byte next h in (parts.0, ap {A = List ℕ} (λ l. x ∷ l) parts.1)

-- one more byte
pub counted_more : (all left next : List ℕ) (count ones byte : ℕ) → HasCounted all left count ones → left ≡ byte ∷ next
    → (more : ℕ) → more ≡ count_ones byte → more ≤ 8 → HasCounted all next (count + 1) (ones + more)
counted_more all left next count ones byte h is more is_more eight =
    let parts = next_is all count byte next (sym h.left_is ∙ is) in
    record {
      left_is = rw add-one parts.0;
      ones_are = rw add-one (ap (λ n. n + more) h.ones_are ∙ ap (λ n. row_dots (take count all) + n) is_more ∙ sym (ap row_dots parts.1 ∙ sum_by_push count_ones (take count all) byte));
      few = omega (arith, h.few, eight);
    }

-- if none is left, all are counted
ended : (all : List ℕ) (i n : ℕ) → [] ≡ drop i all → i ≤ n → take i all ≡ take n all
ended [] zero zero h less = refl
ended [] zero (suc n) h less = refl
ended [] (suc i) zero h less = refl
ended [] (suc i) (suc n) h less = refl
ended (x ∷ xs) zero n h less = cc
ended (x ∷ xs) (suc i) zero h less = absurd (omega arith)
ended (x ∷ xs) (suc i) (suc n) h less = ap {A = List ℕ} (λ l. x ∷ l) (ended xs i n h (omega arith))

pub counted_all : (all left : List ℕ) (count ones n : ℕ) → HasCounted all left count ones → left ≡ [] → count ≤ n
    → ones ≡ row_dots (take n all)
counted_all all left count ones n h none less = h.ones_are ∙ ap row_dots (ended all count n (sym none ∙ h.left_is) less)
