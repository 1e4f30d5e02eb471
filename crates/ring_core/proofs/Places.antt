-- Row numbers and their places, and what each place holds after a write.
use Rattle.std.proofs.Common.{◌≡◌, ℕ, suc, ◌+◌, ◌*◌, ◌/◌, ◌%◌, ◌<◌, ◌≤◌, ◌≢◌, ◌⊎◌, Option, inl, inr, ap, ◌∙◌, sym, mul-le-mul_right, suc-mul, lt_of_not-le, div-add-mod', arith, cond}
use Rattle.std.specs.Prelude.{Some}
use Rattle.std.proofs.lemmas.Bool.{cases_eq, eq-eqb, ne_eqb}
use native.Mathlib.Decide.{dec_le}
use Rattle.ring_core.proofs.Changes.{put_row}

pub further : (x y n : ℕ) → x < y → x * n + n ≤ y * n
further x y n h = let a : suc x * n ≤ y * n = mul-le-mul_right n h in omega (arith, suc-mul x n)

-- two row numbers less than one turn apart and at the same place are equal
pub one_turn : (n a b : ℕ) → a ≤ b → b < a + n → a % n ≡ b % n → a ≡ b
one_turn n a b le lt e =
    let x : ℕ = a / n * n in
    let y : ℕ = b / n * n in
    let r : ℕ = b % n in
    let p : x + r ≡ a = ap (λ (k : ℕ). x + k) (sym e) ∙ div-add-mod' a n in
    let q : y + r ≡ b = div-add-mod' b n in
    elim (dec_le (b / n) (a / n)) [
      | yes d ↦ let m : y ≤ x = mul-le-mul_right n d in omega arith
      | no d ↦ let m : x + n ≤ y = further (a / n) (b / n) n (lt_of_not-le d) in absurd (omega arith)
    ]

-- two different row numbers less than one turn apart have different places
pub apart : (n a b : ℕ) → a < b → b < a + n → a % n ≢ b % n
apart n a b l lt e = let h : a ≡ b = one_turn n a b (omega arith) lt e in omega arith

pub put_same : (places n : ℕ) (v : Option ℕ) (row : ℕ → Option ℕ) (k : ℕ) → k % places ≡ n % places
    → put_row places n v row k ≡ v
put_same places n v row k e = ap (λ b. cond b v (row k)) (eq-eqb (k % places) (n % places) e)

pub put_other : (places n : ℕ) (v : Option ℕ) (row : ℕ → Option ℕ) (k : ℕ) → k % places ≢ n % places
    → put_row places n v row k ≡ row k
put_other places n v row k e = ap (λ b. cond b v (row k)) (ne_eqb (k % places) (n % places) e)

-- what a place holds after a write: the value written there, or the previous one
pub put_cases : (places n : ℕ) (v : Option ℕ) (row : ℕ → Option ℕ) (k : ℕ)
    → ((k % places ≡ n % places) × (put_row places n v row k ≡ v))
    ⊎ ((k % places ≢ n % places) × (put_row places n v row k ≡ row k))
put_cases places n v row k = elim (cases_eq (k % places) (n % places)) [
  | inl e ↦ inl (e, put_same places n v row k e)
  | inr e ↦ inr (e, put_other places n v row k e)
]

-- what holds of each place that a value is found at, after a write
pub put_gives : (places n k : ℕ) (v : Option ℕ) (row : ℕ → Option ℕ) (P : ℕ → Type 0)
    → ((q : ℕ) → q % places ≡ n % places → v ≡ Some k → P q)
    → ((q : ℕ) → row q ≡ Some k → P q) → (q : ℕ) → put_row places n v row q ≡ Some k → P q
put_gives places n k v row P written stays q e = elim (put_cases places n v row q) [
  | inl s ↦ written q s.0 (sym s.1 ∙ e)
  | inr s ↦ stays q (sym s.1 ∙ e)
]
