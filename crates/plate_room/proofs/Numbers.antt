-- Numbers among the arguments of a command line.
use Rattle.std.proofs.Common.{◌≡◌, ◌≤◌, ◌<◌, ℕ, ◌^◌, ◌&&◌, ◌==◌, not, Bool, true, false, nat_le, if◌then◌else◌, List, [], ◌∷◌, length, Some, None, Result, Ok, Err, refl, sym, subst, inl, inr, arith, rules}
use Rattle.std.proofs.lemmas.Bool.Decides.{nat_tests}
use Rattle.std.proofs.lemmas.Bool.{and_parts}
use Rattle.std.specs.Char.{is_ascii_digit}
use Rattle.std.specs.List.{list_all}
use Rattle.std.specs.Str.Parse.{ParsesUnsigned}
use Rattle.std.specs.Result.{OkIff}
use Rattle.std.proofs.lemmas.Str.Parse.{IsNumeralModel, numerals_by_fold, parse_digits}
use Rattle.plate_room.specs.Number.{value_behind, is_number, number_within, IsValue}

-- digits and their value, in the terms of std
own : IsNumeralModel (λ ds. list_all is_ascii_digit ds ≡ true) (value_behind 0)
own = numerals_by_fold _ (search rules) value_behind (search rules)

-- a number consists of digits, at least one
digits_of : (word : List ℕ) → is_number word ≡ true → (list_all is_ascii_digit word ≡ true) × (0 < length word)
digits_of [] h = absurd cc
digits_of (digit ∷ []) h = (h, omega arith)
digits_of (digit ∷ next ∷ digits) h =
    ((and_parts (not (digit == 48)) (list_all is_ascii_digit (digit ∷ next ∷ digits)) h).1, omega arith)

-- what a parse result implies for a number, case by case
pub value_ok : (E : Type 0) (word : List ℕ) (r : Result ℕ E) (n : ℕ) → is_number word ≡ true
    → ParsesUnsigned 32 10 word r → r ≡ Ok n → n ≡ value_behind 0 word
value_ok E word r n is h e =
    let digits = digits_of word is in
    let P : Result ℕ E → Type 0 = λ q. OkIff q ((0 < length word) × (value_behind 0 word < 2 ^ 32)) (value_behind 0 word) in
    (subst P e (parse_digits own 32 word r h digits.0)).1

pub value_err : (E : Type 0) (word : List ℕ) (r : Result ℕ E) (e : E) → is_number word ≡ true
    → ParsesUnsigned 32 10 word r → r ≡ Err e → 2 ^ 32 ≤ value_behind 0 word
value_err E word r e is h at =
    let digits = digits_of word is in
    let P : Result ℕ E → Type 0 = λ q. OkIff q ((0 < length word) × (value_behind 0 word < 2 ^ 32)) (value_behind 0 word) in
    let none : value_behind 0 word < 2 ^ 32 → ⊥ = λ less. (subst P at (parse_digits own 32 word r h digits.0)) (digits.1, less) in
    grind (arith, none)

-- a number within the bounds, and one outside them
pub within_some : (word : List ℕ) (least most n : ℕ) → IsValue word (Some n) → least ≤ n → n ≤ most
    → Some n ≡ number_within least most word
unfolding number_within
within_some word least most n (is, value) low high =
    rw (is, sym value) (let a : nat_le least n ≡ true = grind (arith, nat_tests) in
    let b : nat_le n most ≡ true = grind (arith, nat_tests) in rw (a, b) refl)

by_tests : (a b c : Bool) (n : ℕ) → (a && b && c) ≡ false → None ≡ (if a && b && c then Some n else None)
by_tests a b c n h = rw (h) refl

pub within_low : (word : List ℕ) (least most n : ℕ) → IsValue word (Some n) → n < least → None ≡ number_within least most word
unfolding number_within
within_low word least most n (is, value) low =
    rw (is, sym value) (let a : nat_le least n ≡ false = grind (arith, nat_tests) in rw (a) refl)

pub within_high : (word : List ℕ) (least most n : ℕ) → IsValue word (Some n) → most < n → None ≡ number_within least most word
unfolding number_within
within_high word least most n (is, value) high =
    rw (is, sym value) (let b : nat_le n most ≡ false = grind (arith, nat_tests) in last (nat_le least n) (nat_le n most) n b) where
      last : (a b : Bool) (n : ℕ) → b ≡ false → None ≡ (if true && a && b then Some n else None)
      last true b n h = rw (h) refl
      last false b n h = refl

pub within_far : (word : List ℕ) (least most : ℕ) → IsValue word None → most < 2 ^ 32 → None ≡ number_within least most word
unfolding number_within
within_far word least most (inl other) high = rw (other) refl
within_far word least most (inr far) high =
    let b : nat_le (value_behind 0 word) most ≡ false = grind (arith, nat_tests) in
    last (is_number word) (nat_le least (value_behind 0 word)) (nat_le (value_behind 0 word) most) (value_behind 0 word) b where
      last : (t a b : Bool) (n : ℕ) → b ≡ false → None ≡ (if t && a && b then Some n else None)
      last true true b n h = rw (h) refl
      last true false b n h = refl
      last false a b n h = refl
