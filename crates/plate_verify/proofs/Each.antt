-- Facts that hold for each element of a list, by recursion, and through list functions.
use Rattle.std.proofs.Common.{◌≡◌, ℕ, zero, suc, ◌+◌, ◌<◌, ◌≤◌, Bool, true, false, cond, List, [], ◌∷◌, ◌++◌, map, Option, Some, None, refl, ap, ◌∙◌, subst, ⊎_elim, arith}
use Rattle.std.specs.Prelude.{All, filter}
use Rattle.std.specs.List.{cons_option, filter_map, flat_map, range_with_len}
use Rattle.std.proofs.lemmas.Bool.{cases_eq}
use Rattle.std.proofs.lemmas.List.Elements.{All-nil, All-cons, All-head, All-tail}

abbrev pub Each : {X : Type 0} → (X → Type 0) → List X → Type 0
Each P [] = Unit {0}
Each P (x ∷ xs) = P x × Each P xs

pub Each-from_all : {X : Type 0} (P : X → Type 0) (xs : List X) → All P xs → Each P xs
Each-from_all P [] all = tt
Each-from_all P (x ∷ xs) all = (All-head P x xs all, Each-from_all P xs (All-tail P x xs all))

pub all_from_Each : {X : Type 0} (P : X → Type 0) (xs : List X) → Each P xs → All P xs
all_from_Each P [] each = All-nil P
all_from_Each P (x ∷ xs) each = All-cons P x xs each.0 (all_from_Each P xs each.1)

pub Each-weaker : {X : Type 0} (P Q : X → Type 0) → ((x : X) → P x → Q x) → (xs : List X) → Each P xs → Each Q xs
Each-weaker P Q gives [] each = tt
Each-weaker P Q gives (x ∷ xs) each = (gives x each.0, Each-weaker P Q gives xs each.1)

pub Each-append : {X : Type 0} (P : X → Type 0) (xs ys : List X) → Each P xs → Each P ys → Each P (xs ++ ys)
Each-append P [] ys front back = back
Each-append P (x ∷ xs) ys front back = (front.0, Each-append P xs ys front.1 back)

pub front_of_each : {X : Type 0} (P : X → Type 0) (xs ys : List X) → Each P (xs ++ ys) → Each P xs
front_of_each P [] ys each = tt
front_of_each P (x ∷ xs) ys each = (each.0, front_of_each P xs ys each.1)

pub back_of_each : {X : Type 0} (P : X → Type 0) (xs ys : List X) → Each P (xs ++ ys) → Each P ys
back_of_each P [] ys each = each
back_of_each P (x ∷ xs) ys each = back_of_each P xs ys each.1

pub Each-flat_map : {X Y : Type 0} (P : Y → Type 0) (f : X → List Y) (xs : List X) → Each (λ x. Each P (f x)) xs → Each P (flat_map f xs)
Each-flat_map P f [] each = tt
Each-flat_map P f (x ∷ xs) each = Each-append P (f x) (flat_map f xs) each.0 (Each-flat_map P f xs each.1)

pub pieces_of_each : {X Y : Type 0} (P : Y → Type 0) (f : X → List Y) (xs : List X) → Each P (flat_map f xs) → Each (λ x. Each P (f x)) xs
pieces_of_each P f [] each = tt
pieces_of_each P f (x ∷ xs) each = (front_of_each P (f x) (flat_map f xs) each, pieces_of_each P f xs (back_of_each P (f x) (flat_map f xs) each))

pub Each-map : {X Y : Type 0} (P : Y → Type 0) (f : X → Y) (xs : List X) → Each (λ x. P (f x)) xs → Each P (map f xs)
Each-map P f [] each = tt
Each-map P f (x ∷ xs) each = (each.0, Each-map P f xs each.1)

pub mapped_each : {X Y : Type 0} (P : Y → Type 0) (f : X → Y) (xs : List X) → Each P (map f xs) → Each (λ x. P (f x)) xs
mapped_each P f [] each = tt
mapped_each P f (x ∷ xs) each = (each.0, mapped_each P f xs each.1)

pub Each-filter : {X : Type 0} (P : X → Type 0) (p : X → Bool) (xs : List X) → Each (λ x. p x ≡ true → P x) xs → Each P (filter p xs)
Each-filter P p [] each = tt
Each-filter P p (x ∷ xs) each = one (Each-filter P p xs each.1) (p x) refl
  where
    one : Each P (filter p xs) → (b : Bool) → p x ≡ b → Each P (cond b (x ∷ filter p xs) (filter p xs))
    one rest true is = (each.0 is, rest)
    one rest false is = rest

pub filtered_each : {X : Type 0} (P : X → Type 0) (p : X → Bool) (xs : List X) → Each P (filter p xs) → Each (λ x. p x ≡ true → P x) xs
filtered_each P p [] each = tt
filtered_each P p (x ∷ xs) each = (λ is. (one (p x) each is).0, filtered_each P p xs (rest (p x) each))
  where
    one : (b : Bool) → Each P (cond b (x ∷ filter p xs) (filter p xs)) → b ≡ true → P x × Each P (filter p xs)
    one true e is = e
    one false e is = cc

    rest : (b : Bool) → Each P (cond b (x ∷ filter p xs) (filter p xs)) → Each P (filter p xs)
    rest true e = e.1
    rest false e = e

pub Each-range : (P : ℕ → Type 0) (from n : ℕ) → ((k : ℕ) → from ≤ k → k < from + n → P k) → Each P (range_with_len from n)
Each-range P from zero gives = tt
Each-range P from (suc n) gives = (gives from (omega arith) (omega arith), Each-range P (from + 1) n (λ k low high. gives k (omega arith) (omega arith)))

pub one_of_each : (P : ℕ → Type 0) (from n : ℕ) → Each P (range_with_len from n) → (k : ℕ) → from ≤ k → k < from + n → P k
one_of_each P from zero each k low high = absurd (omega arith)
one_of_each P from (suc n) each k low high =
    ⊎_elim
    (λ (same : from ≡ k). subst P same each.0)
    (λ (other : from ≡ k → ⊥). one_of_each P (from + 1) n each.1 k (omega arith) (omega arith))
    (cases_eq from k)

-- exchanges a quantifier over elements with one over other things
pub Each-swap : {I X : Type 0} (Q : I → X → Type 0) (xs : List X) → ((i : I) → Each (Q i) xs) → Each (λ x. (i : I) → Q i x) xs
Each-swap Q [] each = tt
Each-swap Q (x ∷ xs) each = (λ i. (each i).0, Each-swap Q xs (λ i. (each i).1))

cons_none : {Y : Type 0} (o : Option Y) (ys : List Y) → cons_option o ys ≡ [] → (o ≡ None) × (ys ≡ [])
cons_none None ys e = (refl, e)
cons_none (Some y) ys e = cc

-- the results are empty exactly if no element has a result
pub none_found : {X Y : Type 0} (f : X → Option Y) (xs : List X) → filter_map f xs ≡ [] → Each (λ x. f x ≡ None) xs
none_found f [] e = tt
none_found f (x ∷ xs) e = (let both : (f x ≡ None) × (filter_map f xs ≡ []) = cons_none (f x) (filter_map f xs) e in (both.0, none_found f xs both.1))

pub found_none : {X Y : Type 0} (f : X → Option Y) (xs : List X) → Each (λ x. f x ≡ None) xs → filter_map f xs ≡ []
found_none f [] each = refl
found_none {X} {Y} f (x ∷ xs) each = ap (λ (o : Option Y). cons_option o (filter_map f xs)) each.0 ∙ found_none f xs each.1

-- a fact about every result
pub Each-found : {X Y : Type 0} (P : Y → Type 0) (f : X → Option Y) (xs : List X) → ((x : X) (y : Y) → f x ≡ Some y → P y) → Each P (filter_map f xs)
Each-found P f [] gives = tt
Each-found {X} {Y} P f (x ∷ xs) gives = one (f x) (gives x) (Each-found P f xs gives)
  where
    one : (o : Option Y) → ((y : Y) → o ≡ Some y → P y) → Each P (filter_map f xs) → Each P (cons_option o (filter_map f xs))
    one None own rest = rest
    one (Some y) own rest = (own y refl, rest)
