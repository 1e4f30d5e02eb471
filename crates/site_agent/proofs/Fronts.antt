-- Lists in which exactly the first elements pass a test: how many pass it.
use Rattle.std.proofs.Common.{◌≡◌, ℕ, zero, suc, ◌+◌, ◌<◌, ◌≤◌, Bool, true, false, cond, List, [], ◌∷◌, length, get_or, refl, sym, ap, ◌∙◌, arith}
use Rattle.std.specs.Prelude.{count_by, find, Some, None}
use Rattle.std.proofs.lemmas.Bool.{true_from_ne_false, false_from_ne_true, both_ways, cond-true, cond-false}
use Rattle.std.proofs.lemmas.List.Sums.{sum_by-cons}

-- one more element
count_by-pass : {X : Type 0} (p : X → Bool) (x : X) (xs : List X) → p x ≡ true
    → count_by p (x ∷ xs) ≡ suc (count_by p xs)
count_by-pass p x xs is = sum_by-cons (λ y. cond (p y) 1 0) x xs ∙ ap (λ b. cond b 1 0 + count_by p xs) is ∙ omega arith

count_by-fail : {X : Type 0} (p : X → Bool) (x : X) (xs : List X) → p x ≡ false
    → count_by p (x ∷ xs) ≡ count_by p xs
count_by-fail p x xs is = sum_by-cons (λ y. cond (p y) 1 0) x xs ∙ ap (λ b. cond b 1 0 + count_by p xs) is ∙ omega arith

-- the first k pass, and no others
pub count_by-front : {X : Type 0} (p : X → Bool) (xs : List X) (k : ℕ) → k ≤ length xs
    → ((j : ℕ) (d : X) → j < k → p (get_or xs j d) ≡ true)
    → ((j : ℕ) (d : X) → k ≤ j → j < length xs → p (get_or xs j d) ≡ false)
    → count_by p xs ≡ k
count_by-front p [] k within pass fail = omega arith
count_by-front p (x ∷ xs) zero within pass fail =
    count_by-fail p x xs (fail 0 x (omega arith) (omega arith))
    ∙ count_by-front p xs 0 (omega arith) (λ j d below. absurd (omega arith)) (λ j d from less. fail (suc j) d (omega arith) (omega arith))
count_by-front p (x ∷ xs) (suc k) within pass fail =
    count_by-pass p x xs (pass 0 x (omega arith))
    ∙ ap suc (count_by-front p xs k (omega arith) (λ j d below. pass (suc j) d (omega arith)) (λ j d from less. fail (suc j) d (omega arith) (omega arith)))

-- a test that an element passes only if every element before it does
pub record IsFront {X : Type 0} (p : X → Bool) (xs : List X) : Type 0 where
  pub before : (i j : ℕ) (d : X) → i < j → j < length xs → p (get_or xs j d) ≡ true → p (get_or xs i d) ≡ true

rest : {X : Type 0} (p : X → Bool) (x : X) (xs : List X) → IsFront p (x ∷ xs) → IsFront p xs
rest p x xs front = record { before = λ i j d less within is. front.before (suc i) (suc j) d (omega arith) (omega arith) is }

-- if the first element fails, all do
none : {X : Type 0} (p : X → Bool) (x : X) (xs : List X) → IsFront p (x ∷ xs) → p x ≡ false
    → count_by p (x ∷ xs) ≡ 0
none p x xs front is =
    count_by-fail p x xs is
    ∙ count_by-front p xs 0 (omega arith) (λ j d below. absurd (omega arith))
    (λ j d from less. false_from_ne_true (p (get_or xs j d)) (λ yes'. both_ways (p x) is (front.before 0 (suc j) d (omega arith) (omega arith) yes')))

first : {X : Type 0} (p : X → Bool) (x : X) (xs : List X) → IsFront p (x ∷ xs) → 0 < count_by p (x ∷ xs)
    → p x ≡ true
first p x xs front some =
    true_from_ne_false (p x) (λ no'. let h : count_by p (x ∷ xs) ≡ 0 = none p x xs front no' in omega arith)

-- the elements below the number of passing ones pass
pub front-pass : {X : Type 0} (p : X → Bool) (xs : List X) (j : ℕ) (d : X) → IsFront p xs → j < count_by p xs
    → p (get_or xs j d) ≡ true
front-pass p [] j d front below = absurd (omega arith)
front-pass p (x ∷ xs) zero d front below = first p x xs front below
front-pass p (x ∷ xs) (suc j) d front below =
    let is : p x ≡ true = first p x xs front (omega arith) in
    front-pass p xs j d (rest p x xs front) (omega (arith, count_by-pass p x xs is))

-- and the others do not
pub front-fail : {X : Type 0} (p : X → Bool) (xs : List X) (j : ℕ) (d : X) → IsFront p xs → count_by p xs ≤ j
    → j < length xs → p (get_or xs j d) ≡ false
front-fail p [] j d front from less = absurd (omega arith)
front-fail p (x ∷ xs) zero d front from less =
    false_from_ne_true (p x) (λ is. let h : count_by p (x ∷ xs) ≡ suc (count_by p xs) = count_by-pass p x xs is in omega arith)
front-fail p (x ∷ xs) (suc j) d front from less =
    false_from_ne_true (p (get_or xs j d))
    (λ is. let here : p x ≡ true = front.before 0 (suc j) d (omega arith) (omega arith) is in
    let there : p (get_or xs j d) ≡ false = front-fail p xs j d (rest p x xs front) (omega (arith, count_by-pass p x xs here)) (omega arith) in
    both_ways (p (get_or xs j d)) there is)

-- two tests with the same results have the same count
pub count_by-alike : {X : Type 0} (p q : X → Bool) (xs : List X)
    → ((j : ℕ) (d : X) → j < length xs → p (get_or xs j d) ≡ q (get_or xs j d))
    → count_by p xs ≡ count_by q xs
count_by-alike p q [] alike = refl
count_by-alike p q (x ∷ xs) alike =
    sum_by-cons (λ y. cond (p y) 1 0) x xs
    ∙ ap (λ b. cond b 1 0 + count_by p xs) (alike 0 x (omega arith))
    ∙ ap (λ n. cond (q x) 1 0 + n) (count_by-alike p q xs (λ j d less. alike (suc j) d (omega arith)))
    ∙ sym (sum_by-cons (λ y. cond (q y) 1 0) x xs)

-- the first element that passes
pub find-first : {X : Type 0} (p : X → Bool) (xs : List X) (k : ℕ) (d : X) → k < length xs
    → p (get_or xs k d) ≡ true
    → ((j : ℕ) → j < k → p (get_or xs j d) ≡ false) → find p xs ≡ Some (get_or xs k d)
find-first p [] k d within is before = absurd (omega arith)
find-first p (x ∷ xs) zero d within is before = cond-true (p x) (Some x) (find p xs) is
find-first p (x ∷ xs) (suc k) d within is before =
    cond-false (p x) (Some x) (find p xs) (before 0 (omega arith))
    ∙ find-first p xs k d (omega arith) is (λ j less. before (suc j) (omega arith))

-- none passes
pub find-fails : {X : Type 0} (p : X → Bool) (xs : List X)
    → ((j : ℕ) (d : X) → j < length xs → p (get_or xs j d) ≡ false) → find p xs ≡ None
find-fails p [] fail = refl
find-fails p (x ∷ xs) fail = cond-false (p x) (Some x) (find p xs) (fail 0 x (omega arith)) ∙ find-fails p xs (λ j d less. fail (suc j) d (omega arith))

-- two tests with the same results find the same element
pub find-alike : {X : Type 0} (p q : X → Bool) (xs : List X)
    → ((j : ℕ) (d : X) → j < length xs → p (get_or xs j d) ≡ q (get_or xs j d)) → find p xs ≡ find q xs
find-alike p q [] alike = refl
find-alike p q (x ∷ xs) alike =
    ap (λ b. cond b (Some x) (find p xs)) (alike 0 x (omega arith)) ∙ ap (cond (q x) (Some x)) (find-alike p q xs (λ j d less. alike (suc j) d (omega arith)))

-- an element that is found passes
pub find-passes : {X : Type 0} (p : X → Bool) (xs : List X) (x : X) → find p xs ≡ Some x
    → (j : ℕ) × (j < length xs) × (get_or xs j x ≡ x) × (p x ≡ true)
find-passes p [] x found = cc
find-passes {X} p (y ∷ xs) x found = by_first (p y) refl (find-passes p xs x) found where
  by_first : (b : Bool) → p y ≡ b
      → (find p xs ≡ Some x → (j : ℕ) × (j < length xs) × (get_or xs j x ≡ x) × (p x ≡ true))
      → cond b (Some y) (find p xs) ≡ Some x
      → (j : ℕ) × (j < length (y ∷ xs)) × (get_or (y ∷ xs) j x ≡ x) × (p x ≡ true)
  by_first true is further here = (0, omega arith, cc, let same : y ≡ x = cc in ap p (sym same) ∙ is)
  by_first false is further here = let there = further here in (suc there.0, omega (arith, there.1), there.2, there.3)
