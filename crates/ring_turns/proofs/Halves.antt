-- The turns of two halves, one behind the other, are those of the whole.
use Rattle.std.proofs.Common.{◌≡◌, ℕ, zero, suc, ◌-◌, ◌<◌, ◌≤◌, ◌+◌, ◌⊎◌, List, [], ◌∷◌, ◌++◌, length, take, drop, Option, refl, sym, ap, subst, ◌∙◌, inl, inr, ⊎_elim, append-nil, arith}
use Rattle.std.specs.Prelude.{slice_get, min}
use Rattle.std.proofs.lemmas.Bool.{cases_lt}
use Rattle.std.proofs.lemmas.List.{drop_all, take_all}
use Rattle.std.proofs.lemmas.Option.{slice_get_past}
use Rattle.ring_turns.specs.Turns.{AreTurned, MayAllTurn}

pub slice_get-take : {X : Type 0} (n : ℕ) (xs : List X) (i : ℕ) → i < n → slice_get (take n xs) i ≡ slice_get xs i
slice_get-take zero xs i less = absurd (omega (arith, less))
slice_get-take (suc n) [] i less = refl
slice_get-take (suc n) (x ∷ xs) zero less = refl
slice_get-take (suc n) (x ∷ xs) (suc i) less = slice_get-take n xs i (omega (arith, less))

slice_get-drop : {X : Type 0} (n : ℕ) (xs : List X) (i : ℕ) → n ≤ i → slice_get (drop n xs) (i - n) ≡ slice_get xs i
slice_get-drop zero xs i more = ap (slice_get xs) (let e : i - 0 ≡ i = omega arith in e)
slice_get-drop (suc n) [] i more = refl
slice_get-drop (suc n) (x ∷ xs) zero more = absurd (omega (arith, more))
slice_get-drop (suc n) (x ∷ xs) (suc i) more = ap (slice_get (drop n xs)) (let e : suc i - suc n ≡ i - n = omega arith in e) ∙ slice_get-drop n xs i (omega (arith, more))

-- a front of n, or a shorter one with nothing behind it
abbrev pub IsSeam : {X : Type 0} → ℕ → List X → List X → Type 0
IsSeam {X} n front back = (length front ≡ n) ⊎ ((length front ≤ n) × (length back ≡ 0))

front_at : {X : Type 0} (front back : List X) (i : ℕ) → i < length front → slice_get (front ++ back) i ≡ slice_get front i
front_at [] back i less = absurd (omega (arith, less))
front_at (x ∷ front) back zero less = refl
front_at (x ∷ front) back (suc i) less = front_at front back i (omega (arith, less))

back_at : {X : Type 0} (front back : List X) (i : ℕ) → length front ≤ i → slice_get (front ++ back) i ≡ slice_get back (i - length front)
back_at [] back i more = ap (slice_get back) (let e : i ≡ i - 0 = omega arith in e)
back_at (x ∷ front) back zero more = absurd (omega (arith, more))
back_at (x ∷ front) back (suc i) more = back_at front back i (omega (arith, more)) ∙ ap (slice_get back) (let e : i - length front ≡ suc i - suc (length front) = omega arith in e)

-- the elements of the whole are those of the front below n, and of the back from n on
seam_front : {X : Type 0} (n : ℕ) (front back : List X) (i : ℕ) → IsSeam n front back → i < n → slice_get (front ++ back) i ≡ slice_get front i
seam_front n front back i (inl full) less = front_at front back i (omega (arith, full, less))
seam_front n front [] i (inr short) less = ap (λ list. slice_get list i) (append-nil front)
seam_front n front (y ∷ back) i (inr short) less = let none = short.1 in absurd (omega (arith, none))

seam_back : {X : Type 0} (n : ℕ) (front back : List X) (i : ℕ) → IsSeam n front back → n ≤ i → slice_get (front ++ back) i ≡ slice_get back (i - n)
seam_back n front back i (inl full) more = back_at front back i (omega (arith, full, more)) ∙ ap (λ k. slice_get back (i - k)) full
seam_back n front [] i (inr short) more = let low = short.0 in ap (λ list. slice_get list i) (append-nil front) ∙ slice_get_past front i (omega (arith, low, more))
seam_back n front (y ∷ back) i (inr short) more = let none = short.1 in absurd (omega (arith, none))

-- halves of a list that is cut at n, or at its end where it is shorter
pub front_min : {X : Type 0} (n m : ℕ) (xs : List X) → m ≡ min n (length xs) → take m xs ≡ take n xs
front_min n m xs is =
    ⊎_elim (λ (less : n < length xs). ap (λ k. take k xs) (let e : m ≡ n = omega (arith, is, less) in e))
    (λ (short : length xs ≤ n). take_all m xs (omega (arith, is, short)) ∙ sym (take_all n xs short)) (cases_lt n (length xs))

pub back_min : {X : Type 0} (n m : ℕ) (xs : List X) → m ≡ min n (length xs) → drop m xs ≡ drop n xs
back_min n m xs is =
    ⊎_elim (λ (less : n < length xs). ap (λ k. drop k xs) (let e : m ≡ n = omega (arith, is, less) in e))
    (λ (short : length xs ≤ n). drop_all m xs (omega (arith, is, short)) ∙ sym (drop_all n xs short)) (cases_lt n (length xs))

pub seam_min : {X : Type 0} (n m long : ℕ) (front back : List X) → m ≡ min n long → length front ≡ m → length back ≡ long - m → IsSeam n front back
seam_min n m long front back is first last =
    ⊎_elim (λ (short : long < n). inr (let e : length front ≤ n = omega (arith, is, first, short) in e, let e : length back ≡ 0 = omega (arith, is, last, short) in e))
    (λ (full : n ≤ long). inl (omega (arith, is, first, full))) (cases_lt long n)

-- q and s are what is behind n of xs and ys
pub back_may : {X Y : Type 0} (may : X → Option Y → Type 0) (n : ℕ) (xs q : List X) (ys s : List Y) → q ≡ drop n xs → s ≡ drop n ys → MayAllTurn may xs ys → MayAllTurn may q s
back_may {X} {Y} may n xs q ys s back-x back-y each i x at =
    let more : n ≤ i + n = omega arith in
    let same : (i + n) - n ≡ i = omega arith in
    subst (λ (o : Option Y). may x o) (sym (ap (λ l. slice_get l i) back-y ∙ ap (slice_get (drop n ys)) (sym same) ∙ slice_get-drop n ys (i + n) more))
    (each (i + n) x (sym (ap (λ l. slice_get l i) back-x ∙ ap (slice_get (drop n xs)) (sym same) ∙ slice_get-drop n xs (i + n) more) ∙ at))

-- p and q are the halves of xs, r and s those of ys
pub both_turned : {X Y : Type 0} (turned : X → Option Y → X → Option Y → Type 0) (n : ℕ) (xs p q a b : List X) (ys r s c d : List Y) → p ≡ take n xs → q ≡ drop n xs → r ≡ take n ys → s ≡ drop n ys
    → length a ≡ n → IsSeam n c d → AreTurned turned p r a c → AreTurned turned q s b d → AreTurned turned xs ys (a ++ b) (c ++ d)
both_turned {X} {Y} turned n xs p q a b ys r s c d front-x back-x front-y back-y count seam first last i x x' at-x at-x' =
    ⊎_elim
    (λ (less : i < n).
    subst (λ (o : Option Y). turned x o x' (slice_get (c ++ d) i)) (ap (λ l. slice_get l i) front-y ∙ slice_get-take n ys i less)
    (subst (λ (o : Option Y). turned x (slice_get r i) x' o) (sym (seam_front n c d i seam less))
    (first i x x' (ap (λ l. slice_get l i) front-x ∙ slice_get-take n xs i less ∙ at-x) (sym (seam_front n a b i (inl count) less) ∙ at-x'))))
    (λ (more : n ≤ i).
    subst (λ (o : Option Y). turned x o x' (slice_get (c ++ d) i)) (ap (λ l. slice_get l (i - n)) back-y ∙ slice_get-drop n ys i more)
    (subst (λ (o : Option Y). turned x (slice_get s (i - n)) x' o) (sym (seam_back n c d i seam more))
    (last (i - n) x x' (ap (λ l. slice_get l (i - n)) back-x ∙ slice_get-drop n xs i more ∙ at-x) (sym (seam_back n a b i (inl count) more) ∙ at-x'))))
    (cases_lt i n)
