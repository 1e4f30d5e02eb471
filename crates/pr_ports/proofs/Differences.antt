-- The first difference of two lists.
use Rattle.std.proofs.Common.{◌≡◌, ℕ, zero, suc, ◌+◌, ◌<◌, ◌≤◌, true, false, cond, ◌&&◌, eqb, List, [], ◌∷◌, ◌++◌, length, take, drop, get_or, Option, Some, None, option_map, refl, sym, ap, ◌∙◌, ⊎_elim, eq-eqb, arith}
use Rattle.std.specs.Cmp.Lexicographic.{pointwise}
use Rattle.std.specs.List.{slice_get}
use Rattle.std.proofs.Math.Seq.{take-add}
use Rattle.std.proofs.lemmas.Bool.{cases_eq, cases_lt, ne_eqb}
use Rattle.std.proofs.lemmas.List.{take_all, take_more}
use Rattle.pr_ports.specs.Difference.{IsAlikeTo, difference_of}

-- a list does not differ from itself
pub difference-same : (a : List ℕ) → difference_of a a ≡ None
difference-same [] = refl
difference-same (x ∷ xs) =
    ap (λ b. cond b (option_map suc (difference_of xs xs)) (Some 0)) (eq-eqb x x refl) ∙ ap (option_map suc) (difference-same xs)

mapped : (o : Option ℕ) → option_map suc o ≡ None → o ≡ None
mapped None none = refl
mapped (Some k) none = cc

some_is : {k : ℕ} → Some k ≡ None → ⊥
some_is e = cc

unsome : (x y : ℕ) → Some x ≡ Some y → x ≡ y
unsome x y e = cc

heads_same : (x y : ℕ) (rest : Option ℕ) → x ≡ y
    → cond (eqb x y) (option_map suc rest) (Some 0) ≡ option_map suc rest
heads_same x y rest same = ap (λ b. cond b (option_map suc rest) (Some 0)) (eq-eqb x y same)

heads_apart : (x y : ℕ) (rest : Option ℕ) → (x ≡ y → ⊥)
    → cond (eqb x y) (option_map suc rest) (Some 0) ≡ Some 0
heads_apart x y rest apart = ap (λ b. cond b (option_map suc rest) (Some 0)) (ne_eqb x y apart)

slice_get-some : (l : List ℕ) (n d : ℕ) → n < length l → slice_get l n ≡ Some (get_or l n d)
slice_get-some [] n d below = absurd (omega arith)
slice_get-some (x ∷ xs) zero d below = refl
slice_get-some (x ∷ xs) (suc n) d below = slice_get-some xs n d (omega arith)

slice_get-none : (l : List ℕ) (n : ℕ) → length l ≤ n → slice_get l n ≡ None
slice_get-none [] n past = refl
slice_get-none (x ∷ xs) zero past = absurd (omega arith)
slice_get-none (x ∷ xs) (suc n) past = slice_get-none xs n (omega arith)

-- lists without a difference are equal
pub difference-none : (a b : List ℕ) → difference_of a b ≡ None → a ≡ b
difference-none [] [] none = refl
difference-none [] (y ∷ ys) none = cc
difference-none (x ∷ xs) [] none = cc
difference-none (x ∷ xs) (y ∷ ys) none =
    ⊎_elim
    (λ (same : x ≡ y). ap (λ z. z ∷ xs) same ∙ ap (λ l. y ∷ l) (difference-none xs ys (mapped (difference_of xs ys) (sym (heads_same x y (difference_of xs ys) same) ∙ none))))
    (λ (apart : x ≡ y → ⊥). absurd (some_is (sym (heads_apart x y (difference_of xs ys) apart) ∙ none)))
    (cases_eq x y)

-- after equal prefixes the rest decides; the difference is at the first unequal byte, or where one list ends
pub difference-ends : (a b : List ℕ) (n : ℕ) → n ≤ length a → n ≤ length b → take n a ≡ take n b
    → (slice_get a n ≡ slice_get b n → ⊥) → difference_of a b ≡ Some n
difference-ends [] [] zero p q same other = absurd (other refl)
difference-ends [] (y ∷ ys) zero p q same other = refl
difference-ends (x ∷ xs) [] zero p q same other = refl
difference-ends (x ∷ xs) (y ∷ ys) zero p q same other = heads_apart x y (difference_of xs ys) (λ e. other (ap {A = ℕ} {B = Option ℕ} (λ z. Some z) e))
difference-ends [] b (suc n) p q same other = absurd (omega arith)
difference-ends (x ∷ xs) [] (suc n) p q same other = absurd (omega arith)
difference-ends (x ∷ xs) (y ∷ ys) (suc n) p q same other =
    heads_same x y (difference_of xs ys) (ap (λ l. get_or l 0 0) same)
    ∙ ap (option_map suc) (difference-ends xs ys n (omega arith) (omega arith) (ap (drop 1) same) other)

-- the parts after equal prefixes of the same length
pub IsAlikeTo-piece : (a b : List ℕ) (n k : ℕ) → IsAlikeTo a b n → n + k ≤ length a → n + k ≤ length b
    → take k (drop n a) ≡ take k (drop n b) → IsAlikeTo a b (n + k)
IsAlikeTo-piece a b n k alike p q same = record {
  a_within = p;
  b_within = q;
  same = take-add n k a ∙ ap (λ l. l ++ take k (drop n a)) alike.same ∙ ap (λ l. take n b ++ l) same ∙ sym (take-add n k b);
}

pub IsAlikeTo-byte : (a b : List ℕ) (n : ℕ) → IsAlikeTo a b n → n < length a → n < length b
    → get_or a n 0 ≡ get_or b n 0 → IsAlikeTo a b (n + 1)
IsAlikeTo-byte a b n alike p q same = record {
  a_within = omega arith;
  b_within = omega arith;
  same = take_more a n 0 p ∙ ap (λ l. l ++ get_or a n 0 ∷ []) alike.same ∙ ap (λ z. take n b ++ z ∷ []) same ∙ sym (take_more b n 0 q);
}

-- both lists end there
pub difference-whole : (a b : List ℕ) (n : ℕ) → IsAlikeTo a b n → n ≡ length a → n ≡ length b
    → difference_of a b ≡ None
difference-whole a b n alike p q =
    let same : a ≡ b = sym (take_all n a (omega arith)) ∙ alike.same ∙ take_all n b (omega arith) in
    ap (difference_of a) (sym same) ∙ difference-same a

-- one list ends there, or both continue and differ
pub difference-at : (a b : List ℕ) (n : ℕ) → IsAlikeTo a b n → (n ≡ length a → n ≡ length b → ⊥)
    → (n < length a → n < length b → get_or a n 0 ≡ get_or b n 0 → ⊥)
    → difference_of a b ≡ Some n
difference-at a b n alike some other =
    difference-ends a b n alike.a_within alike.b_within alike.same
    (λ same.
    ⊎_elim
    (λ (la : n < length a).
    ⊎_elim
    (λ (lb : n < length b). other la lb (unsome (get_or a n 0) (get_or b n 0) (sym (slice_get-some a n 0 la) ∙ same ∙ slice_get-some b n 0 lb)))
    (λ (eb : length b ≤ n). absurd (some_is (sym (slice_get-some a n 0 la) ∙ same ∙ slice_get-none b n eb)))
    (cases_lt n (length b)))
    (λ (ea : length a ≤ n).
    ⊎_elim
    (λ (lb : n < length b). absurd (some_is (sym (slice_get-some b n 0 lb) ∙ sym same ∙ slice_get-none a n ea)))
    (λ (eb : length b ≤ n). some (omega (arith, alike.a_within)) (omega (arith, alike.b_within)))
    (cases_lt n (length b)))
    (cases_lt n (length a)))

map_zero : (o : Option ℕ) → o ≡ option_map (λ k. 0 + k) o
map_zero None = refl
map_zero (Some k) = ap {A = ℕ} {B = Option ℕ} (λ z. Some z) (omega arith)

map_suc : (n : ℕ) (o : Option ℕ) → option_map suc (option_map (λ k. n + k) o) ≡ option_map (λ k. suc n + k) o
map_suc n None = refl
map_suc n (Some k) = ap {A = ℕ} {B = Option ℕ} (λ z. Some z) (omega arith)

-- behind equal bytes the difference is that of the rests
pub difference-behind : (a b : List ℕ) (n : ℕ) → n ≤ length a → n ≤ length b → take n a ≡ take n b
    → difference_of a b ≡ option_map (λ k. n + k) (difference_of (drop n a) (drop n b))
difference-behind a b zero p q same = map_zero (difference_of a b)
difference-behind [] b (suc n) p q same = absurd (omega arith)
difference-behind (x ∷ xs) [] (suc n) p q same = absurd (omega arith)
difference-behind (x ∷ xs) (y ∷ ys) (suc n) p q same =
    heads_same x y (difference_of xs ys) (ap (λ l. get_or l 0 0) same)
    ∙ ap (option_map suc) (difference-behind xs ys n (omega arith) (omega arith) (ap (drop 1) same))
    ∙ map_suc n (difference_of (drop n xs) (drop n ys))

true_is : true ≡ false → ⊥
true_is e = cc

-- what `==` establishes for two slices
pub pointwise-same : (xs ys : List ℕ) → true ≡ pointwise eqb xs ys → xs ≡ ys
pointwise-same [] [] e = refl
pointwise-same [] (y ∷ ys) e = absurd (true_is e)
pointwise-same (x ∷ xs) [] e = absurd (true_is e)
pointwise-same (x ∷ xs) (y ∷ ys) e =
    ⊎_elim
    (λ (same : x ≡ y). ap (λ z. z ∷ xs) same ∙ ap (λ l. y ∷ l) (pointwise-same xs ys (e ∙ ap (λ b. b && pointwise eqb xs ys) (eq-eqb x y same))))
    (λ (apart : x ≡ y → ⊥). absurd (true_is (e ∙ ap (λ b. b && pointwise eqb xs ys) (ne_eqb x y apart))))
    (cases_eq x y)

-- equal pieces of this length
pub IsAlikeTo-equal : (a b : List ℕ) (n k m : ℕ) → m ≡ k → IsAlikeTo a b n → n + k ≤ length a
    → n + k ≤ length b → true ≡ pointwise eqb (take m (drop n a)) (take m (drop n b)) → IsAlikeTo a b (n + k)
IsAlikeTo-equal a b n k m e alike p q same =
    IsAlikeTo-piece a b n k alike p q
    (ap (λ i. take i (drop n a)) (sym e) ∙ pointwise-same (take m (drop n a)) (take m (drop n b)) same ∙ ap (λ i. take i (drop n b)) e)
