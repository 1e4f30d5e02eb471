-- The first result of a function along a list, element by element.
use Rattle.std.proofs.Common.{◌≡◌, ℕ, ◌<◌, ◌≤◌, ◌+◌, List, Option, Some, None, length, drop, get_or, ap, ◌∙◌, sym, add-one, arith}
use Rattle.std.specs.Option.{option_or}
use Rattle.std.proofs.Math.Seq.{drop-cons, drop-length}
use Rattle.pr_base.specs.First.{first_some}

-- past the end the result is None
pub first_some-end : {A B : Type 0} (f : A → Option B) (xs : List A) (i : ℕ) → length xs ≤ i → i ≤ length xs → first_some f xs ≡ first_some f (drop i xs) → None ≡ first_some f xs
first_some-end f xs i reached within ahead =
    let e : i ≡ length xs = omega arith in
    sym (ahead ∙ ap (λ n. first_some f (drop n xs)) e ∙ ap (first_some f) (drop-length xs))

-- the first result from index i on is that of element i, or else the first result after it
pub first_some-at : {A B : Type 0} (f : A → Option B) (xs : List A) (i : ℕ) (d : A) → i < length xs → first_some f (drop i xs) ≡ option_or (f (get_or xs i d)) (first_some f (drop (i + 1) xs))
first_some-at f xs i d h = rw add-one (ap (first_some f) (drop-cons xs i d h))

-- where element i gives None, the search continues after it
pub first_some-on : {A B : Type 0} (f : A → Option B) (xs : List A) (i : ℕ) (d : A) → i < length xs → first_some f xs ≡ first_some f (drop i xs) → None ≡ f (get_or xs i d) → first_some f xs ≡ first_some f (drop (i + 1) xs)
first_some-on {A} {B} f xs i d h ahead none =
    ahead ∙ first_some-at f xs i d h ∙ ap (λ (o : Option B). option_or o (first_some f (drop (i + 1) xs))) (sym none)

-- where element i gives a result, that is the first
pub first_some-found : {A B : Type 0} (f : A → Option B) (xs : List A) (i : ℕ) (d : A) (y : B) → i < length xs → first_some f xs ≡ first_some f (drop i xs) → Some y ≡ f (get_or xs i d) → Some y ≡ first_some f xs
first_some-found {A} {B} f xs i d y h ahead found =
    sym (ahead ∙ first_some-at f xs i d h ∙ ap (λ (o : Option B). option_or o (first_some f (drop (i + 1) xs))) (sym found))
