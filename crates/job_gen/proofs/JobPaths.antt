-- The files of a job have different paths.
use Rattle.std.proofs.Common.{◌≡◌, ℕ, zero, suc, ◌+◌, ◌*◌, ◌/◌, ◌%◌, ◌<◌, Bool, true, false, not, ◌&&◌, List, [], ◌∷◌, map, nat_eq, refl, arith}
use Rattle.std.specs.Fmt.{digits}
use Rattle.std.specs.Cmp.Lexicographic.{pointwise}
use Rattle.std.specs.List.{AllByRecursion, IsDistinct, list_all}
use Rattle.job_gen.specs.Images.{files_of, files_with}

-- a test that no text occurs twice
are_apart : List (List ℕ) → Bool
are_apart [] = true
are_apart (x ∷ xs) = list_all (λ y. not (pointwise nat_eq x y)) xs && are_apart xs

both : (a b : Bool) → (a && b) ≡ true → (a ≡ true) × (b ≡ true)
both true b h = (refl, h)
both false b h = cc

not-true : (b : Bool) → not b ≡ true → b ≡ false
not-true true h = cc
not-true false h = refl

each-apart : (x : List ℕ) (xs : List (List ℕ)) → list_all (λ y. not (pointwise nat_eq x y)) xs ≡ true
    → AllByRecursion (λ y. pointwise nat_eq x y ≡ false) xs
each-apart x [] h = tt
each-apart x (y ∷ xs) h =
    let parts = both (not (pointwise nat_eq x y)) (list_all (λ z. not (pointwise nat_eq x z)) xs) h in
    (not-true (pointwise nat_eq x y) parts.0, each-apart x xs parts.1)

distinct-by : (xs : List (List ℕ)) → are_apart xs ≡ true → IsDistinct (pointwise nat_eq) xs
unfolding IsDistinct are_apart
distinct-by [] h = tt
distinct-by (x ∷ xs) h =
    let parts = both (list_all (λ y. not (pointwise nat_eq x y)) xs) (are_apart xs) h in
    (each-apart x xs parts.0, distinct-by xs parts.1)

apart-by : (n half : ℕ) → half < 2 → are_apart (map (λ file. file.0) (files_with n (4 + 4 * half))) ≡ true
unfolding digits files_with are_apart
apart-by n zero h = refl
apart-by n (suc zero) h = refl
apart-by n (suc (suc half)) h = absurd (omega arith)

pub paths_distinct : (n : ℕ) → IsDistinct (pointwise nat_eq) (map (λ file. file.0) (files_of n))
paths_distinct n = distinct-by (map (λ file. file.0) (files_of n)) (apart-by n (n / 4 % 2) (omega arith))
