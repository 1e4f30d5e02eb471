-- Properties of the errors of a page, from their definition.
use Rattle.std.proofs.Common.{◌≡◌, ℕ, zero, suc, ◌+◌, ◌*◌, ◌<◌, ◌≤◌, ℤ, pos, negsuc, ◌+ℤ◌, ◌*ℤ◌, ◌≤ℤ◌, neg_ℤ, cond, List, [], ◌∷◌, ◌++◌, length, get_or, refl, ap, sym, ◌∙◌, inl, inr, arith, add-one}
use Rattle.std.specs.Int.{int_div_euclid}
use Rattle.std.proofs.lemmas.Bool.{cases_lt, lt-ltb}
use Rattle.std.proofs.lemmas.Bool.Decides.{nat_tests}
use Rattle.std.proofs.lemmas.Int.{ints}
use Rattle.std.proofs.Math.Path.{fun_ext}
use Rattle.std.proofs.Math.Seq.{get_or-append_seam}
use Rattle.std.proofs.lemmas.List.{get_or_append_left}
use Rattle.scr_diffuse.specs.Diffusion.{corrected, error_of, error_left, error_above, left_of, v_below, v_at, IsError}

-- inside the row, the error to the left of column x + 1 is that of pixel x
pub error-inside : (above : ℕ → ℤ) (row : List ℕ) (x : ℕ) → x < length row
    → error_left above row (suc x) ≡ error_of (v_below above row x)
unfolding error_left
error-inside above row x within = ap (λ b. cond b (error_of (v_below above row x)) (pos 0)) (lt-ltb x (length row) within)

pub error-outside : (above : ℕ → ℤ) (row : List ℕ) (x : ℕ) → length row ≤ x
    → error_left above row (suc x) ≡ pos 0
unfolding error_left
error-outside above row x outside = grind (arith, nat_tests)

pub error-margin : (above : ℕ → ℤ) (row : List ℕ) → error_left above row 0 ≡ pos 0
unfolding error_left
error-margin above row = refl

-- the error to the left, from the error of a pixel
pub left-again : (above : ℕ → ℤ) (row : List ℕ) (x : ℕ)
    → left_of (λ k. error_left above row (k + 1)) x ≡ error_left above row x
left-again above row zero = sym (error-margin above row)
left-again above row (suc x) = rw add-one refl

pub error_above-more : (rows : List (List ℕ)) (x y : ℕ)
    → error_above rows x (suc y) ≡ error_left (λ k. error_above rows k y) (get_or rows y []) (x + 1)
unfolding error_above
error_above-more rows x y = refl

pub v_at-is : (rows : List (List ℕ)) (x y : ℕ)
    → v_at rows x y ≡ v_below (λ k. error_above rows k y) (get_or rows y []) x
unfolding v_at
v_at-is rows x y =
    let above : ℕ → ℤ = λ k. error_above rows k y in
    let row : List ℕ = get_or rows y [] in
    ap (λ e. corrected (get_or row x 0) e (above (x + 1)) (above x) (left_of above x))
    (ap (λ (f : ℕ → ℤ). left_of f x) (fun_ext (λ k. error_above-more rows k y)) ∙ left-again above row x)

-- ---- what a row depends on

-- the errors above row y depend on the rows above it alone
pub error_above-same : (rows other : List (List ℕ)) (y : ℕ)
    → ((j : ℕ) → j < y → get_or rows j [] ≡ get_or other j []) → (x : ℕ)
    → error_above rows x y ≡ error_above other x y
unfolding error_above
error_above-same rows other zero same x = refl
error_above-same rows other (suc y) same x =
    ap (λ (f : ℕ → ℤ). error_left f (get_or rows y []) (x + 1)) (fun_ext (error_above-same rows other y (λ j below. same j (omega arith))))
    ∙ ap (λ row. error_left (λ k. error_above other k y) row (x + 1)) (same y (omega arith))

-- the pixels of row y depend on it and on the rows above it alone
pub v_at-same : (rows other : List (List ℕ)) (x y : ℕ)
    → ((j : ℕ) → j < y + 1 → get_or rows j [] ≡ get_or other j []) → v_at rows x y ≡ v_at other x y
v_at-same rows other x y same =
    v_at-is rows x y
    ∙ ap (λ (f : ℕ → ℤ). v_below f (get_or rows y []) x) (fun_ext (error_above-same rows other y (λ j below. same j (omega arith))))
    ∙ ap (λ row. v_below (λ k. error_above other k y) row x) (same y (omega arith)) ∙ sym (v_at-is other x y)

-- ---- one more row

before-same : (rows : List (List ℕ)) (values : List ℕ) (j : ℕ) → j < length rows
    → get_or (rows ++ values ∷ []) j [] ≡ get_or rows j []
before-same rows values j below = get_or_append_left rows (values ∷ []) [] j below

-- the errors above an appended row are those of the rows before it
above-put : (rows : List (List ℕ)) (values : List ℕ) (x : ℕ)
    → error_above (rows ++ values ∷ []) x (length rows) ≡ error_above rows x (length rows)
above-put rows values x = error_above-same (rows ++ values ∷ []) rows (length rows) (before-same rows values) x

pub v_at-put : (rows : List (List ℕ)) (values : List ℕ) (x : ℕ)
    → v_at (rows ++ values ∷ []) x (length rows) ≡ v_below (λ k. error_above rows k (length rows)) values x
v_at-put rows values x =
    v_at-is (rows ++ values ∷ []) x (length rows)
    ∙ ap (λ (f : ℕ → ℤ). v_below f (get_or (rows ++ values ∷ []) (length rows) []) x) (fun_ext (above-put rows values))
    ∙ ap (λ row. v_below (λ k. error_above rows k (length rows)) row x) (get_or-append_seam rows values [] [])

pub error_above-put : (rows : List (List ℕ)) (values : List ℕ) (x : ℕ)
    → error_above (rows ++ values ∷ []) x (length rows + 1)
    ≡ error_left (λ k. error_above rows k (length rows)) values (x + 1)
error_above-put rows values x =
    ap (λ y. error_above (rows ++ values ∷ []) x y) (add-one (length rows)) ∙ error_above-more (rows ++ values ∷ []) x (length rows)
    ∙ ap (λ (f : ℕ → ℤ). error_left f (get_or (rows ++ values ∷ []) (length rows) []) (x + 1)) (fun_ext (above-put rows values))
    ∙ ap (λ row. error_left (λ k. error_above rows k (length rows)) row (x + 1)) (get_or-append_seam rows values [] [])

-- ---- the range of errors

sixteenth-small : (z : ℤ) → neg_ℤ (pos 2032) ≤ℤ z → z ≤ℤ pos 6112
    → IsError (error_of (int_div_euclid z (pos 16)))
sixteenth-small (pos a) low high = record { low = grind (arith, ints); high = grind (arith, ints) }
sixteenth-small (negsuc a) low high = record { low = grind (arith, ints); high = grind (arith, ints) }

pub corrected-small : (value : ℕ) (left above_right above above_left : ℤ) → value ≤ 255 → IsError left
    → IsError above_right → IsError above → IsError above_left
    → IsError (error_of (corrected value left above_right above above_left))
corrected-small value left above_right above above_left small l r a c =
    let z : ℤ = (pos (16 * value)) +ℤ (pos 7 *ℤ left) +ℤ (pos 3 *ℤ above_right) +ℤ (pos 5 *ℤ above) +ℤ above_left in
    sixteenth-small z (omega (arith, ints)) (omega (arith, ints))

pub none-small : IsError (pos 0)
none-small = record { low = omega (arith, ints); high = omega (arith, ints) }

left_of-small : (errors : ℕ → ℤ) → ((k : ℕ) → IsError (errors k)) → (x : ℕ) → IsError (left_of errors x)
left_of-small errors small zero = none-small
left_of-small errors small (suc x) = small x

pub error_left-small : (above : ℕ → ℤ) (row : List ℕ) → ((k : ℕ) → IsError (above k))
    → ((k : ℕ) → get_or row k 0 ≤ 255) → (x : ℕ) → IsError (error_left above row x)
error_left-small above row small values zero = rw (error-margin above row) none-small
error_left-small above row small values (suc x) =
    elim (cases_lt x (length row)) [
      | inl inside ↦ rw (error-inside above row x inside)
          (corrected-small (get_or row x 0) _ _ _ _ (values x) (error_left-small above row small values x) (small (x + 1)) (small x) (left_of-small above small x))
      | inr outside ↦ rw (error-outside above row x outside) none-small
    ]

pub error_above-small : (rows : List (List ℕ)) → ((j k : ℕ) → get_or (get_or rows j []) k 0 ≤ 255) → (y x : ℕ)
    → IsError (error_above rows x y)
unfolding error_above
error_above-small rows values zero x = none-small
error_above-small rows values (suc y) x = error_left-small _ _ (error_above-small rows values y) (values y) (x + 1)
