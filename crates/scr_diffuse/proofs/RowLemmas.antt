-- A row's numbers and errors, as the passes compute them, are the defined ones.
use Rattle.std.proofs.Common.{◌≡◌, ℕ, zero, suc, ◌+◌, ◌-◌, ◌<◌, ◌≤◌, ℤ, pos, inl, inr, List, ◌++◌, length, take, drop, get_or, refl, ap, sym, ◌∙◌, arith, add-one}
use Rattle.std.specs.Int.{int_div_euclid}
use Rattle.std.proofs.lemmas.Bool.{cases_eq, cases_lt}
use Rattle.std.proofs.lemmas.Int.{ints}
use Rattle.std.proofs.lemmas.List.{get_or_past, get_or_append_left, get_or-append_right, get_or-drop, get_or-take, length-take}
use Rattle.scr_diffuse.specs.Diffusion.{corrected, error_of, error_left, left_of, v_below}
use Rattle.scr_diffuse.specs.Passes.{number_at, errors_in, weighted, sum_above, v_of, v_from}
use Rattle.scr_diffuse.proofs.DiffusionLemmas.{error-inside, error-outside, error-margin}

-- a list with a margin holds at each place the error one column to the left
margined : (errors : List ℤ) (x : ℕ) → number_at errors 0 ≡ pos 0
    → number_at errors x ≡ left_of (errors_in errors) x
margined errors zero margin = margin
margined errors (suc x) margin = rw add-one refl

-- the weights of the row above and of the left, added up
corrected-is : (value : ℕ) (left above_right above above_left : ℤ)
    → v_of (weighted value above_right above above_left) left
    ≡ corrected value left above_right above above_left
corrected-is value left above_right above above_left = ap (λ z. int_div_euclid z (pos 16)) (omega (arith, ints))

module _ (values : List ℕ) (errors sums numbers : List ℤ) (margin : number_at errors 0 ≡ pos 0)
    (summed : (x : ℕ) → x < length values → number_at sums x ≡ sum_above values errors x)
    (numbered : (x : ℕ) → x < length values → number_at numbers x ≡ v_from sums numbers x) where
  number_is : (x : ℕ) → x < length values
      → left_of (λ k. error_of (number_at numbers k)) x ≡ error_left (errors_in errors) values x
      → number_at numbers x ≡ v_below (errors_in errors) values x
  number_is x within left =
      let next : x + 2 ≡ x + 1 + 1 = omega arith in
      numbered x within ∙ ap (λ s. v_of s (left_of (λ k. error_of (number_at numbers k)) x)) (summed x within)
      ∙ ap (λ e. v_of (sum_above values errors x) e) left
      ∙ ap (λ e. v_of (weighted (get_or values x 0) (number_at errors (x + 2)) (number_at errors (x + 1)) e) (error_left (errors_in errors) values x)) (margined errors x margin)
      ∙ corrected-is (get_or values x 0) (error_left (errors_in errors) values x) (number_at errors (x + 2)) (number_at errors (x + 1)) (left_of (errors_in errors) x)
      ∙ ap (λ k. corrected (get_or values x 0) (error_left (errors_in errors) values x) (number_at errors k) (number_at errors (x + 1)) (left_of (errors_in errors) x)) next

  left_is : (x : ℕ) → x ≤ length values
      → left_of (λ k. error_of (number_at numbers k)) x ≡ error_left (errors_in errors) values x
  left_is zero within = sym (error-margin (errors_in errors) values)
  left_is (suc x) within =
      ap error_of (number_is x (omega arith) (left_is x (omega arith))) ∙ sym (error-inside (errors_in errors) values x (omega arith))

  pub numbers_are : (x : ℕ) → x < length values → number_at numbers x ≡ v_below (errors_in errors) values x
  numbers_are x within = number_is x within (left_is x (omega arith))

-- the errors computed from a row's numbers
pub kept_are : (above : ℕ → ℤ) (values : List ℕ) (old new : List ℤ) → length old ≡ length values + 2
    → length new ≡ length old
    → ((x : ℕ) → x < length values → number_at old x ≡ v_below above values x)
    → number_at old (length values + 1) ≡ pos 0
    → number_at new 0 ≡ pos 0
    → ((x : ℕ) → x + 2 < length old → number_at new (x + 1) ≡ error_of (number_at old x))
    → number_at new (length old - 1) ≡ error_of (number_at old (length old - 1))
    → (k : ℕ) → number_at new k ≡ error_left above values k
kept_are above values old new size same numbered right margin kept last zero = margin ∙ sym (error-margin above values)
kept_are above values old new size same numbered right margin kept last (suc x) =
    let next : suc x ≡ x + 1 = omega arith in
    let end : length old - 1 ≡ length values + 1 = omega arith in
    elim (cases_lt x (length values)) [
      | inl inside ↦ ap (number_at new) next ∙ kept x (omega arith) ∙ ap error_of (numbered x inside) ∙ sym (error-inside above values x inside)
      | inr outside ↦ elim (cases_eq x (length values)) [
        | inl here ↦
            let place : suc x ≡ length old - 1 = omega arith in
            ap (number_at new) place ∙ last ∙ ap error_of (ap (number_at old) end ∙ right) ∙ sym (error-outside above values x outside)
        | inr behind ↦ get_or_past new (suc x) (pos 0) (omega arith) ∙ sym (error-outside above values x outside)
      ]
    ]

-- the numbers that add_left computes before the margin, where the sums of add_above were lent to it without
-- the margin
pub row_numbers : (values : List ℕ) (errors sums numbers : List ℤ) → number_at errors 0 ≡ pos 0
    → length numbers ≡ length values → length sums ≡ length values + 2
    → ((x : ℕ) → x < length values → number_at sums x ≡ sum_above values errors x)
    → ((x : ℕ) → x < length (take (length values) sums)
    → number_at numbers x ≡ v_from (take (length values) sums) numbers x) → (x : ℕ) → x < length values
    → number_at (numbers ++ drop (length values) sums) x ≡ v_below (errors_in errors) values x
row_numbers values errors sums numbers margin count size summed numbered x within =
    let width = length values in
    get_or_append_left numbers (drop width sums) (pos 0) x (omega arith)
    ∙ numbers_are values errors (take width sums) numbers margin
    (λ k below. get_or-take width sums k (pos 0) below ∙ summed k below)
    (λ k below. numbered k (omega (arith, length-take width sums))) x within

-- the last place of the margin
pub row_rest : (values : List ℕ) (sums numbers : List ℤ) → length numbers ≡ length values
    → number_at sums (length values + 1) ≡ pos 0
    → number_at (numbers ++ drop (length values) sums) (length values + 1) ≡ pos 0
row_rest values sums numbers count rest =
    let one : length values + 1 - length values ≡ 1 = omega arith in
    get_or-append_right numbers (drop (length values) sums) (length values) (length values + 1) (pos 0) count (omega arith)
    ∙ ap (λ k. number_at (drop (length values) sums) k) one ∙ get_or-drop (length values) sums 1 (pos 0) ∙ rest
