-- The error and the pixel of one lane are the defined ones.
use Rattle.std.proofs.Common.{◌≡◌, ℕ, ◌+◌, ◌<◌, ◌≤◌, Bool, ℤ, pos, ◌≤ℤ◌, ◌+ℤ◌, ◌*ℤ◌, FitsSigned, to_z, of_z, List, length, map, get_or, ap, sym, ◌∙◌, arith, add-one, w16}
use Rattle.std.proofs.lemmas.Int.{ints}
use Rattle.std.proofs.lemmas.List.{length-map}
use Rattle.scr_diffuse.specs.Diffusion.{IsError, corrected, error_left, error_of, left_of, prints, v_below}
use Rattle.scr_diffuse.specs.Passes.{floor_16, number_at}
use Rattle.scr_diffuse.specs.Steps.{AreValues}
use Rattle.scr_diffuse.proofs.DiffusionLemmas.{corrected-small, error-inside}
use Rattle.scr_diffuse.proofs.LaneLemmas.{kept, kept_is}

pub fits_error : (e : ℤ) → IsError e → FitsSigned w16 e
fits_error e small = omega (arith, ints)

-- numbers that were put into lanes and taken out again
pub kept_length : (a : List ℤ) → length a ≡ 8 → length (kept a) ≡ 8
kept_length a eight = length-map (map (of_z w16) a) (to_z w16) ∙ length-map a (of_z w16) ∙ eight

pub bits_length : (bits : List ℕ) → length bits ≡ 8 → length (map (to_z w16) bits) ≡ 8
bits_length bits eight = length-map bits (to_z w16) ∙ eight

pub fits_value : (n : ℕ) → n ≤ 255 → FitsSigned w16 (pos n)
fits_value n byte = omega (arith, ints)

pub loaded_values : (numbers : List ℤ) (f : ℕ → ℕ) → length numbers ≡ 8
    → ((k : ℕ) → k < 8 → number_at numbers k ≡ pos (f k)) → ((k : ℕ) → k < 8 → f k ≤ 255) → (k : ℕ) → k < 8
    → number_at (kept numbers) k ≡ pos (f k)
loaded_values numbers f eight same bytes k within = kept_is numbers k (pos (f k)) eight within (same k within) (fits_value (f k) (bytes k within))

value_least : (n : ℕ) → pos 0 ≤ℤ pos n
value_least n = omega (arith, ints)

value_most : (n : ℕ) → n ≤ 255 → pos n ≤ℤ pos 255
value_most n byte = omega (arith, ints)

pub values_are : (numbers : List ℤ) (f : ℕ → ℕ) → length numbers ≡ 8
    → ((k : ℕ) → k < 8 → number_at numbers k ≡ pos (f k)) → ((k : ℕ) → k < 8 → f k ≤ 255) → AreValues numbers
values_are numbers f eight same bytes = record {
  eight = eight;
  least = λ k within. rw (same k within) (value_least (f k));
  most = λ k within. rw (same k within) (value_most (f k) (bytes k within));
}

-- the whole sum of a pixel
abbrev pub whole : ℤ → ℤ → ℤ → ℤ → ℤ → ℤ
whole v l r a b = (pos 16 *ℤ v) +ℤ (pos 7 *ℤ l) +ℤ (pos 3 *ℤ r) +ℤ (pos 5 *ℤ a) +ℤ b

whole_fits : (n : ℕ) (l r a b : ℤ) → n ≤ 255 → IsError l → IsError r → IsError a → IsError b
    → FitsSigned w16 (whole (pos n) l r a b)
whole_fits n l r a b byte small_l small_r small_a small_b = omega (arith, ints)

-- the error and the dot of one lane, from its value and the errors beside and above it
pub record IsLane (n : ℕ) (l r a b e : ℤ) (dot : Bool) : Type 0 where
  pub error_is : e ≡ error_of (corrected n l r a b)
  pub small : IsError (error_of (corrected n l r a b))
  pub dot_is : dot ≡ prints (corrected n l r a b)

pub lane_made : (n k : ℕ) (l r a b : ℤ) (value : ℤ) (sums left : List ℤ) (dots : ℕ → Bool) → k < 8 → n ≤ 255
    → value ≡ pos n → IsError l → IsError r → IsError a → IsError b → length sums ≡ 8
    → number_at sums k ≡ whole value l r a b → length left ≡ 8
    → (FitsSigned w16 (number_at (kept sums) k)
    → number_at left k ≡ error_of (floor_16 (number_at (kept sums) k)))
    → (FitsSigned w16 (number_at (kept sums) k) → dots k ≡ prints (floor_16 (number_at (kept sums) k)))
    → IsLane n l r a b (number_at (kept left) k) (dots k)
lane_made n k l r a b value sums left dots lanes byte value_is small_l small_r small_a small_b sums_long sums_are left_long left_are dots_are =
    let z : ℤ = whole (pos n) l r a b in
    let v : ℤ = corrected n l r a b in
    let sum : number_at sums k ≡ z = sums_are ∙ ap (λ w. whole w l r a b) value_is in
    let sum_fits : FitsSigned w16 z = whole_fits n l r a b byte small_l small_r small_a small_b in
    let kept_sum : number_at (kept sums) k ≡ z = kept_is sums k z sums_long lanes sum sum_fits in
    let same : floor_16 (number_at (kept sums) k) ≡ v = ap floor_16 kept_sum in
    let error : number_at left k ≡ error_of v = left_are (rw kept_sum sum_fits) ∙ ap error_of same in
    let small : IsError (error_of v) = corrected-small n l r a b byte small_l small_r small_a small_b in
    record {
      error_is = kept_is left k (error_of v) left_long lanes error (fits_error _ small);
      small = small;
      dot_is = dots_are (rw kept_sum sum_fits) ∙ ap prints same;
    }

-- v of a pixel, from the numbers of its lane
pub v_is : (above : ℕ → ℤ) (row : List ℕ) (x n : ℕ) (l r a b : ℤ) → n ≡ get_or row x 0
    → l ≡ error_left above row x → r ≡ above (x + 1) → a ≡ above x → b ≡ left_of above x
    → corrected n l r a b ≡ v_below above row x
v_is above row x n l r a b value left right here corner =
    let m : ℕ = get_or row x 0 in
    let e : ℤ = error_left above row x in
    ap (λ z. corrected z l r a b) value ∙ ap (λ z. corrected m z r a b) left ∙ ap (λ z. corrected m e z a b) right
    ∙ ap (λ z. corrected m e (above (x + 1)) z b) here ∙ ap (λ z. corrected m e (above (x + 1)) (above x) z) corner

-- the error of a pixel is that to the left of the next column
pub next_left : (above : ℕ → ℤ) (row : List ℕ) (x : ℕ) → x < length row
    → error_of (v_below above row x) ≡ error_left above row (x + 1)
next_left above row x within = sym (error-inside above row x within) ∙ ap (error_left above row) (sym (add-one x))
