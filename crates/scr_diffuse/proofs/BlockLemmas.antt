-- The errors and pixels of a block of eight rows are the defined ones.
use Rattle.std.proofs.Common.{◌≡◌, ℕ, zero, suc, ◌+◌, ◌-◌, ◌*◌, ◌<◌, ℤ, pos, List, [], ◌++◌, length, take, drop, get_or, refl, ap, sym, subst, ◌∙◌, arith, add-one, add-zero, add-suc}
use Rattle.std.proofs.Math.Path.{fun_ext}
use Rattle.std.proofs.lemmas.List.{get_or_append_left, get_or-append-add, length-append}
use Rattle.scr_diffuse.specs.Block.{HoldsBelow, HoldsBlock, bit_of, block_left, block_v, left_in}
use Rattle.scr_diffuse.specs.Diffuser.{joined}
use Rattle.scr_diffuse.specs.Diffusion.{IsError, diffused_bit, error_above, error_left, left_of, prints, v_at, v_below}
use Rattle.scr_diffuse.specs.Passes.{number_at}
use Rattle.scr_diffuse.proofs.DiffusionLemmas.{error-margin, error-outside, error_above-more, error_above-same, none-small, v_at-is}
use Rattle.scr_diffuse.proofs.StandLemmas.{lent_whole, nothing_above}
use Rattle.scr_diffuse.proofs.StepLemmas.{left-next}

-- above the first row are the errors that are given
pub block-first : (above : ℕ → ℤ) (rows : List (List ℕ)) (x : ℕ) → block_left above rows 0 x ≡ above x
unfolding block_left
block-first above rows x = refl

-- one more row of the block
block-suc : (above : ℕ → ℤ) (rows : List (List ℕ)) (k x : ℕ)
    → block_left above rows (suc k) x ≡ error_left (λ y. block_left above rows k (y + 1)) (get_or rows k []) x
unfolding block_left
block-suc above rows k x = refl

pub block-next : (above : ℕ → ℤ) (rows : List (List ℕ)) (k x : ℕ)
    → block_left above rows (k + 1) x ≡ error_left (λ y. block_left above rows k (y + 1)) (get_or rows k []) x
block-next above rows k x = ap (λ n. block_left above rows n x) (add-one k) ∙ block-suc above rows k x

-- the error to the left of the first column is 0
pub block-margin : (above : ℕ → ℤ) (rows : List (List ℕ)) (k : ℕ) → above 0 ≡ pos 0
    → block_left above rows k 0 ≡ pos 0
block-margin above rows zero margin = block-first above rows 0 ∙ margin
block-margin above rows (suc k) margin = block-suc above rows k 0 ∙ error-margin _ _

-- so is the error past the last column
pub block-behind : (above : ℕ → ℤ) (rows : List (List ℕ)) (k x : ℕ) → length (get_or rows k []) < x
    → block_left above rows (k + 1) x ≡ pos 0
block-behind above rows k zero behind = absurd (omega arith)
block-behind above rows k (suc x) behind = block-next above rows k (suc x) ∙ error-outside _ _ x (omega arith)

-- the error above and to the left of a pixel, from the errors of the row above it
pub block-corner : (above : ℕ → ℤ) (rows : List (List ℕ)) (k x : ℕ) → above 0 ≡ pos 0
    → block_left above rows k x ≡ left_of (λ y. block_left above rows k (y + 1)) x
block-corner above rows k zero margin = block-margin above rows k margin
block-corner above rows k (suc x) margin = ap (block_left above rows k) (sym (add-one x))

-- the errors of a block are those of a page that ends with it
pub block_is : (page rows : List (List ℕ)) (above : ℕ → ℤ)
    → ((x : ℕ) → above x ≡ left_of (λ y. error_above page y (length page)) x) → (k x : ℕ)
    → block_left above rows k x ≡ left_of (λ y. error_above (page ++ rows) y (length page + k)) x
block_is page rows above margined zero x =
    block-first above rows x ∙ margined x
    ∙ ap (λ (f : ℕ → ℤ). left_of f x) (fun_ext (λ y.
    sym (error_above-same (page ++ rows) page (length page) (λ j below. get_or_append_left page rows [] j below) y)
    ∙ ap (error_above (page ++ rows) y) (sym (add-zero (length page)))))
block_is page rows above margined (suc k) zero = block-suc above rows k 0 ∙ error-margin _ _
block_is page rows above margined (suc k) (suc x) =
    let n : ℕ = length page + k in
    let over : ℕ → ℤ = λ y. error_above (page ++ rows) y n in
    block-suc above rows k (suc x)
    ∙ ap (λ (f : ℕ → ℤ). error_left f (get_or rows k []) (suc x)) (fun_ext (λ y. block_is page rows above margined k (y + 1) ∙ left-next over y))
    ∙ ap (λ row. error_left over row (suc x)) (sym (get_or-append-add page rows k []))
    ∙ ap (error_left over (get_or (page ++ rows) n [])) (sym (add-one x))
    ∙ sym (error_above-more (page ++ rows) x n)
    ∙ ap (error_above (page ++ rows) x) (sym (add-suc (length page) k))

-- and so are its numbers v
pub block_v_is : (page rows : List (List ℕ)) (above : ℕ → ℤ)
    → ((x : ℕ) → above x ≡ left_of (λ y. error_above page y (length page)) x) → (k x : ℕ)
    → block_v above rows k x ≡ v_at (page ++ rows) x (length page + k)
block_v_is page rows above margined k x =
    let n : ℕ = length page + k in
    let over : ℕ → ℤ = λ y. error_above (page ++ rows) y n in
    ap (λ (f : ℕ → ℤ). v_below f (get_or rows k []) x) (fun_ext (λ y. block_is page rows above margined k (y + 1) ∙ left-next over y))
    ∙ ap (λ row. v_below over row x) (sym (get_or-append-add page rows k []))
    ∙ sym (v_at-is (page ++ rows) x n)

-- ---- what is kept after a block

-- before the first row
pub below_at_start : (rows : List (List ℕ)) (width : ℕ) (errors : List ℤ) → rows ≡ []
    → length errors ≡ width + 44 → ((x : ℕ) → number_at errors x ≡ pos 0) → HoldsBelow rows width errors
below_at_start rows width errors none room zeros = rw none (record {
  room = room;
  below = λ x. zeros x ∙ sym (nothing_above (x - 21));
  small = λ x. rw (zeros x) none-small;
  right = λ x behind. zeros x;
})

-- no row's errors are in the first places
pub below_margin : (page : List (List ℕ)) (width : ℕ) (errors : List ℤ) → HoldsBelow page width errors
    → (x : ℕ) → x < 22 → number_at errors x ≡ pos 0
below_margin page width errors holds x few =
    let first : x - 21 ≡ 0 = omega arith in
    holds.below x ∙ ap (left_of (λ y. error_above page y (length page))) first

-- the errors above the next row
pub below_left : (page : List (List ℕ)) (width : ℕ) (errors : List ℤ) → HoldsBelow page width errors → (x : ℕ)
    → left_in errors x ≡ left_of (λ y. error_above page y (length page)) x
below_left page width errors holds x =
    let place : x + 21 - 21 ≡ x = omega arith in
    holds.below (x + 21) ∙ ap (left_of (λ y. error_above page y (length page))) place

pub below_next : (page rows : List (List ℕ)) (width : ℕ) (errors new : List ℤ) → HoldsBelow page width errors
    → length rows ≡ 8 → length (get_or rows 7 []) ≡ width → length new ≡ length errors
    → ((x : ℕ) → number_at new x ≡ block_left (left_in errors) rows 8 (x - 21))
    → ((x : ℕ) → IsError (number_at new x)) → HoldsBelow (page ++ rows) width new
below_next page rows width errors new holds eight long same made small =
    let count : length page + 8 ≡ length (page ++ rows) = omega (arith, length-append page rows) in
    record {
      room = same ∙ holds.room;
      below = λ x. made x ∙ block_is page rows (left_in errors) (below_left page width errors holds) 8 (x - 21) ∙ ap (λ (n : ℕ). left_of (λ y. error_above (page ++ rows) y n) (x - 21)) count;
      small = small;
      right = λ x behind. made x ∙ block-behind (left_in errors) rows 7 (x - 21) (omega arith);
    }

pub block_at_start : (rows : List (List ℕ)) (width : ℕ) (errors : List ℤ) (dots columns : List ℕ) → rows ≡ []
    → length errors ≡ width + 44 → length dots ≡ width + 21 → length columns ≡ 8 * length dots
    → ((x : ℕ) → number_at errors x ≡ pos 0) → HoldsBlock rows errors dots columns
block_at_start rows width errors dots columns none room long full zeros = record {
  width = width;
  long = long;
  room = full;
  errors_are = below_at_start rows width errors none room zeros;
  dots_are = λ k x within inside handed. (let empty : length rows ≡ 0 = ap length none in absurd (omega arith));
}

-- after a restart: the errors were lent whole, and come back as 0
pub block_restarted : (steps : List (List (List ℕ))) (page : List (List ℕ)) (n : ℕ) (new old : List ℤ)
    (dots columns : List ℕ) → HoldsBlock page old dots columns → steps ≡ [] → n ≡ length new
    → length new ≡ length old → ((x : ℕ) → number_at new x ≡ pos 0)
    → HoldsBlock (joined steps) (take n (new ++ drop (length new) old)) dots columns
block_restarted steps page n new old dots columns holds none whole same zeros =
    subst (λ (errors : List ℤ). HoldsBlock (joined steps) errors dots columns) (sym (lent_whole n new old whole))
    (block_at_start (joined steps) holds.width new dots columns (ap joined none) (same ∙ holds.errors_are.room) holds.long holds.room zeros)

-- after eight rows were taken
block_after : (page rows : List (List ℕ)) (errors new : List ℤ) (before dots filled columns : List ℕ)
    → (holds : HoldsBlock page errors before filled) → length rows ≡ 8
    → ((k : ℕ) → k < 8 → length (get_or rows k []) ≡ holds.width) → length new ≡ length errors
    → length dots ≡ length before → length columns ≡ length filled
    → ((x : ℕ) → number_at new x ≡ block_left (left_in errors) rows 8 (x - 21))
    → ((x : ℕ) → IsError (number_at new x))
    → ((k x : ℕ) → k < 8 → x < holds.width
    → bit_of (get_or dots (x + 3 * k) 0) k ≡ prints (block_v (left_in errors) rows k x))
    → HoldsBlock (page ++ rows) new dots columns
block_after page rows errors new before dots filled columns holds eight wide same whole full made small set = record {
  width = holds.width;
  long = whole ∙ holds.long;
  room = full ∙ holds.room ∙ ap (λ n. 8 * n) (sym whole);
  errors_are = below_next page rows holds.width errors new holds.errors_are eight (wide 7 (omega arith)) same made small;
  dots_are = λ k x within inside handed.
      (let place : length page + k ≡ length (page ++ rows) - 8 + k = omega (arith, length-append page rows, eight) in
      set k x within inside ∙ ap prints (block_v_is page rows (left_in errors) (below_left page holds.width errors holds.errors_are) k x) ∙ ap (diffused_bit (page ++ rows) x) place);
}

-- lists that were lent whole, and come back
block_lent : (rows : List (List ℕ)) (n m l : ℕ) (new old : List ℤ)
    (dots before columns filled : List ℕ) → n ≡ length new → m ≡ length dots → l ≡ length columns
    → HoldsBlock rows new dots columns
    → HoldsBlock rows (take n (new ++ drop (length new) old))
    (take m (dots ++ drop (length dots) before)) (take l (columns ++ drop (length columns) filled))
block_lent rows n m l new old dots before columns filled whole_new whole_dots whole_columns holds =
    rw (lent_whole n new old whole_new) (rw (lent_whole m dots before whole_dots) (rw (lent_whole l columns filled whole_columns) holds))

-- both: the lists after eight rows, lent and back
pub block_next : (page rows all : List (List ℕ)) (errors new : List ℤ)
    (before dots filled columns : List ℕ) (n m l : ℕ) → (holds : HoldsBlock page errors before filled)
    → length rows ≡ 8 → ((k : ℕ) → k < 8 → length (get_or rows k []) ≡ holds.width)
    → length new ≡ length errors → length dots ≡ length before → length columns ≡ length filled
    → ((x : ℕ) → number_at new x ≡ block_left (left_in errors) rows 8 (x - 21))
    → ((x : ℕ) → IsError (number_at new x))
    → ((k x : ℕ) → k < 8 → x < holds.width
    → bit_of (get_or dots (x + 3 * k) 0) k ≡ prints (block_v (left_in errors) rows k x)) → n ≡ length errors
    → m ≡ length before → l ≡ length filled → all ≡ page ++ rows
    → HoldsBlock all (take n (new ++ drop (length new) errors))
    (take m (dots ++ drop (length dots) before)) (take l (columns ++ drop (length columns) filled))
block_next page rows all errors new before dots filled columns n m l holds eight wide same whole full made small set n_is m_is l_is all_is =
    block_lent all n m l new errors dots before columns filled (n_is ∙ sym same) (m_is ∙ sym whole) (l_is ∙ sym full)
    (subst (λ (lists : List (List ℕ)). HoldsBlock lists new dots columns) (sym all_is)
    (block_after page rows errors new before dots filled columns holds eight wide same whole full made small set))
