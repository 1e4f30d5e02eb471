-- The steps of a block: each makes one more column of each row.
use Rattle.std.proofs.Common.{◌≡◌, FitsSigned, to_z, of_z, w16, ℕ, zero, suc, ◌+◌, ◌-◌, ◌*◌, ◌<◌, ◌≤◌, ℤ, pos, List, [], ◌∷◌, length, refl, get_or, slice_set, ap, sym, subst, ◌∙◌, inl, inr, arith, add-one, get_or-set_same, get_or-set_other}
use Rattle.std.proofs.lemmas.Bool.{cases_eq, cases_lt}
use Rattle.std.proofs.lemmas.Int.{to_z-of_z}
use Rattle.scr_diffuse.specs.Block.{bit_of, block_left, block_v, left_in}
use Rattle.scr_diffuse.specs.Diffusion.{IsError, corrected, error_left, error_of, left_of, prints, v_below}
use Rattle.scr_diffuse.specs.Passes.{floor_16, number_at}
use Rattle.scr_diffuse.specs.Steps.{AreErrors, HasErrors, HasValues, IsPast, IsReached}
use Rattle.scr_diffuse.specs.declared.block.Wavefront.{Wavefront}
use Rattle.scr_diffuse.proofs.BlockLemmas.{block-behind, block-corner, block-first, block-margin, block-next}
use Rattle.scr_diffuse.proofs.ColumnLemmas.{IsLane, fits_error, kept_length, lane_made, next_left, v_is, whole}
use Rattle.scr_diffuse.proofs.DiffusionLemmas.{none-small}
use Rattle.scr_diffuse.proofs.LaneLemmas.{each_of_eight, kept, kept_at, kept_is}
use Rattle.scr_diffuse.proofs.StepLemmas.{unwritten, written}
use Rattle.scr_diffuse.proofs.WeaveLemmas.{value-within}

-- ---- the errors are small

-- of a list in which one was replaced
pub small_set : (errors : List ℤ) (i : ℕ) (e : ℤ) → ((x : ℕ) → IsError (number_at errors x))
    → i < length errors → IsError e → (x : ℕ) → IsError (number_at (slice_set errors i e) x)
small_set errors i e small within is x =
    elim (cases_eq x i) [
      | inl same ↦ rw same (rw (written errors i e within) is)
      | inr other ↦ rw (unwritten errors i x e other) (small x)
    ]

-- of a vector whose lanes were moved up by one
small_lane : (right older : List ℤ) → IsError (number_at right 0) → AreErrors older
    → ((k : ℕ) → k < 7 → number_at right (k + 1) ≡ number_at older k) → (k : ℕ) → k < 8
    → IsError (number_at right k)
small_lane right older small errors others zero few = small
small_lane right older small errors others (suc k) few =
    subst IsError (sym (ap (number_at right) (sym (add-one k)) ∙ others k (omega arith))) (errors.each k (omega arith))

pub small_moved : (right older : List ℤ) → length right ≡ 8 → IsError (number_at right 0) → AreErrors older
    → ((k : ℕ) → k < 7 → number_at right (k + 1) ≡ number_at older k) → AreErrors right
small_moved right older eight small errors others = record { eight = eight; each = small_lane right older small errors others }

-- ---- vectors that were passed on

pub kept_error : (a : List ℤ) → AreErrors a → (k : ℕ) → k < 8 → number_at (kept a) k ≡ number_at a k
kept_error a errors k few = kept_at a k errors.eight few (fits_error _ (errors.each k few))

pub kept_errors : (a : List ℤ) → AreErrors a → AreErrors (kept a)
kept_errors a errors = record { eight = kept_length a errors.eight; each = λ k few. rw (kept_error a errors k few) (errors.each k few) }

-- the last lane, as it is stored in a list
pub stored_last : (lanes : List ℤ) (last : ℤ) → IsError (number_at lanes 7)
    → (FitsSigned w16 (number_at lanes 7) → last ≡ number_at lanes 7)
    → to_z w16 (of_z w16 last) ≡ number_at lanes 7
stored_last lanes last small is =
    let fits : FitsSigned w16 (number_at lanes 7) = fits_error _ small in
    ap (λ (x : ℤ). to_z w16 (of_z w16 x)) (is fits) ∙ to_z-of_z w16 _ fits

-- ---- a step that every row is in

-- what a step makes of the errors before it, lane by lane
pub record IsStep (columns : List ℕ) (errors : List ℤ) (step : ℕ) (wave : Wavefront) (right left : List ℤ)
    (byte : ℕ) : Type 0 where
  pub first : number_at right 0 ≡ number_at errors (step + 23)
  pub others : (k : ℕ) → k < 7 → number_at right (k + 1) ≡ number_at wave.older k
  pub lanes : (k : ℕ) → k < 8
      → IsLane (get_or columns (8 * step + k) 0) (number_at wave.left k) (number_at right k)
      (number_at wave.above k) (number_at wave.above_left k) (number_at left k) (bit_of byte k)

-- the errors above and to the right, as a vector that was passed on
pub record IsMoved (errors older right : List ℤ) (place : ℕ) : Type 0 where
  pub first : number_at right 0 ≡ number_at errors place
  pub others : (k : ℕ) → k < 7 → number_at right (k + 1) ≡ number_at older k
  pub small : AreErrors right

pub moved_is : (errors older right : List ℤ) (place : ℕ) → length right ≡ 8
    → (FitsSigned w16 (number_at errors place) → number_at right 0 ≡ number_at errors place)
    → ((k : ℕ) → k < 7 → FitsSigned w16 (number_at older k) → number_at right (k + 1) ≡ number_at older k)
    → IsError (number_at errors place) → AreErrors older → IsMoved errors older (kept right) place
moved_is errors older right place eight first others small lanes =
    let at_first : number_at (kept right) 0 ≡ number_at errors place = kept_is right 0 _ eight (omega arith) (first (fits_error _ small)) (fits_error _ small) in
    let at_others : (k : ℕ) → k < 7 → number_at (kept right) (k + 1) ≡ number_at older k =
    λ k less. (let fits : FitsSigned w16 (number_at older k) = fits_error _ (lanes.each k (omega arith)) in kept_is right (k + 1) _ eight (omega arith) (others k less fits) fits) in
    record {
      first = at_first;
      others = at_others;
      small = small_moved (kept right) older (kept_length right eight) (rw at_first small) lanes at_others;
    }

-- they are those that the row above made two steps ago
pub right_is : (above : ℕ → ℤ) (rows : List (List ℕ)) (step : ℕ) (wave : Wavefront) (errors right : List ℤ)
    (dots : List ℕ) → number_at right 0 ≡ number_at errors (step + 23)
    → ((k : ℕ) → k < 7 → number_at right (k + 1) ≡ number_at wave.older k)
    → IsPast above rows step wave errors dots → (k : ℕ) → k < 8
    → number_at right k ≡ block_left above rows k (step + 1 + 1 - 3 * k)
right_is above rows step wave errors right dots first others past zero within =
    let place : step + 23 - 21 ≡ step + 1 + 1 - 3 * 0 = omega arith in
    first ∙ past.rest (step + 23) (omega arith) ∙ ap above place ∙ sym (block-first above rows (step + 1 + 1 - 3 * 0))
right_is above rows step wave errors right dots first others past (suc k) within =
    let place : step - 1 - 3 * k ≡ step + 1 + 1 - 3 * suc k = omega arith in
    ap (number_at right) (sym (add-one k)) ∙ others k (omega arith) ∙ past.older_is k (omega arith)
    ∙ ap (λ (n : ℕ). block_left above rows n (step - 1 - 3 * k)) (add-one k) ∙ ap (block_left above rows (suc k)) place

-- one step, from what its calls promise
pub step_made : (columns : List ℕ) (errors : List ℤ) (step : ℕ) (wave : Wavefront)
    (values right sums left : List ℤ) (byte : ℕ) → HasErrors wave
    → IsMoved errors (kept wave.older) right (step + 23)
    → ((k : ℕ) → k < 8 → number_at values k ≡ pos (get_or columns (8 * step + k) 0))
    → ((k : ℕ) → k < 8 → get_or columns (8 * step + k) 0 ≤ 255) → length sums ≡ 8
    → ((k : ℕ) → k < 8 → number_at sums k
    ≡ whole (number_at values k) (number_at (kept wave.left) k) (number_at right k)
    (number_at (kept wave.above) k) (number_at (kept wave.above_left) k)) → length left ≡ 8
    → ((k : ℕ) → k < 8 → FitsSigned w16 (number_at (kept sums) k)
    → number_at left k ≡ error_of (floor_16 (number_at (kept sums) k)))
    → ((k : ℕ) → k < 8 → FitsSigned w16 (number_at (kept sums) k)
    → bit_of byte k ≡ prints (floor_16 (number_at (kept sums) k)))
    → IsStep columns errors step wave right (kept left) byte
step_made columns errors step wave values right sums left byte small moved values_are bytes sums_long sums_are left_long left_are dots_are = record {
  first = moved.first;
  others = λ k less. moved.others k less ∙ kept_error wave.older small.older k (omega arith);
  lanes = λ k few.
      (let v : ℤ = number_at values k in
      let l : ℤ = number_at wave.left k in
      let r : ℤ = number_at right k in
      let a : ℤ = number_at wave.above k in
      let b : ℤ = number_at wave.above_left k in
      let sum : number_at sums k ≡ whole v l r a b =
      sums_are k few ∙ ap (λ z. whole v z r (number_at (kept wave.above) k) (number_at (kept wave.above_left) k)) (kept_error wave.left small.left k few)
      ∙ ap (λ z. whole v l r z (number_at (kept wave.above_left) k)) (kept_error wave.above small.above k few) ∙ ap (λ z. whole v l r a z) (kept_error wave.above_left small.above_left k few) in
      lane_made (get_or columns (8 * step + k) 0) k l r a b v sums left (bit_of byte) few (bytes k few) (values_are k few) (small.left.each k few) (moved.small.each k few) (small.above.each k few) (small.above_left.each k few)
      sums_long sum left_long (left_are k few) (dots_are k few));
}

-- each lane is small
pub step_small : (columns : List ℕ) (errors : List ℤ) (step : ℕ) (wave : Wavefront) (right left : List ℤ)
    (byte : ℕ) → IsStep columns errors step wave right left byte → length left ≡ 8 → AreErrors left
step_small columns errors step wave right left byte made eight = record { eight = eight; each = λ k few. rw (made.lanes k few).error_is (made.lanes k few).small }

-- the error and the pixel of a row that has a column in the step
pub row_made : (above : ℕ → ℤ) (rows : List (List ℕ)) (columns : List ℕ) (step : ℕ) (wave : Wavefront)
    (errors right left : List ℤ) (byte : ℕ) (dots : List ℕ) → IsStep columns errors step wave right left byte
    → IsReached above rows step wave errors dots → HasValues rows step columns → (k : ℕ) → k < 8
    → 3 * k ≤ step → step < length (get_or rows k []) + 3 * k
    → (number_at left k ≡ block_left above rows (k + 1) (step + 1 - 3 * k))
    × (bit_of byte k ≡ prints (block_v above rows k (step - 3 * k)))
row_made above rows columns step wave errors right left byte dots made reached values k few from inside =
    let x : ℕ = step - 3 * k in
    let row : List ℕ = get_or rows k [] in
    let over : ℕ → ℤ = λ y. block_left above rows k (y + 1) in
    let past = reached.past in
    let lane = made.lanes k few in
    let two : step + 1 + 1 - 3 * k ≡ x + 1 + 1 = omega arith in
    let one : step + 1 - 3 * k ≡ x + 1 = omega arith in
    let value : get_or columns (8 * step + k) 0 ≡ get_or row x 0 = values k few ∙ value-within row step (3 * k) from in
    let l : number_at wave.left k ≡ error_left over row x = reached.left_is k few ∙ block-next above rows k x in
    let r : number_at right k ≡ over (x + 1) = right_is above rows step wave errors right dots made.first made.others past k few ∙ ap (block_left above rows k) two in
    let a : number_at wave.above k ≡ over x = past.above_is k few ∙ ap (block_left above rows k) one in
    let b : number_at wave.above_left k ≡ left_of over x = past.corner_is k few ∙ block-corner above rows k x past.margin in
    let v : corrected (get_or columns (8 * step + k) 0) (number_at wave.left k) (number_at right k) (number_at wave.above k) (number_at wave.above_left k) ≡ v_below over row x =
    v_is over row x _ _ _ _ _ value l r a b in (
      lane.error_is ∙ ap error_of v ∙ next_left over row x (omega arith) ∙ sym (block-next above rows k (x + 1)) ∙ ap (block_left above rows (k + 1)) (sym one),
      lane.dot_is ∙ ap prints v,
    )

pub step_past : (above : ℕ → ℤ) (rows : List (List ℕ)) (columns : List ℕ) (step : ℕ) (wave next : Wavefront)
    (errors right left : List ℤ) (byte : ℕ) (dots : List ℕ) (e : ℤ) → step < length dots
    → IsStep columns errors step wave right left byte
    → ((k : ℕ) → k < 8 → number_at next.older k ≡ number_at wave.left k)
    → ((k : ℕ) → k < 8 → number_at next.above k ≡ number_at right k)
    → ((k : ℕ) → k < 8 → number_at next.above_left k ≡ number_at wave.above k)
    → IsReached above rows step wave errors dots → HasValues rows step columns
    → IsPast above rows (step + 1) next (slice_set errors (step + 1) e) (slice_set dots step byte)
step_past above rows columns step wave next errors right left byte dots e room made older here corner reached values = record {
  margin = reached.past.margin;
  older_is = λ k few.
      (let place : step - 3 * k ≡ step + 1 - 1 - 3 * k = omega arith in
      older k few ∙ reached.left_is k few ∙ ap (block_left above rows (k + 1)) place);
  above_is = λ k few. here k few ∙ right_is above rows step wave errors right dots made.first made.others reached.past k few;
  corner_is = λ k few. corner k few ∙ reached.past.above_is k few;
  made = λ x less.
      (let stood : number_at errors x ≡ block_left above rows 8 (x - 21) = elim (cases_eq x step) [
        | inl same ↦ rw same reached.last_is
        | inr other ↦ reached.past.made x (omega arith)
      ] in
      unwritten errors (step + 1) x e (λ h. absurd (omega arith)) ∙ stood);
  rest = λ x after. unwritten errors (step + 1) x e (λ h. absurd (omega arith)) ∙ reached.past.rest x (omega arith);
  dots_are = λ k x few inside less. elim (cases_eq (x + 3 * k) step) [
    | inl same ↦
        (let column : step - 3 * k ≡ x = omega arith in
        ap (λ n. bit_of (get_or (slice_set dots step byte) n 0) k) same ∙ ap (λ n. bit_of n k) (get_or-set_same dots step byte 0 room)
        ∙ (row_made above rows columns step wave errors right left byte dots made reached values k few (omega arith) (omega arith)).1 ∙ ap (λ n. prints (block_v above rows k n)) column)
    | inr other ↦ ap (λ n. bit_of n k) (get_or-set_other dots step (x + 3 * k) byte 0 other) ∙ reached.past.dots_are k x few inside (omega arith)
  ];
}

-- all rows have a column
pub reached_whole : (above : ℕ → ℤ) (rows : List (List ℕ)) (step : ℕ) (next : Wavefront) (errors : List ℤ)
    (dots : List ℕ) → IsPast above rows (step + 1) next errors dots
    → ((k : ℕ) → k < 8 → number_at next.left k ≡ block_left above rows (k + 1) (step + 1 - 3 * k))
    → number_at errors (step + 1) ≡ number_at next.left 7 → IsReached above rows (step + 1) next errors dots
reached_whole above rows step next errors dots past left last = record { past = past; left_is = left; last_is = last ∙ left 7 (omega arith) }

-- ---- a step that some rows are not in

-- the errors of a step, with 0 outside the rows
pub record IsMasked (step width : ℕ) (left masked : List ℤ) : Type 0 where
  pub inside : (k : ℕ) → k < 8 → 3 * k ≤ step → step < width + 3 * k → number_at masked k ≡ number_at left k
  pub before : (k : ℕ) → k < 8 → step < 3 * k → number_at masked k ≡ pos 0
  pub behind : (k : ℕ) → k < 8 → width + 3 * k ≤ step → number_at masked k ≡ pos 0

pub masked_is : (step width : ℕ) (left result : List ℤ) → AreErrors left → length result ≡ 8
    → ((k : ℕ) → k < 8 → 3 * k ≤ step → step < width + 3 * k → FitsSigned w16 (number_at (kept left) k)
    → number_at result k ≡ number_at (kept left) k)
    → ((k : ℕ) → k < 8 → step < 3 * k → number_at result k ≡ pos 0)
    → ((k : ℕ) → k < 8 → width + 3 * k ≤ step → number_at result k ≡ pos 0)
    → IsMasked step width left (kept result)
masked_is step width left result small eight inside before behind = record {
  inside = λ k few from less.
      (let same : number_at (kept left) k ≡ number_at left k = kept_error left small k few in
      let fits : FitsSigned w16 (number_at left k) = fits_error _ (small.each k few) in
      kept_is result k (number_at left k) eight few (inside k few from less (rw same fits) ∙ same) fits);
  before = λ k few early. kept_is result k (pos 0) eight few (before k few early) (fits_error (pos 0) none-small);
  behind = λ k few late. kept_is result k (pos 0) eight few (behind k few late) (fits_error (pos 0) none-small);
}

pub masked_small : (step width : ℕ) (left masked : List ℤ) → AreErrors left → IsMasked step width left masked
    → length masked ≡ 8 → AreErrors masked
masked_small step width left masked small is eight = record {
  eight = eight;
  each = λ k few. elim (cases_lt step (3 * k)) [
    | inl early ↦ rw (is.before k few early) none-small
    | inr from ↦ elim (cases_lt step (width + 3 * k)) [
      | inl here ↦ rw (is.inside k few from here) (small.each k few)
      | inr late ↦ rw (is.behind k few late) none-small
    ]
  ];
}

-- the error of a row, or 0 outside it
pub row_within : (above : ℕ → ℤ) (rows : List (List ℕ)) (k step width : ℕ) (now : ℤ)
    → length (get_or rows k []) ≡ width → above 0 ≡ pos 0
    → (3 * k ≤ step → step < width + 3 * k → now ≡ block_left above rows (k + 1) (step + 1 - 3 * k))
    → (step < 3 * k → now ≡ pos 0) → (width + 3 * k ≤ step → now ≡ pos 0)
    → now ≡ block_left above rows (k + 1) (step + 1 - 3 * k)
row_within above rows k step width now long margin inside before behind =
    elim (cases_lt step (3 * k)) [
      | inl early ↦
          (let place : step + 1 - 3 * k ≡ 0 = omega arith in
          before early ∙ sym (block-margin above rows (k + 1) margin) ∙ ap (block_left above rows (k + 1)) (sym place))
      | inr from ↦ elim (cases_lt step (width + 3 * k)) [
        | inl here ↦ inside from here
        | inr late ↦ behind late ∙ sym (block-behind above rows k (step + 1 - 3 * k) (omega arith))
      ]
    ]

-- the errors that the step made are replaced in the lanes, and in the list
pub reached_edge : (above : ℕ → ℤ) (rows : List (List ℕ)) (step : ℕ) (next final : Wavefront)
    (errors : List ℤ) (dots : List ℕ) (e : ℤ) → step + 1 < length errors
    → ((k : ℕ) → k < 8 → number_at final.older k ≡ number_at next.older k)
    → ((k : ℕ) → k < 8 → number_at final.above k ≡ number_at next.above k)
    → ((k : ℕ) → k < 8 → number_at final.above_left k ≡ number_at next.above_left k)
    → IsPast above rows (step + 1) next errors dots
    → ((k : ℕ) → k < 8 → number_at final.left k ≡ block_left above rows (k + 1) (step + 1 - 3 * k))
    → e ≡ number_at final.left 7
    → IsReached above rows (step + 1) final (slice_set errors (step + 1) e) dots
reached_edge above rows step next final errors dots e room older here corner past left last = record {
  past = record {
    margin = past.margin;
    older_is = λ k few. older k few ∙ past.older_is k few;
    above_is = λ k few. here k few ∙ past.above_is k few;
    corner_is = λ k few. corner k few ∙ past.corner_is k few;
    made = λ x less. unwritten errors (step + 1) x e (λ h. absurd (omega arith)) ∙ past.made x less;
    rest = λ x after. unwritten errors (step + 1) x e (λ h. absurd (omega arith)) ∙ past.rest x after;
    dots_are = past.dots_are;
  };
  left_is = left;
  last_is = written errors (step + 1) e room ∙ last ∙ left 7 (omega arith);
}

-- ---- the first step and the last

-- the errors above a block, by the places of its list
pub left_at : (errors : List ℤ) → ((x : ℕ) → x < 22 → number_at errors x ≡ pos 0) → (x : ℕ)
    → number_at errors x ≡ left_in errors (x - 21)
left_at errors left x =
    elim (cases_lt x 22) [
      | inl few ↦
          (let place : 21 ≡ x - 21 + 21 = omega arith in
          left x few ∙ sym (left 21 (omega arith)) ∙ ap (number_at errors) place)
      | inr late ↦ (let place : x ≡ x - 21 + 21 = omega arith in ap (number_at errors) place)
    ]

abbrev pub zeros : List ℤ
zeros = pos 0 ∷ pos 0 ∷ pos 0 ∷ pos 0 ∷ pos 0 ∷ pos 0 ∷ pos 0 ∷ pos 0 ∷ []

pub zero_at : (k : ℕ) → k < 8 → number_at zeros k ≡ pos 0
zero_at = each_of_eight (λ k. number_at zeros k ≡ pos 0) refl refl refl refl refl refl refl refl

pub zeros_small : AreErrors zeros
zeros_small = record { eight = refl; each = λ k few. rw (zero_at k few) none-small }

-- the errors above the first pixels, as a vector that was passed on
pub first_is : (errors before right : List ℤ) → length before ≡ 8 → length right ≡ 8
    → (FitsSigned w16 (number_at errors 22) → number_at before 7 ≡ number_at errors 22)
    → IsError (number_at errors 22)
    → (FitsSigned w16 (number_at (kept before) 7) → number_at right 0 ≡ number_at (kept before) 7)
    → ((k : ℕ) → k < 7 → FitsSigned w16 (number_at zeros k) → number_at right (k + 1) ≡ number_at zeros k)
    → IsMoved errors zeros (kept right) 22
first_is errors before right eight long last small first others =
    let fits : FitsSigned w16 (number_at errors 22) = fits_error _ small in
    let same : number_at (kept before) 7 ≡ number_at errors 22 = kept_is before 7 _ eight (omega arith) (last fits) fits in
    moved_is errors zeros right 22 long (λ f. first (rw same fits) ∙ same) others small zeros_small

none_before : (above : ℕ → ℤ) (rows : List (List ℕ)) (k x : ℕ) → above 0 ≡ pos 0 → x ≡ 0
    → block_left above rows k x ≡ pos 0
none_before above rows k x margin place = ap (block_left above rows k) place ∙ block-margin above rows k margin

above_first : (above : ℕ → ℤ) (rows : List (List ℕ)) (lanes : List ℤ) → above 0 ≡ pos 0
    → number_at lanes 0 ≡ above 1 → ((k : ℕ) → k < 7 → number_at lanes (k + 1) ≡ pos 0) → (k : ℕ) → k < 8
    → number_at lanes k ≡ block_left above rows k (0 + 1 - 3 * k)
above_first above rows lanes margin first others zero few = first ∙ sym (block-first above rows 1)
above_first above rows lanes margin first others (suc k) few =
    ap (number_at lanes) (sym (add-one k)) ∙ others k (omega arith) ∙ sym (none_before above rows (suc k) (0 + 1 - 3 * suc k) margin (omega arith))

pub reached_first : (above : ℕ → ℤ) (rows : List (List ℕ)) (wave : Wavefront) (errors : List ℤ)
    (dots : List ℕ) → ((x : ℕ) → number_at errors x ≡ above (x - 21)) → above 0 ≡ pos 0
    → ((k : ℕ) → k < 8 → number_at wave.left k ≡ pos 0) → ((k : ℕ) → k < 8 → number_at wave.older k ≡ pos 0)
    → ((k : ℕ) → k < 8 → number_at wave.above_left k ≡ pos 0)
    → number_at wave.above 0 ≡ number_at errors 22 → ((k : ℕ) → k < 7 → number_at wave.above (k + 1) ≡ pos 0)
    → IsReached above rows 0 wave errors dots
reached_first above rows wave errors dots list margin left older corner first others = record {
  past = record {
    margin = margin;
    older_is = λ k few. older k few ∙ sym (none_before above rows (k + 1) (0 - 1 - 3 * k) margin (omega arith));
    above_is = above_first above rows wave.above margin (first ∙ list 22) others;
    corner_is = λ k few. corner k few ∙ sym (none_before above rows k (0 - 3 * k) margin (omega arith));
    made = λ x less. absurd (omega arith);
    rest = λ x after. list x;
    dots_are = λ k x few inside less. absurd (omega arith);
  };
  left_is = λ k few. left k few ∙ sym (none_before above rows (k + 1) (0 - 3 * k) margin (omega arith));
  last_is = list 0 ∙ margin ∙ sym (block-margin above rows 8 margin);
}

-- all errors of the last row are made
pub all_made : (errors new : List ℤ) (rows : List (List ℕ)) (step width : ℕ) (wave : Wavefront)
    (dots : List ℕ) → step ≡ width + 21 → length (get_or rows 7 []) ≡ width
    → ((x : ℕ) → width + 21 < x → number_at errors x ≡ pos 0)
    → IsReached (left_in errors) rows step wave new dots → (x : ℕ)
    → number_at new x ≡ block_left (left_in errors) rows 8 (x - 21)
all_made errors new rows step width wave dots end long right reached x =
    elim (cases_eq x step) [
      | inl same ↦ rw same reached.last_is
      | inr other ↦ elim (cases_lt x step) [
        | inl before ↦ reached.past.made x before
        | inr from ↦
            (let place : x - 21 + 21 ≡ x = omega arith in
            reached.past.rest x (omega arith) ∙ ap (number_at errors) place ∙ right x (omega arith) ∙ sym (block-behind (left_in errors) rows 7 (x - 21) (omega arith)))
      ]
    ]
