-- The row of a plate, composed of its two pages and its marks.
use Rattle.std.proofs.Common.{inl, inr, zero, suc, ◌%◌, ◌≡◌, ℕ, ◌+◌, ◌-◌, ◌/◌, ◌<◌, ◌≤◌, Bool, true, false, cond, ◌&&◌, ◌||◌, nat_lt, nat_le, List, length, replicate, get_or, refl, ap, sym, ◌∙◌, subst, arith}
use Rattle.std.specs.Prelude.{Option, Some, None}
use Rattle.std.proofs.lemmas.Bool.{cases_lt}
use Rattle.std.proofs.lemmas.Bool.Decides.{nat_tests}
use Rattle.pr_base.specs.Bits.{SetsBits, bit_at, byte_bit}
use Rattle.pr_base.specs.Row.{row_size}
use Rattle.pr_base.specs.declared.ink.Ink.{Ink}
use Rattle.pr_base.proofs.Bits.{row_is_packed}
use Rattle.plan_json.specs.Data.{PlanData, plate_width}
use Rattle.plan_pages.specs.Plate.{is_marked_at, shape_of_plate}
use Rattle.plan_pages.specs.Span.{in_span}
use Rattle.press_feed.specs.declared.side.Side.{Side}
use Rattle.press_feed.specs.declared.side.Side.TheVariants.{Left, Right}
use Rattle.press_feed.specs.Pair.{IsOf}
use Rattle.press_feed.specs.Plates.{ShowsPages, page_row}
use Rattle.press_job.specs.Job.{JobData}
use Rattle.press_job.specs.Printing.{page_bit}
use Rattle.press_job.specs.Rows.{placed_bit, plate_bit, plate_row}
use Rattle.press_feed.specs.Sides.{SideData, left_edge}

-- no pixel of zero bytes is set
pub bit_at-zeros : (n x : ℕ) → bit_at (replicate {A = ℕ} n 0) x ≡ false
bit_at-zeros n x = ap (λ byte. byte_bit byte (x % 8)) (zero_at n (x / 8)) ∙ byte_bit-zero (x % 8)
  where
    zero_at : (n i : ℕ) → get_or (replicate {A = ℕ} n 0) i 0 ≡ 0
    zero_at zero i = refl
    zero_at (suc n) zero = refl
    zero_at (suc n) (suc i) = zero_at n i

    byte_bit-zero : (k : ℕ) → byte_bit 0 k ≡ false
    byte_bit-zero k = grind (arith, nat_tests)

-- pixels that are set by a test within a span, and unchanged outside
sets_span : (test : ℕ → Bool) (from n x : ℕ) (old new : List ℕ) → SetsBits test from n old new → bit_at new x ≡ cond (in_span from (from + n) x) (test (x - from)) (bit_at old x)
sets_span test from n x old new sets =
    elim (cases_lt x from) [
      | inl before ↦ sets.before x before ∙ sym (by_flag (in_span from (from + n) x) false _ _ (left_of from (from + n) x before))
      | inr above ↦
          elim (cases_lt x (from + n)) [
            | inl below ↦
                (let e : from + (x - from) ≡ x = omega arith in
                ap (bit_at new) (sym e) ∙ sets.inside (x - from) (omega arith) ∙ sym (by_flag (in_span from (from + n) x) true _ _ (within from (from + n) x above below)))
            | inr behind ↦ sets.behind x behind ∙ sym (by_flag (in_span from (from + n) x) false _ _ (right_of from (from + n) x behind))
          ]
    ]
  where
    by_flag : (flag value a b : Bool) → flag ≡ value → cond flag a b ≡ cond value a b
    by_flag flag value a b e = ap (λ f. cond f a b) e

    left_of : (from to x : ℕ) → x < from → in_span from to x ≡ false
    left_of from to x h = grind (arith, nat_tests)

    right_of : (from to x : ℕ) → to ≤ x → in_span from to x ≡ false
    right_of from to x h = grind (arith, nat_tests)

    within : (from to x : ℕ) → from ≤ x → x < to → in_span from to x ≡ true
    within from to x low high = grind (arith, nat_tests)

-- where both pages are visible on a row of the plate
by_sides : (left right a b : Bool) → (left ≡ true → right ≡ true → ⊥) → cond right b (cond left a false) ≡ (((left && true) && a) || ((right && true) && b))
by_sides true true a b apart = absurd (apart refl refl)
by_sides true false true b apart = refl
by_sides true false false b apart = refl
by_sides false true a true apart = refl
by_sides false true a false apart = refl
by_sides false false a b apart = refl

apart_spans : (low high low' high' x : ℕ) → high ≤ low' → in_span low high x ≡ true → in_span low' high' x ≡ true → ⊥
apart_spans low high low' high' x apart first second = grind (arith, nat_tests)

-- the row of its pages that a plate shows
page_row-is : (plan : PlanData) (y row : ℕ) → page_row plan y ≡ Some row
    → (in_span (shape_of_plate plan).top_y ((shape_of_plate plan).top_y + plan.page_height) y ≡ true) × (y - (shape_of_plate plan).top_y ≡ row)
page_row-is plan y row there = found (shape_of_plate plan).top_y plan.page_height there
  where
    found : (top height : ℕ) → cond {A = Option ℕ} (nat_le top y && nat_lt (y - top) height) (Some (y - top)) None ≡ Some row → (in_span top (top + height) y ≡ true) × (y - top ≡ row)
    found top height h = grind (arith, nat_tests)

-- two pages drawn on a blank row
pub pages_set : (plan : PlanData) (files : List (List ℕ)) (left right : ℕ) (ink : Ink) (y row n : ℕ) (zeros one two : List ℕ) → zeros ≡ replicate {A = ℕ} n 0 → page_row plan y ≡ Some row
    → SetsBits (λ x. page_bit plan files left ink x row) (shape_of_plate plan).left_x plan.page_width zeros one
    → SetsBits (λ x. page_bit plan files right ink x row) (shape_of_plate plan).right_x plan.page_width one two → ShowsPages plan files left right ink y two
pages_set plan files left right ink y row n zeros one two none there first second =
    let shape = shape_of_plate plan in
    let seen = page_row-is plan y row there in
    record {
      each = λ x.
          (let in_left = in_span shape.left_x (shape.left_x + plan.page_width) x in
          let in_right = in_span shape.right_x (shape.right_x + plan.page_width) x in
          let a = page_bit plan files left ink (x - shape.left_x) (y - shape.top_y) in
          let b = page_bit plan files right ink (x - shape.right_x) (y - shape.top_y) in
          sets_span (λ x. page_bit plan files right ink x row) shape.right_x plan.page_width x one two second
          ∙ ap (λ r. cond in_right (page_bit plan files right ink (x - shape.right_x) r) (bit_at one x)) (sym seen.1)
          ∙ ap (λ bit. cond in_right b bit)
          (sets_span (λ x. page_bit plan files left ink x row) shape.left_x plan.page_width x zeros one first
          ∙ ap (λ r. cond in_left (page_bit plan files left ink (x - shape.left_x) r) (bit_at zeros x)) (sym seen.1)
          ∙ ap (λ bit. cond in_left a bit) (ap (λ bits. bit_at bits x) none ∙ bit_at-zeros n x))
          ∙ by_sides in_left in_right a b (apart_spans shape.left_x (shape.left_x + plan.page_width) shape.right_x (shape.right_x + plan.page_width) x (omega arith))
          ∙ ap (λ row_in. ((in_left && row_in) && a) || ((in_right && row_in) && b)) (sym seen.0));
    }

-- no page extends beyond the plate
past : (plan : PlanData) (files : List (List ℕ)) (left right : ℕ) (ink : Ink) (x y : ℕ) → plate_width plan ≤ x
    → (placed_bit plan files left (shape_of_plate plan).left_x ink x y || placed_bit plan files right (shape_of_plate plan).right_x ink x y) ≡ false
past plan files left right ink x y above =
    let shape = shape_of_plate plan in
    let rows = in_span shape.top_y (shape.top_y + plan.page_height) y in
    let a = page_bit plan files left ink (x - shape.left_x) (y - shape.top_y) in
    let b = page_bit plan files right ink (x - shape.right_x) (y - shape.top_y) in
    ap (λ l. ((l && rows) && a) || ((in_span shape.right_x (shape.right_x + plan.page_width) x && rows) && b)) (right_of shape.left_x (shape.left_x + plan.page_width) x (omega arith))
    ∙ ap (λ r. ((false && rows) && a) || ((r && rows) && b)) (right_of shape.right_x (shape.right_x + plan.page_width) x (omega arith))
  where
    right_of : (from to x : ℕ) → to ≤ x → in_span from to x ≡ false
    right_of from to x h = grind (arith, nat_tests)

-- the marks over the pages complete the row of the plate
pub row_is : (plan : PlanData) (files : List (List ℕ)) (left right : ℕ) (ink : Ink) (y : ℕ) (old new : List ℕ) → length new ≡ row_size (plate_width plan) → ((j : ℕ) → get_or new j 0 < 256)
    → ShowsPages plan files left right ink y old → ((x : ℕ) → bit_at new x ≡ (bit_at old x || is_marked_at plan ink x y)) → ((x : ℕ) → plate_width plan ≤ x → bit_at new x ≡ bit_at old x)
    → new ≡ plate_row plan files left right ink y
unfolding plate_bit
row_is plan files left right ink y old new long bytes pages marks padding =
    let shape = shape_of_plate plan in
    row_is_packed new (plate_width plan) (λ x. plate_bit plan files left right ink x y) long bytes
    (λ x _. marks x ∙ ap (λ bit. bit || is_marked_at plan ink x y) (pages.each x)
    ∙ marks_first (placed_bit plan files left shape.left_x ink x y) (placed_bit plan files right shape.right_x ink x y) (is_marked_at plan ink x y))
    (λ x above. padding x above ∙ pages.each x ∙ past plan files left right ink x y above)
  where
    marks_first : (a b m : Bool) → ((a || b) || m) ≡ ((m || a) || b)
    marks_first true true true = refl
    marks_first true true false = refl
    marks_first true false true = refl
    marks_first true false false = refl
    marks_first false true true = refl
    marks_first false true false = refl
    marks_first false false true = refl
    marks_first false false false = refl

-- the two sides of a plate that were drawn
pub sides_drawn : (job : JobData) (ink : Ink) (y row n : ℕ) (left right : SideData) (zeros one two : List ℕ) → IsOf job Left left → IsOf job Right right
    → zeros ≡ replicate {A = ℕ} n 0 → page_row job.plan y ≡ Some row → SetsBits (λ x. page_bit left.plan left.files left.page ink x row) (left_edge left.plan left.side) left.plan.page_width zeros one
    → SetsBits (λ x. page_bit right.plan right.files right.page ink x row) (left_edge right.plan right.side) right.plan.page_width one two → ShowsPages job.plan job.files left.page right.page ink y two
sides_drawn job ink y row n left right zeros one two on_left on_right none there first second =
    pages_set job.plan job.files left.page right.page ink y row n zeros one two none there
    (at_side job.plan left.plan Left left.side job.files left.files left.page ink row zeros one on_left.plan_is on_left.side_is on_left.files_are first)
    (at_side job.plan right.plan Right right.side job.files right.files right.page ink row one two on_right.plan_is on_right.side_is on_right.files_are second)
  where
    at_side : (plan own : PlanData) (side own_side : Side) (files own_files : List (List ℕ)) (page : ℕ) (ink : Ink) (row : ℕ) (old new : List ℕ) → own ≡ plan → own_side ≡ side → own_files ≡ files
        → SetsBits (λ x. page_bit own own_files page ink x row) (left_edge own own_side) own.page_width old new
        → SetsBits (λ x. page_bit plan files page ink x row) (left_edge plan side) plan.page_width old new
    at_side plan own side own_side files own_files page ink row old new plans sides all sets =
        subst {A = PlanData} (λ p. SetsBits (λ x. page_bit p files page ink x row) (left_edge p side) p.page_width old new) plans
        (subst {A = Side} (λ s. SetsBits (λ x. page_bit own files page ink x row) (left_edge own s) own.page_width old new) sides
        (subst {A = List (List ℕ)} (λ fs. SetsBits (λ x. page_bit own fs page ink x row) (left_edge own own_side) own.page_width old new) all sets))
