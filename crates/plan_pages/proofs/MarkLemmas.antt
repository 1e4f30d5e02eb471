-- The pixels of a plate's row that marks cover.
use Rattle.std.proofs.Common.{◌≡◌, ℕ, ◌+◌, ◌<◌, ◌≤◌, Bool, true, false, ◌&&◌, ◌||◌, List, length, take, get_or, refl, ap, sym, ◌∙◌, subst, arith}
use Rattle.std.specs.List.{list_any}
use Rattle.std.proofs.lemmas.Bool.{and_left, and_right, le-ltb}
use Rattle.std.proofs.lemmas.List.{take_all}
use Rattle.std.proofs.lemmas.List.Elements.{All-weaker}
use Rattle.std.proofs.lemmas.List.Folds.{list_any_more, list_any_none}
use Rattle.pr_base.specs.declared.ink.Ink.{Ink}
use Rattle.plan_parts.specs.Data.{MarkData}
use Rattle.plan_json.specs.Data.{PlanData, plate_width, plate_height}
use Rattle.plan_parts.specs.Parts.{IsMark}
use Rattle.plan_json.specs.Plan.{IsPlan}
use Rattle.plan_pages.specs.Plate.{has_ink, covers, is_marked_at}
use Rattle.plan_pages.specs.Span.{AddsBits}
use Rattle.plan_pages.proofs.SpanLemmas.{adds_join}

-- one of these marks covers pixel x of row y
abbrev pub marked_by : Ink → ℕ → List MarkData → ℕ → Bool
marked_by ink y marks x = list_any (λ mark. has_ink ink mark && covers x y mark) marks

-- one more mark
pub more_marks : (ink : Ink) (y i : ℕ) (marks : List MarkData) (d : MarkData) (old now new : List ℕ) → i < length marks
    → AddsBits (marked_by ink y (take i marks)) old now → AddsBits (λ x. has_ink ink (get_or marks i d) && covers x y (get_or marks i d)) now new → AddsBits (marked_by ink y (take (i + 1) marks)) old new
more_marks ink y i marks d old now new within sets adds =
    adds_join (marked_by ink y (take i marks)) (λ x. has_ink ink (get_or marks i d) && covers x y (get_or marks i d)) (marked_by ink y (take (i + 1) marks)) old now new sets adds
    (λ x. sym (list_any_more (λ m. has_ink ink m && covers x y m) marks i d within))

-- all marks
pub all_marks : (ink : Ink) (y i : ℕ) (marks : List MarkData) (old new : List ℕ) → length marks ≤ i → AddsBits (marked_by ink y (take i marks)) old new → AddsBits (marked_by ink y marks) old new
all_marks ink y i marks old new all sets =
    let P : List MarkData → Type 0 = λ ms. AddsBits (marked_by ink y ms) old new in
    subst P (take_all i marks all) sets

-- no mark covers a pixel past the plate's width
past_mark : (ink : Ink) (width height x y : ℕ) (mark : MarkData) → width ≤ x → IsMark width height mark → (has_ink ink mark && covers x y mark) ≡ false
past_mark ink width height x y mark past is =
    and_right (has_ink ink mark) (covers x y mark) (and_left _ _ (and_right _ _ (le-ltb x (mark.x + mark.w) (let inside = is.right in omega arith))))

pub is_marked_at-past : (plan : PlanData) (ink : Ink) (x y : ℕ) → IsPlan plan → plate_width plan ≤ x → is_marked_at plan ink x y ≡ false
unfolding is_marked_at
is_marked_at-past plan ink x y is past =
    list_any_none (λ mark. has_ink ink mark && covers x y mark) plan.marks
    (All-weaker (IsMark (plate_width plan) (plate_height plan)) (λ mark. (has_ink ink mark && covers x y mark) ≡ false)
    (λ mark here. past_mark ink (plate_width plan) (plate_height plan) x y mark past here) plan.marks is.marks)

or_false : (b : Bool) → (b || false) ≡ b
or_false true = refl
or_false false = refl

pub same_past : (old new : Bool) (mark : Bool) → mark ≡ false → new ≡ (old || mark) → new ≡ old
same_past old new mark none is = is ∙ ap (λ m. old || m) none ∙ or_false old
