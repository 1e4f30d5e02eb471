-- Rows that are drawn in an ink.
use Rattle.std.proofs.Common.{◌≡◌, ℕ, ◌+◌, ◌<◌, List, [], length, get_or, set, sym, ◌∙◌, subst, inl, inr, arith}
use Rattle.std.proofs.lemmas.Bool.{cases_eq}
use Rattle.std.proofs.lemmas.Grind.{get_or-set_at}
use Rattle.std.proofs.lemmas.List.{get_or-set_other, length-set}
use Rattle.std.proofs.lemmas.List.Elements.{All-set}
use Rattle.pr_base.specs.Bits.{SetsBits}
use Rattle.pr_base.specs.declared.ink.Ink.{Ink}
use Rattle.press_job.specs.Job.{JobData}
use Rattle.press_job.specs.Printing.{page_bit}
use Rattle.press_feed.specs.declared.side.Side.{Side}
use Rattle.press_feed.specs.Drawn.{AreDrawn, IsClearBeside, ShowsRowOf, side_bit}

-- ---- drawn rows

-- one more row
pub drawn_more : (job : JobData) (side : Side) (page : ℕ) (ink : Ink) (first count from : ℕ) (rows : List (List ℕ)) (old row : List ℕ) → AreDrawn job side page ink first count rows → count < length rows → old ≡ get_or rows count old → from ≡ side_bit job.plan side
    → length row ≡ length old → SetsBits (λ x. page_bit job.plan job.files page ink x (first + count)) from job.plan.page_width old row → AreDrawn job side page ink first (count + 1) (set rows count row)
drawn_more job side page ink first count from rows old row are below old_is from_is long sets =
    let clear : IsClearBeside job.plan side old = subst {A = List ℕ} (IsClearBeside job.plan side) (sym old_is) (are.clear count old below) in
    let at : SetsBits (λ x. page_bit job.plan job.files page ink x (first + count)) (side_bit job.plan side) job.plan.page_width old row =
    subst {A = ℕ} (λ f. SetsBits (λ x. page_bit job.plan job.files page ink x (first + count)) f job.plan.page_width old row) from_is sets in
    let own : IsClearBeside job.plan side row = record {
      long = long ∙ clear.long;
      before = λ x low. at.before x low ∙ clear.before x low;
      behind = λ x high. at.behind x high ∙ clear.behind x high;
    } in
    let same : length (set rows count row) ≡ length rows = length-set rows count row in
    record {
      within = omega arith;
      few = omega (arith, are.few);
      clear = All-set (IsClearBeside job.plan side) rows count row own are.clear;
      each = λ k less. elim (cases_eq k count) [
        | inl here ↦
            subst {A = List ℕ} (ShowsRowOf job side page ink (first + k)) (sym (get_or-set_at rows count k row [] here below))
            (subst {A = ℕ} (λ n. ShowsRowOf job side page ink (first + n) row) (sym here) (record { each = at.inside }))
        | inr other ↦ subst {A = List ℕ} (ShowsRowOf job side page ink (first + k)) (sym (get_or-set_other rows count k row [] other)) (are.each k (omega arith))
      ];
    }
