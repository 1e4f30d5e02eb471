-- Each error is kept, or replaced by 0 outside its row.
use Rattle.std.proofs.Common.{◌≡◌, ◌∙◌, ℤ, pos, FitsSigned, slice_set, to_z, of_z, w16, refl, ap, sym, inl, inr, arith}
use Rattle.std.proofs.lemmas.Bool.{cases_eq}
use Rattle.std.proofs.lemmas.Int.{ints, to_z-of_z}
use Rattle.std.proofs.lemmas.List.{length-set}
use Rattle.scr_diffuse.specs.Passes.{number_at}
use Rattle.scr_diffuse.proofs.ColumnLemmas.{bits_length as numbers_length, fits_error}
use Rattle.scr_diffuse.proofs.DiffusionLemmas.{none-small}
use Rattle.scr_diffuse.proofs.LaneLemmas.{bits_length as numbers_long, kept, kept_at, kept_is}
use Rattle.scr_diffuse.proofs.StepLemmas.{unwritten, written}
use Rattle.scr_diffuse.proofs.block.within.Goals as goal

pub loop-k-init : goal.loop-k-init
loop-k-init c = record {
  long = numbers_length _ (numbers_long c.args.errors c.requires.eight);
  inside = λ j none. absurd (omega arith);
  before = λ j none. absurd (omega arith);
  behind = λ j none. absurd (omega arith);
  rest = λ j after few fits. refl;
}

pub loop-k-preserved : goal.loop-k-preserved
loop-k-preserved c =
    let k = c.loop-k.k in
    let now = c.loop-k.numbers in
    let r = c.error_within.result in
    let e : ℤ = to_z w16 (of_z w16 r) in
    let fits : FitsSigned w16 r = omega (arith, ints, c.error_within.type_inv) in
    let first = kept c.args.errors in
    let here : number_at (slice_set now k e) k ≡ r = written now k e (omega (arith, c.loop-k.invariant.long)) ∙ to_z-of_z w16 r fits in
    record {
      long = length-set now k e ∙ c.loop-k.invariant.long;
      inside = λ j less from in_row fits_j. elim (cases_eq j k) [
        | inl same ↦
            (let stood : number_at now j ≡ number_at first j = c.loop-k.invariant.rest j (omega arith) (omega arith) fits_j in
            let stood_k : number_at now k ≡ number_at first j = ap (number_at now) (sym same) ∙ stood in
            ap (number_at (slice_set now k e)) same ∙ here ∙ c.error_within.ensures.inside (omega arith) (omega arith)
            ∙ ap (λ x. to_z w16 (of_z w16 x)) stood_k ∙ to_z-of_z w16 (number_at first j) fits_j)
        | inr other ↦ unwritten now k j e other ∙ c.loop-k.invariant.inside j (omega arith) from in_row fits_j
      ];
      before = λ j less early. elim (cases_eq j k) [
        | inl same ↦ ap (number_at (slice_set now k e)) same ∙ here ∙ c.error_within.ensures.before (omega arith)
        | inr other ↦ unwritten now k j e other ∙ c.loop-k.invariant.before j (omega arith) early
      ];
      behind = λ j less late. elim (cases_eq j k) [
        | inl same ↦ ap (number_at (slice_set now k e)) same ∙ here ∙ c.error_within.ensures.behind (omega arith)
        | inr other ↦ unwritten now k j e other ∙ c.loop-k.invariant.behind j (omega arith) late
      ];
      rest = λ j after few fits_j. unwritten now k j e (λ h. absurd (omega arith)) ∙ c.loop-k.invariant.rest j (omega arith) few fits_j;
    }

pub returns-clause-inside : goal.returns-clause-inside
returns-clause-inside c = λ k few from less fits.
    let same : number_at (kept c.args.errors) k ≡ number_at c.args.errors k = kept_at c.args.errors k c.requires.eight few fits in
    kept_is c.loop-k.numbers k (number_at c.args.errors k) c.loop-k.invariant.long few (c.loop-k.invariant.inside k (omega arith) from less (rw same fits) ∙ same) fits

pub returns-clause-before : goal.returns-clause-before
returns-clause-before c = λ k few early. kept_is c.loop-k.numbers k (pos 0) c.loop-k.invariant.long few (c.loop-k.invariant.before k (omega arith) early) (fits_error (pos 0) none-small)

pub returns-clause-behind : goal.returns-clause-behind
returns-clause-behind c = λ k few late. kept_is c.loop-k.numbers k (pos 0) c.loop-k.invariant.long few (c.loop-k.invariant.behind k (omega arith) late) (fits_error (pos 0) none-small)

pub returns-clause-eight : goal.returns-clause-eight
returns-clause-eight c = numbers_length _ (numbers_long c.loop-k.numbers c.loop-k.invariant.long)
