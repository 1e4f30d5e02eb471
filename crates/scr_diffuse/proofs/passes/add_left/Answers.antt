-- Each iteration makes one more number, from the error of the one before.
use Rattle.std.proofs.Common.{◌≡◌, ◌∙◌, ℤ, pos, ◌+ℤ◌, ◌*ℤ◌, to_z, of_z, w16, w32, FitsSigned, slice_set, ap, sym, arith, rules, below_more}
use Rattle.std.proofs.lemmas.Int.{ints, to_z-of_z}
use Rattle.scr_diffuse.specs.Diffusion.{error_of}
use Rattle.scr_diffuse.specs.Passes.{IsNumber, IsSum, floor_16, number_at, v_from}
use Rattle.scr_diffuse.proofs.StepLemmas.{left-next, written, unwritten, v_from-same}
use Rattle.scr_diffuse.proofs.passes.add_left.Goals as goal

pub loop-sum-preserved : goal.loop-sum-preserved
loop-sum-preserved c =
    let i = c.loop-sum.sum-index in
    let sums = c.args.sums.now in
    let numbers = c.loop-sum.sums in
    let whole : ℤ = c.sum_after-whole.result in
    let bounds : IsSum whole = c.sum_after-whole.ensures.bounds in
    let same : to_z w32 (of_z w32 whole) ≡ whole = omega (arith, ints) in
    let v : ℤ = c.sixteenth.result in
    let small : IsNumber v = c.sixteenth.ensures.bounds in
    let kept : to_z w16 (of_z w16 (to_z w32 (of_z w32 v))) ≡ v = omega (arith, ints) in
    let new = slice_set numbers i (to_z w16 (of_z w16 (to_z w32 (of_z w32 v)))) in
    let here : number_at new i ≡ floor_16 whole = written numbers i _ (omega arith) ∙ kept ∙ c.sixteenth.ensures.number ∙ ap floor_16 same in
    let fits : FitsSigned w16 (number_at numbers i) = search rules in
    let word : to_z w16 (of_z w16 (number_at numbers i)) ≡ number_at sums i = to_z-of_z w16 _ fits ∙ c.loop-sum.invariant.1 i (omega arith) in
    let sum : to_z w32 (of_z w32 c.from.result) ≡ number_at sums i = omega (arith, ints) in
    let number : floor_16 whole ≡ v_from sums numbers i = ap floor_16 (c.sum_after-whole.ensures.sum
    ∙ ap (λ s. s +ℤ (pos 7 *ℤ error_of (floor_16 (to_z w32 c.loop-sum.whole-bits)))) sum ∙ ap (λ e. number_at sums i +ℤ (pos 7 *ℤ e)) c.loop-sum.invariant.3) in (
      below_more _ _
          (λ k below. unwritten numbers i k _ (λ e. absurd (omega arith)) ∙ c.loop-sum.invariant.0 k below ∙ v_from-same sums numbers i k _ (omega arith))
          (here ∙ number ∙ v_from-same sums numbers i i _ (omega arith)),
      (λ k above. unwritten numbers i k _ (λ e. absurd (omega arith)) ∙ c.loop-sum.invariant.1 k (omega arith)),
      below_more _ _ (λ k below. rw (unwritten numbers i k _ (λ e. absurd (omega arith))) (c.loop-sum.invariant.2 k below))
          (rw (written numbers i (to_z w16 (of_z w16 (to_z w32 (of_z w32 v)))) (omega arith)) (omega (arith, ints))),
      ap error_of (ap floor_16 same ∙ sym here) ∙ sym (left-next (λ k. error_of (number_at new k)) i),
      rw same bounds,
    )
