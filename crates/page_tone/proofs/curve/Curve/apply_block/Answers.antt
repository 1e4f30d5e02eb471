-- A block of one value becomes a block of what that value becomes.
use Rattle.std.proofs.Common.{◌+◌, ◌∙◌, ap, sym, slice_index}
use Rattle.page_tone.proofs.RowLemmas.{written-same}
use Rattle.page_tone.proofs.curve.Curve.apply_block.Goals as goal

pub returns-then-all_are : goal.returns-then-all_are
returns-then-all_are c =
    written-same (λ _. c.at.result) (λ x. slice_index c.args.self.now (slice_index c.args.values.now x)) c.args.from (c.args.from + 64) c.args.into.now c.fill.new.into
    (λ x above less. c.at.ensures ∙ ap (λ v. slice_index c.args.self.now v) (sym (c.all_are.ensures c.if-all_are.true x above less))) c.fill.ensures
