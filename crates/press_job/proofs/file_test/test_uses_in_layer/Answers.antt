use Rattle.std.proofs.Common.{◌≡◌, None, Some, Option, ap, sym, ◌∙◌}
use Rattle.std.specs.Option.{option_or}
use Rattle.std.proofs.lemmas.Result.{err_from_is_err_and}
use Rattle.pr_base.specs.declared.fault.TagFault.{TagFault}
use Rattle.tif_image.specs.declared.usage.BilevelUse.TheVariants.{Mask}
use Rattle.tif_image.specs.declared.usage.Usage.TheVariants.{Bilevel}
use Rattle.press_job.specs.Tested.{fault_at_mention}
use Rattle.press_job.specs.Tests.{use_of}
use Rattle.press_job.proofs.FindingLemmas.{fault_of_both, fault_of_same, told_first, told_same, told_second}
use Rattle.press_job.proofs.file_test.test_uses_in_layer.Goals as goal

pub returns-in_err-check_mention-clause-first : goal.returns-in_err-check_mention-clause-first
returns-in_err-check_mention-clause-first g c =
    let p = err_from_is_err_and c.from_residual.result c.from_residual.ensures.1 in
    let first = rw c.use_of.ensures at c.in_err-check_mention.ensures.first in
    rw (p.1, p.2) (told_same c.in_err-check_mention.field-0.0 _ _ (fault_of_both c.args.test.now c.args.layer.now) (told_first c.in_err-check_mention.field-0.0 _ _ first))

pub returns-in_err-check_mention-2-clause-first : goal.returns-in_err-check_mention-2-clause-first
returns-in_err-check_mention-2-clause-first g c =
    let p = err_from_is_err_and c.from_residual-in_err-check_mention-2.result c.from_residual-in_err-check_mention-2.ensures.1 in
    let layer = c.args.layer.now in
    let none : fault_at_mention c.args.test.now (Some layer.file) (use_of layer) ≡ None = rw c.use_of.ensures at c.in_ok-check_mention.ensures.first in
    let same = fault_of_same c.args.test.now c.check_mention.new.self layer.mask (Bilevel Mask) c.in_ok-check_mention.ensures.goes_on in
    let e = c.in_err-check_mention-2.field-0.0 in
    rw (p.1, p.2)
    (told_same e _ _ (fault_of_both c.args.test.now layer)
    (told_second e _ (fault_at_mention c.args.test.now layer.mask (Bilevel Mask)) none (told_same e (fault_at_mention c.args.test.now layer.mask (Bilevel Mask)) _ (sym same) c.in_err-check_mention-2.ensures.first)))

pub returns-clause-first : goal.returns-clause-first
returns-clause-first g c =
    let layer = c.args.layer.now in
    let none : fault_at_mention c.args.test.now (Some layer.file) (use_of layer) ≡ None = rw c.use_of.ensures at c.in_ok-check_mention.ensures.first in
    let same = fault_of_same c.args.test.now c.check_mention.new.self layer.mask (Bilevel Mask) c.in_ok-check_mention.ensures.goes_on in
    fault_of_both c.args.test.now layer ∙ ap {A = Option TagFault} (λ o. option_or o (fault_at_mention c.args.test.now layer.mask (Bilevel Mask))) none ∙ sym same ∙ c.in_ok-check_mention-2.ensures.first
