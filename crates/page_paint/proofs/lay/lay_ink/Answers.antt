use Rattle.std.proofs.Common.{◌≡◌, ◌+◌, ◌-◌, length, take, drop, arith}
use Rattle.std.proofs.lemmas.List.{length-drop, length-take}
use Rattle.page_paint.proofs.Spans.{LaysSpan_fill, LaysSpan_nothing}
use Rattle.page_paint.proofs.lay.lay_ink.Goals as goal

pub returns-in-Whole : goal.returns-in-Whole
returns-in-Whole c =
    let from = c.args.from in
    let cut = from + length c.args.admitted.now - from in
    let old = c.args.into.now in
    let size : length (take cut (drop from old)) ≡ length c.args.admitted.now = omega (arith, length-take cut (drop from old), length-drop from old) in
    rw c.in-Whole.is (LaysSpan_fill from cut (length (take cut (drop from old))) c.args.ink c.args.admitted.now old c.fill.new.self (omega arith) (omega arith) size (c.fill.ensures.after (λ y same. same)))

pub returns-in-Nothing : goal.returns-in-Nothing
returns-in-Nothing c = rw c.in-Nothing.is (LaysSpan_nothing c.args.from _ c.args.admitted.now c.args.into.now)
