use Rattle.std.proofs.Common.{◌+◌, ◌-◌, length, arith}
use Rattle.page_paint.proofs.Spans.{LaysSpan_laid, LaysSpan_nothing, LaysSpan_whole}
use Rattle.page_paint.specs.declared.lay.Painting.TheVariants.{Knockout, Overprint}
use Rattle.page_paint.proofs.lay.lay_span.Goals as goal

pub returns-in-Whole : goal.returns-in-Whole
returns-in-Whole c =
    let from = c.args.from in
    rw c.in-Whole.is
    (LaysSpan_whole from (from + length c.args.admitted.now - from) c.args.paint.now c.args.admitted.now c.args.into.now c.copy_from_slice.new.self (omega arith) (omega arith) c.requires.paint c.copy_from_slice.ensures.after)

pub returns-in-Knockout : goal.returns-in-Knockout
returns-in-Knockout c =
    let from = c.args.from in
    rw c.in-Knockout.is
    (LaysSpan_laid Knockout from (from + length c.args.admitted.now - from) c.args.paint.now c.args.admitted.now c.args.into.now c.knock_out.new.into (omega arith) (omega arith) c.knock_out.auto.into c.knock_out.ensures)

pub returns-in-Overprint : goal.returns-in-Overprint
returns-in-Overprint c =
    let from = c.args.from in
    rw c.in-Overprint.is
    (LaysSpan_laid Overprint from (from + length c.args.admitted.now - from) c.args.paint.now c.args.admitted.now c.args.into.now c.overprint.new.into (omega arith) (omega arith) c.overprint.auto.into c.overprint.ensures)

pub returns-in-Nothing : goal.returns-in-Nothing
returns-in-Nothing c = rw c.in-Nothing.is (LaysSpan_nothing c.args.from c.args.paint.now c.args.admitted.now c.args.into.now)
