use Rattle.page_paint.proofs.Spans.{LaysSpan_none, LaysSpan_overprint}
use Rattle.page_paint.proofs.lay.overprint_ink.Goals as goal

pub returns : goal.returns
returns c = LaysSpan_overprint c.args.from c.args.ink c.args.admitted.now c.args.into.now _ c.if-ink-eq0.false c.knock_out_ink.ensures

pub returns-then-ink-eq0 : goal.returns-then-ink-eq0
returns-then-ink-eq0 c = LaysSpan_none c.args.from c.args.ink c.args.admitted.now c.args.into.now c.if-ink-eq0.true
