-- Each iteration looks at one more ink.
use Rattle.std.proofs.Common.{◌∙◌, subst, below_more, get_or, arith}
use Rattle.std.proofs.lemmas.List.{get_or_default}
use Rattle.press_feed.specs.InkRows.{InkData, IsReady}
use Rattle.press_feed.proofs.side_rows.are_ready.Goals as goal

pub loop-ink-preserved : goal.loop-ink-preserved
loop-ink-preserved c = λ k d less.
    let ready = IsReady c.args.group.now c.args.page c.args.first in
    let inks = c.args.inks.now in
    let i = c.loop-ink.ink-index in
    below_more (λ j. (e : InkData) → ready (get_or inks j e)) i (λ j below e. c.loop-ink.invariant j e below)
    (λ e. subst {A = InkData} ready (c.ink-item.is ∙ get_or_default inks i c.ink-item.result e (omega arith)) (c.is_ready.ensures c.if-not-is_ready.false))
    k less d
