use Rattle.std.proofs.Common.{sym, ◌∙◌, arith}
use Rattle.tif_image.proofs.Dots.{dots-all, dots-more, dots-other}
use Rattle.tif_image.proofs.fields.are_full_dots.Goals as goal

pub returns-then-at-full_dot : goal.returns-then-at-full_dot
returns-then-at-full_dot c =
    sym (dots-other c.args.field.now c.loop-i.i (omega arith) (λ e. c.if-at-full_dot.true (c.at.ensures ∙ e ∙ sym c.full_dot.ensures)))

pub loop-i-preserved : goal.loop-i-preserved
loop-i-preserved c =
    dots-more c.args.field.now c.loop-i.i (omega arith) c.loop-i.invariant (sym c.at.ensures ∙ c.if-at-full_dot.false ∙ c.full_dot.ensures)

pub returns : goal.returns
returns c = sym (dots-all c.args.field.now c.loop-i.i (omega arith) c.loop-i.invariant)
