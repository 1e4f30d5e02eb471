use Rattle.std.proofs.Common.{◌+◌, ◌*◌, if◌then◌else◌, ap, ◌∙◌, arith}
use Rattle.page_layers.specs.Rows.{bit_is}
use Rattle.page_layers.proofs.Blocks.{Marks_more, times_bit}
use Rattle.page_layers.proofs.marks.mark_bits.Goals as goal

pub loop-j-preserved : goal.loop-j-preserved
loop-j-preserved c =
    Marks_more c.args.marking.fresh _ c.args.from c.loop-j.j _ c.args.into.now c.loop-j.into (omega arith) (omega arith)
    (ap (λ bit. c.held_byte.result * bit) c.from.ensures ∙ times_bit c.has_bit.result c.held_byte.result ∙ ap (λ bit. if bit then c.held_byte.result else 0) c.has_bit.ensures
    ∙ ap (λ value. if bit_is c.args.marking.zeros c.args.row.now (c.args.first + c.loop-j.j) then value else 0) c.held_byte.ensures) c.loop-j.invariant
