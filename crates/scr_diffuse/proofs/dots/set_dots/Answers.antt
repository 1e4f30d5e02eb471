-- The three spans together cover the row.
use Rattle.std.proofs.Common.{◌+◌, ◌-◌, ◌*◌, ◌/◌, length, arith}
use Rattle.pr_base.proofs.Spans.{spans}
use Rattle.scr_diffuse.specs.Block.{bit_of}
use Rattle.scr_diffuse.proofs.dots.set_dots.Goals as goal

pub returns : goal.returns
returns c =
    let ragged = c.min-ragged.result in
    let done = ragged + (length c.args.columns.now - ragged) / 64 * 64 in
    spans (λ _ n. bit_of n c.args.lane) 0 c.args.columns.now c.args.bits.now c.set_bits.new.bits c.set_blocks.new.bits c.set_bits-2.new.bits c.args.from ragged done
    (omega arith) (omega arith) (λ h. omega arith)
    c.set_bits.ensures c.set_blocks.ensures c.set_bits-2.ensures
