-- The three spans together cover the row.
use Rattle.std.proofs.Common.{◌+◌, ◌-◌, ◌*◌, ◌/◌, length, arith}
use Rattle.scr_tile.proofs.SpanLemmas.{screened}
use Rattle.scr_tile.proofs.screen.screen.Goals as goal

pub returns : goal.returns
returns c =
    let ragged = c.min-ragged.result in
    let done = ragged + 64 * ((length c.args.values.now - ragged) / 64) in
    screened c.args.row.now c.repeat-repeated.result c.args.values.now c.args.bits.now c.set_bits.new.bits c.set_blocks.new.bits c.set_bits-2.new.bits c.args.from ragged done
    (omega arith) (omega arith) (omega arith) c.repeat-repeated.ensures (omega arith) (omega arith) (omega arith) (omega arith) (λ h. omega arith)
    c.set_bits.ensures c.set_blocks.ensures c.set_bits-2.ensures
