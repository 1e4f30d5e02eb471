-- The three spans together cover the row.
use Rattle.std.proofs.Common.{◌+◌, ◌-◌, ◌*◌, ◌/◌, length, arith, pos}
use Rattle.pr_base.proofs.Spans.{spans}
use Rattle.scr_diffuse.specs.Diffusion.{prints}
use Rattle.scr_diffuse.proofs.SpanLemmas.{AreWords-between}
use Rattle.scr_diffuse.proofs.bits.set_row.Goals as goal

pub set_bytes-requires-clause-range : goal.set_bytes-requires-clause-range
set_bytes-requires-clause-range c = AreWords-between _ _ _ (omega arith) c.requires.range

pub returns : goal.returns
returns c =
    let ragged = c.min-ragged.result in
    let done = ragged + (length c.args.numbers.now - ragged) / 8 * 8 in
    spans (λ _. prints) (pos 0) c.args.numbers.now c.args.bits.now c.set_bits.new.bits c.set_bytes.new.bits c.set_bits-2.new.bits c.args.from ragged done
    (omega arith) (omega arith) (λ h. omega arith)
    c.set_bits.ensures c.set_bytes.ensures c.set_bits-2.ensures
