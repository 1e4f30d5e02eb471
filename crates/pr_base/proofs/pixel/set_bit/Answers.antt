-- One byte is written, with one of its pixels changed.
use Rattle.std.proofs.Common.{◌∙◌, ◌/◌, refl, arith}
use Rattle.pr_base.proofs.BitLemmas.{bit_at-set_here, bit_at-set_others}
use Rattle.pr_base.proofs.pixel.set_bit.Goals as goal

pub returns-clause-here : goal.returns-clause-here
returns-clause-here c =
    bit_at-set_here c.args.bits.now (c.args.place / 8) _ c.args.place (omega arith) refl ∙ c.with_bit.ensures.here

pub returns-clause-elsewhere : goal.returns-clause-elsewhere
returns-clause-elsewhere c = bit_at-set_others c.args.bits.now c.args.place _ (omega arith) c.with_bit.ensures.elsewhere
