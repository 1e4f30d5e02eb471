use Rattle.std.proofs.Common.{◌≡◌, ℕ, subst, arith}
use Rattle.plan_pages.specs.Span.{AddsBits, in_bytes}
use Rattle.plan_pages.proofs.SpanLemmas.{adds_byte, adds_none, no_bytes}
use Rattle.plan_pages.proofs.span.set_bytes.Goals as goal

pub loop-i-init : goal.loop-i-init
loop-i-init c = adds_none (in_bytes c.args.from c.args.from) c.args.bits.now (no_bytes c.args.from)

pub loop-i-preserved : goal.loop-i-preserved
loop-i-preserved c =
    adds_byte c.args.bits.now c.loop-i.bits c.args.from c.loop-i.i (omega arith) (omega arith) c.loop-i.invariant

pub returns : goal.returns
returns c =
    let P : ℕ → Type 0 = λ i. AddsBits (in_bytes c.args.from i) c.args.bits.now c.loop-i.bits in
    let end : c.loop-i.i ≡ c.args.to = omega arith in
    subst P end c.loop-i.invariant
