use Rattle.plan_pages.proofs.SpanLemmas.{adds_mask}
use Rattle.plan_pages.proofs.span.set_in_byte.Goals as goal

pub returns : goal.returns
returns c = adds_mask c.args.bits.now c.args.i c.args.mask c.requires
