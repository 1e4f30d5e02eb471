use Rattle.std.proofs.Common.{arith}
use Rattle.page_layers.proofs.Stretches.{IsStretched-next}
use Rattle.page_layers.proofs.samples.samples_once.Goals as goal

pub loop-k-preserved : goal.loop-k-preserved
loop-k-preserved c = IsStretched-next c.args.source.now c.loop-k.into 1 16 c.loop-k.k c.loop-k.invariant (omega arith) (omega arith) (omega (arith, c.loop-k.auto.into)) (omega arith)

pub runs-requires-clause-enough : goal.runs-requires-clause-enough
runs-requires-clause-enough c = λ n below. c.requires.enough n (omega (arith, c.loop-k.auto.into))
