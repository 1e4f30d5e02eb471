-- The sum fits, since the errors are small.
use Rattle.std.proofs.Common.{arith}
use Rattle.std.proofs.lemmas.Int.{ints}
use Rattle.scr_diffuse.proofs.passes.sum_of.Goals as goal

pub overflow_add-result-3 : goal.overflow_add-result-3
overflow_add-result-3 c = omega (arith, ints)

pub returns : goal.returns
returns c = omega (arith, ints)
