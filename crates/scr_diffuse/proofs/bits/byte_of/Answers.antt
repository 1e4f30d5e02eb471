-- The mask of the comparison is a byte with a bit for each pixel.
use Rattle.std.proofs.Common.{arith}
use Rattle.scr_diffuse.proofs.ByteLemmas.{mask-fits, bit-mask}
use Rattle.scr_diffuse.proofs.bits.byte_of.Goals as goal

pub overflow_cast-result : goal.overflow_cast-result
overflow_cast-result c = record { fits = mask-fits c.args.numbers.now }

pub returns : goal.returns
returns c = λ x within.
    bit-mask c.args.numbers.now x c.requires.whole within (c.requires.range x (omega arith))
