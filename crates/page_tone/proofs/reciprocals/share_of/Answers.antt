-- The product does not overflow, and a colour's part is the quotient.
use Rattle.std.proofs.Common.{arith}
use Rattle.page_tone.proofs.ReciprocalLemmas.{part-is, product-bound}
use Rattle.page_tone.proofs.reciprocals.share_of.Goals as goal

pub overflow_mul-result : goal.overflow_mul-result
overflow_mul-result c =
    let bound = product-bound c.args.rest c.args.colours c.reciprocal.result c.reciprocal.ensures c.requires.colours c.requires.rest in
    omega (arith, bound)

pub returns-clause-shares : goal.returns-clause-shares
returns-clause-shares c =
    λ value byte within. part-is value c.args.rest c.args.colours c.reciprocal.result c.reciprocal.ensures c.requires.colours byte within c.requires.rest

pub returns-clause-most : goal.returns-clause-most
returns-clause-most c =
    let bound = product-bound c.args.rest c.args.colours c.reciprocal.result c.reciprocal.ensures c.requires.colours c.requires.rest in
    omega (arith, bound)
