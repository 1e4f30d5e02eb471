use Rattle.std.proofs.Common.{◌/◌, length, arith}
use Rattle.ink_keys.proofs.Words.{counted-between, dots-most}
use Rattle.ink_keys.proofs.dots.dots_in.Goals as goal

pub overflow_sub-result : goal.overflow_sub-result
overflow_sub-result c =
    let all = counted-between (length c.args.row.now / 8) c.args.row.now _ c.args.from c.args.to _ _ _ _ _ c.as_chunks.ensures.front c.requires.order c.requires.within c.ones.ensures.ones c.front_ones.ensures.ones c.front_ones-2.ensures.ones in
    omega arith

pub returns-clause-dots : goal.returns-clause-dots
returns-clause-dots c =
    let all = counted-between (length c.args.row.now / 8) c.args.row.now _ c.args.from c.args.to _ _ _ _ _ c.as_chunks.ensures.front c.requires.order c.requires.within c.ones.ensures.ones c.front_ones.ensures.ones c.front_ones-2.ensures.ones in
    omega arith

pub returns-clause-most : goal.returns-clause-most
returns-clause-most c =
    let all = counted-between (length c.args.row.now / 8) c.args.row.now _ c.args.from c.args.to _ _ _ _ _ c.as_chunks.ensures.front c.requires.order c.requires.within c.ones.ensures.ones c.front_ones.ensures.ones c.front_ones-2.ensures.ones in
    omega (arith, dots-most c.args.row.now c.args.from c.args.to)
