-- Each iteration limits one more pixel.
use Rattle.std.proofs.Common.{arith}
use Rattle.page_tone.proofs.RowLemmas.{limited-more}
use Rattle.page_tone.proofs.row.limit_block.Goals as goal

pub loop-x-preserved : goal.loop-x-preserved
loop-x-preserved c =
    limited-more c.args.limit c.args.from c.loop-x.x c.args.cyan.now c.args.magenta.now c.args.yellow.now c.args.black.now c.loop-x.cyan c.loop-x.magenta c.loop-x.yellow c.loop-x.black c.limit_inks.result
    (omega arith) (omega arith) (omega arith) (omega arith) (omega arith) c.loop-x.invariant c.limit_inks.ensures.limited
