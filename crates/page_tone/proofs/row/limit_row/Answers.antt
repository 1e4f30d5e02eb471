-- Each iteration limits one more block.
use Rattle.std.proofs.Common.{length, arith}
use Rattle.page_tone.proofs.RowLemmas.{limited-block}
use Rattle.page_tone.proofs.row.limit_row.Goals as goal

pub loop-block-preserved : goal.loop-block-preserved
loop-block-preserved c =
    limited-block c.args.limit c.loop-block.block (length c.args.cyan.now) c.min-to.result c.args.cyan.now c.args.magenta.now c.args.yellow.now c.args.black.now
    c.loop-block.cyan c.loop-block.magenta c.loop-block.yellow c.loop-block.black c.limit_block.new.cyan c.limit_block.new.magenta c.limit_block.new.yellow c.limit_block.new.black
    (omega arith) c.min-to.ensures c.loop-block.invariant c.limit_block.ensures
