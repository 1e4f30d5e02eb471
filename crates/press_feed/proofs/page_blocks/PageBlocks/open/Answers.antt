use Rattle.press_feed.specs.declared.side.Side.TheVariants.{Left, Right}
use Rattle.press_feed.proofs.SideRowsLemmas.{in_all_open}
use Rattle.press_feed.proofs.page_blocks.PageBlocks.open.Goals as goal

pub invariant_of-result : goal.invariant_of-result
invariant_of-result c = record {
  left_is = record {
    job_is = c.in_ok-left.ensures.job;
    side_is = c.in_ok-left.ensures.side;
    all = in_all_open c.args.job.now Left c.in_ok-left.left.inks c.in_ok-left.ensures.inks c.in_ok-left.ensures.room;
  };
  right_is = record {
    job_is = c.in_ok-right.ensures.job;
    side_is = c.in_ok-right.ensures.side;
    all = in_all_open c.args.job.now Right c.in_ok-right.right.inks c.in_ok-right.ensures.inks c.in_ok-right.ensures.room;
  };
}
