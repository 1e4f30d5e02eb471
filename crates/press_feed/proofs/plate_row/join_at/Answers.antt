use Rattle.std.proofs.Common.{arith}
use Rattle.press_feed.proofs.JoinLemmas.{joined_part}
use Rattle.press_feed.proofs.plate_row.join_at.Goals as goal

pub returns : goal.returns
returns c = joined_part c.args.row.now c.args.bits.now c.join.new.bits c.args.at _ _ c.requires (omega arith) (omega arith) (omega arith) c.join.ensures
