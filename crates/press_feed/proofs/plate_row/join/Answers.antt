use Rattle.std.proofs.Common.{refl, arith}
use Rattle.press_feed.proofs.JoinLemmas.{union_more}
use Rattle.press_feed.proofs.plate_row.join.Goals as goal

pub loop-k-init : goal.loop-k-init
loop-k-init c = record { joined = λ j less. absurd (omega arith); others = λ j above. refl }

pub loop-k-preserved : goal.loop-k-preserved
loop-k-preserved c = union_more c.args.row.now c.args.bits.now c.loop-k.bits c.loop-k.k (omega arith) c.loop-k.invariant

pub returns : goal.returns
returns c = record { each = λ k within. c.loop-k.invariant.joined k (omega arith) }
