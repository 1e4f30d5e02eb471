use Rattle.std.proofs.Common.{◌≡◌, ◌+◌, ◌-◌, ◌<◌, ◌⊎◌, drop}
use Rattle.ring_lanes.specs.Writer.{HasRoom}
use Rattle.ring_turns.proofs.Feeds.{HasFed}
use Rattle.ring_turns.proofs.feeding.feed_ahead.Given as goal

abbrev pub invariant-loop-writer : goal.invariant-loop-writer
invariant-loop-writer g l =
    (g.F.RowFeed.left l.feed ≡ drop l.writer.head l.writer.ring.rows)
    × HasFed l.initial.writer l.writer l.waits
    × (l.waits < l.patience)
    × (l.patience ≡ l.initial.patience)
    × ((l.writer ≡ l.initial.writer) ⊎ (HasRoom l.initial.writer → l.initial.writer.head < l.writer.head))

abbrev pub decreases-loop-writer : goal.decreases-loop-writer
decreases-loop-writer g l = (l.writer.ring.total - l.writer.head) + (l.patience - l.waits)
