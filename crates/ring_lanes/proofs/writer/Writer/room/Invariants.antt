use Rattle.ring_lanes.proofs.Rooms.{Visited}
use Rattle.ring_lanes.proofs.writer.Writer.room.Given as goal

abbrev pub invariant-loop-reader : goal.invariant-loop-reader
invariant-loop-reader g l = Visited l.initial.self l.self l.reader
