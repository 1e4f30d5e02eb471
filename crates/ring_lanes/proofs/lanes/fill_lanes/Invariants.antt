use Rattle.ring_lanes.proofs.Fills.{FilledUpTo}
use Rattle.ring_lanes.proofs.lanes.fill_lanes.Given as goal

abbrev pub invariant-loop-reader : goal.invariant-loop-reader
invariant-loop-reader g l = FilledUpTo l.initial.seat l.seat l.reader
