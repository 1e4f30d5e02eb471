use Rattle.std.proofs.Common.{◌≡◌, length}
use Rattle.pr_base.proofs.Streams.{HasPassed}
use Rattle.pr_base.proofs.counted.Counted.append.Given as goal

abbrev pub invariant-loop-rest : goal.invariant-loop-rest
invariant-loop-rest g l = record {
  -- the writer has accepted everything but the rest
  passed : HasPassed (g.W.Write.contents l.initial.self.stream) (g.W.Write.contents l.self.stream) l.bytes l.rest;
  -- no write has failed
  count : l.self.faults ≡ l.initial.self.faults;
}

abbrev pub decreases-loop-rest : goal.decreases-loop-rest
decreases-loop-rest g l = length l.rest
