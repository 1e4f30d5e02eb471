use Rattle.std.proofs.Common.{◌+◌, ◌-◌, ◌<◌}
use Rattle.ink_keys.specs.Turn.{Goes, stage}
use Rattle.ink_keys.proofs.key_reader.KeyReader.turn.Given as goal

abbrev pub invariant-loop-self : goal.invariant-loop-self
invariant-loop-self g l = record {
  goes : Goes (stage l.fn.self l.fn.reader) (stage l.self l.reader) l.waits;
  few : l.waits < l.patience;
}

abbrev pub decreases-loop-self : goal.decreases-loop-self
decreases-loop-self g l = l.fn.reader.ring.total - l.reader.cursor + (l.patience - l.waits)
