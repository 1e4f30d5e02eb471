use Rattle.press_feed.proofs.JoinLemmas.{IsUnionTo}
use Rattle.press_feed.proofs.plate_row.join.Given as goal

abbrev pub invariant-loop-k : goal.invariant-loop-k
invariant-loop-k l = IsUnionTo l.row l.initial.bits l.k l.bits
