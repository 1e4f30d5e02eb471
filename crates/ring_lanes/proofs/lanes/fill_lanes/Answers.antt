use Rattle.std.proofs.Common.{◌≢◌, ℕ, List, get_or, subst, arith}
use Rattle.ring_rule.specs.Views.{left_word}
use Rattle.ring_lanes.proofs.Fills.{may_fill}
use Rattle.ring_lanes.proofs.lanes.fill_lanes.Goals as goal

pub fill-requires-clause-may : goal.fill-requires-clause-may
fill-requires-clause-may g c =
    let l = c.loop-reader in
    let joined = subst (λ (known : List ℕ). get_or known l.reader 0 ≢ left_word) c.requires.known c.if-known-reader.true in
    may_fill c.args.seat.now l.seat l.reader c.requires.may l.invariant (let n = c.requires.readers in let b = c.loop-reader-test.true in omega arith) joined
