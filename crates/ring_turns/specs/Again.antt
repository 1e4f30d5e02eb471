-- The laws of the writer's turn: behind one another may be taken, and both are one turn.
use Rattle.std.specs.Prelude.{◌≡◌, ℕ, ◌≤◌, List}
use Rattle.std.proofs.Common.{sym, ap, subst, ◌∙◌}
use Rattle.std.proofs.Math.Nat.{le_trans}
use Rattle.ring_rule.specs.declared.view.RingNumbers.{RingNumbers}
use Rattle.ring_lanes.specs.Writer.{WriterState}
use Rattle.ring_turns.specs.Feeding.{Fed, HasRows, MayFeed}

pub may_feed_again : (before left : List (List ℕ)) (old mid : WriterState) → MayFeed before old
    → Fed left old mid → MayFeed left mid
may_feed_again before left old mid may fed = record {
  feed = fed.feed;
  rows = subst (λ (r : RingNumbers). HasRows r) (sym (ap (λ (w : WriterState). w.ring) fed.same)) may.rows;
}

pub fed_again : (between left : List (List ℕ)) (old mid new : WriterState) → Fed between old mid
    → Fed left mid new → Fed left old new
fed_again between left old mid new first next =
    let ring : mid.ring ≡ old.ring = ap (λ (w : WriterState). w.ring) first.same in
    record {
      feed = next.feed;
      same = next.same ∙ ap {A = WriterState} (λ w. record w {
        head = new.head;
        known = new.known;
        loads = new.loads;
      }) first.same;
      grows = le_trans first.grows next.grows;
      within = subst (λ (r : RingNumbers). new.head ≤ r.total) ring next.within;
      gets_on = λ some joined room. le_trans (first.gets_on some joined room) next.grows;
    }
