use Rattle.std.proofs.Common.{◌≡◌, false}
use Rattle.ring_lanes.specs.Deck.{DeckState}
use Rattle.site_agent.specs.Kept.{OnDone}
use Rattle.rack_tests.specs.Numbered.{Takes, numbered}
use Rattle.rack_tests.proofs.site.carry.Given as goal

abbrev pub invariant-loop-n : goal.invariant-loop-n
invariant-loop-n l = record {
  deck' : ◌≡◌ {A = DeckState} l.deck (record { rows = numbered l.count; put = l.n; there = l.deck.there; out = false });
  takes' : OnDone l.last (Takes (numbered l.count) l.rack l.site);
  next' : OnDone l.last (l.site.next ≡ l.n);
}
