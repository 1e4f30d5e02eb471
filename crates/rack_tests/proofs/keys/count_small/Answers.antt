use Rattle.std.proofs.Common.{◌+◌, ap, ◌∙◌}
use Rattle.ring_lanes.specs.Deck.{DeckState}
use Rattle.rack_tests.proofs.Counting.{small-first, small-last}
use Rattle.rack_tests.proofs.keys.count_small.Goals as goal

pub add_next-requires-clause-next : goal.add_next-requires-clause-next
add_next-requires-clause-next c =
    small-first c.in_ok-deck.deck.put c.frame.result (ap {A = DeckState} (λ d. d.put) c.in_ok-deck.ensures) c.frame.ensures

pub add_next-requires-2-clause-next : goal.add_next-requires-2-clause-next
add_next-requires-2-clause-next c =
    small-last c.add_next.new.deck.put c.frame-2.result
    (ap {A = DeckState} (λ d. d.put) c.add_next.ensures.deck ∙ ap (λ n. n + 1) (ap {A = DeckState} (λ d. d.put) c.in_ok-deck.ensures))
    c.frame-2.ensures
