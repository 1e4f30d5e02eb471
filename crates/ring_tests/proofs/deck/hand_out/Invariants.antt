use Rattle.std.proofs.Common.{◌≡◌, false, true}
use Rattle.ring_lanes.specs.Deck.{DeckState}
use Rattle.ring_tests.specs.Deck.{two_rows}
use Rattle.ring_tests.proofs.deck.hand_out.Given as goal

abbrev pub invariant-loop-time : goal.invariant-loop-time
invariant-loop-time g l = ◌≡◌ {A = DeckState} l.deck (record { rows = two_rows; put = 2; there = true; out = false })
