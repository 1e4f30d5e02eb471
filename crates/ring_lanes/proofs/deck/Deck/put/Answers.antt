use Rattle.ring_lanes.proofs.Decks.{puts}
use Rattle.ring_lanes.proofs.deck.Deck.put.Goals as goal

pub invariant_of-self : goal.invariant_of-self
invariant_of-self g c = puts c.args.row.now c.copy_from_slice.new.self c.in-Some.place c.in-Some.is (rw (← c.self.view_is) at c.requires.next) c.copy_from_slice.ensures.after c.self.invariant
