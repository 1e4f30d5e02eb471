use Rattle.std.proofs.Common.{ap, sym, ◌∙◌, arith}
use Rattle.std.specs.Prelude.{slice_get}
use Rattle.std.proofs.lemmas.Option.{slice_get_within}
use Rattle.pr_base.specs.Row.{row_size}
use Rattle.ring_lanes.specs.Deck.{DeckState}
use Rattle.rack_tests.specs.Counting.{small_rows}
use Rattle.rack_tests.proofs.Counting.{length-small, small-frame}
use Rattle.rack_tests.proofs.keys.add_next.Goals as goal

pub add-requires-clause-frame : goal.add-requires-clause-frame
add-requires-clause-frame c =
    (small-frame c.take-held.result.number c.take-held.result.bytes
    (ap (λ rows. slice_get rows c.take-held.result.number) (sym (ap {A = DeckState} (λ d. d.rows) c.put.ensures ∙ c.requires.rows)) ∙ c.take-held.ensures.bytes)).0

pub add-requires-clause-size : goal.add-requires-clause-size
add-requires-clause-size c =
    (small-frame c.take-held.result.number c.take-held.result.bytes
    (ap (λ rows. slice_get rows c.take-held.result.number) (sym (ap {A = DeckState} (λ d. d.rows) c.put.ensures ∙ c.requires.rows)) ∙ c.take-held.ensures.bytes)).1
    ∙ ap row_size (sym c.requires.width)

pub row_at-place-requires : goal.row_at-place-requires
row_at-place-requires c =
    omega (arith, slice_get_within small_rows c.args.deck.now.put c.args.frame.now c.requires.next, length-small, ap {A = DeckState} (λ d. d.put) c.put.ensures)

pub add-requires-clause-room : goal.add-requires-clause-room
add-requires-clause-room c = λ place.
    omega (arith, slice_get_within small_rows c.args.deck.now.put c.args.frame.now c.requires.next, length-small, c.requires.bounded place)
