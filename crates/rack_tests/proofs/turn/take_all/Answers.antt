use Rattle.std.proofs.Common.{ℕ, map, rules, subst, arith}
use Rattle.ring_lanes.specs.declared.source.Source.TheVariants.{Deck}
use Rattle.tif_packbits.specs.Frame.{framed_row}
use Rattle.site_agent.specs.Going.{IsGoing}
use Rattle.rack_tests.specs.Numbered.{numbered, told_first}
use Rattle.rack_tests.proofs.Numbered.{length-numbered, turning-first}
use Rattle.rack_tests.proofs.turn.take_all.Goals as goal

pub open_ring-requires-clause-total : goal.open_ring-requires-clause-total
open_ring-requires-clause-total g c = omega (arith, length-numbered 4)

pub take_turns-last-requires-clause-turning : goal.take_turns-last-requires-clause-turning
take_turns-last-requires-clause-turning g c =
    let takes = rw c.expect-site.ensures at c.site_of.ensures.takes in
    let first = rw c.expect-site.ensures at c.site_of.ensures.next in
    let new = c.ends_of-writer.ensures.reader in
    turning-first 4 Deck c.ends_of-writer.result.1 c.new-rack.result c.expect-site.result (omega arith)
    (subst (λ (count : ℕ). IsGoing (map framed_row (numbered count)) Deck told_first told_first c.expect-site.result) c.requires.total takes)
    first new.ring new.cursor new.left new.held (search rules)
