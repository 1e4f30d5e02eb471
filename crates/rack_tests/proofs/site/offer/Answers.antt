use Rattle.std.proofs.Common.{◌≡◌, ◌+◌, map, arith}
use Rattle.ring_lanes.specs.declared.source.Source.TheVariants.{Deck}
use Rattle.tif_packbits.specs.Frame.{framed_row}
use Rattle.rack_tests.specs.Numbered.{Takes, told_by, told_first}
use Rattle.site_agent.proofs.Going.{going_sides, going_working}
use Rattle.rack_tests.proofs.Numbered.{frame-handed, of_done, row-handed, taken-further}
use Rattle.rack_tests.proofs.site.offer.Goals as goal

pub keep-kept-requires-clause-frame : goal.keep-kept-requires-clause-frame
keep-kept-requires-clause-frame c =
    frame-handed c.args.deck.now.rows c.take-held.result.number c.take-held.result.bytes c.requires.frames c.take-held.ensures.bytes

pub keep-kept-requires-clause-row : goal.keep-kept-requires-clause-row
keep-kept-requires-clause-row c =
    let going : Takes c.args.deck.now.rows c.args.rack.now c.args.site.now = of_done c.args.last _ c.in-Done.is c.requires.takes in
    let next : c.args.site.now.next + 1 ≡ c.args.deck.now.put = of_done c.args.last _ c.in-Done.is c.requires.next in
    going_sides (map framed_row c.args.deck.now.rows) Deck told_first (told_by c.args.rack.now) c.args.site.now (framed_row c.take-held.result.bytes) going
    (row-handed c.args.deck.now.rows c.args.site.now.next c.take-held.result.number c.take-held.result.bytes (omega (arith, c.take-held.ensures.number)) c.take-held.ensures.bytes)

pub keep-kept-requires-clause-working : goal.keep-kept-requires-clause-working
keep-kept-requires-clause-working c =
    going_working (map framed_row c.args.deck.now.rows) Deck told_first (told_by c.args.rack.now) c.args.site.now (of_done c.args.last _ c.in-Done.is c.requires.takes)

pub returns-in-Done-clause-takes : goal.returns-in-Done-clause-takes
returns-in-Done-clause-takes c =
    let going : Takes c.args.deck.now.rows c.args.rack.now c.args.site.now = of_done c.args.last _ c.in-Done.is c.requires.takes in
    let next : c.args.site.now.next + 1 ≡ c.args.deck.now.put = of_done c.args.last _ c.in-Done.is c.requires.next in
    taken-further c.args.deck.now.rows c.args.rack.now c.keep-kept.new.rack c.args.site.now c.keep-kept.new.self c.take-held.result.bytes c.take-held.result.source c.keep-kept.result going
    c.take-held.ensures.source
    (row-handed c.args.deck.now.rows c.args.site.now.next c.take-held.result.number c.take-held.result.bytes (omega (arith, c.take-held.ensures.number)) c.take-held.ensures.bytes)
    c.keep-kept.ensures.keeps c.keep-kept.ensures.goes_on
