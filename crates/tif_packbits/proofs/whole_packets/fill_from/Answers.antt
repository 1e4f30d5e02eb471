-- Each iteration gives the bytes of one more packet.
use Rattle.std.proofs.Common.{◌≡◌, ◌+◌, ◌-◌, ◌<◌, ◌≤◌, ◌∙◌, [], drop, length, arith}
use Rattle.tif_packbits.specs.Packbits.{expansion}
use Rattle.tif_packbits.specs.Packet.{left_of}
use Rattle.tif_packbits.specs.WholePackets.{IsThrough}
use Rattle.tif_packbits.proofs.Pieces.{HasGiven, HasGiven-piece, HasGiven-whole, HasGiven-next, HasGiven-filled, HasGiven-length}
use Rattle.tif_packbits.proofs.Wholes.{through-piece, through-next, through-full, more_left, some_packed}
use Rattle.tif_packbits.proofs.whole_packets.fill_from.Goals as goal

pub returns-then-at-into-clause-filled : goal.returns-then-at-into-clause-filled
returns-then-at-into-clause-filled c =
    (HasGiven-filled _ _ _ (left_of c.loop-at.packet) (expansion c.loop-at.rest.now) _ c.loop-at.at c.give-at.result c.loop-at.invariant.0 c.give-at.ensures.count c.give-at.ensures.given c.if-at-into.true).1

pub returns-then-at-into-clause-left : goal.returns-then-at-into-clause-left
returns-then-at-into-clause-left c =
    rw (c.give-at.ensures.left) (HasGiven-filled _ _ _ (left_of c.loop-at.packet) (expansion c.loop-at.rest.now) _ c.loop-at.at c.give-at.result c.loop-at.invariant.0 c.give-at.ensures.count c.give-at.ensures.given c.if-at-into.true).2

pub returns-then-at-into-clause-through : goal.returns-then-at-into-clause-through
returns-then-at-into-clause-through c =
    let given : HasGiven _ _ _ _ (c.loop-at.at + c.give-at.result) = HasGiven-piece _ _ _ (left_of c.loop-at.packet) (expansion c.loop-at.rest.now) _ c.loop-at.at c.give-at.result c.loop-at.invariant.0 c.give-at.ensures.count c.give-at.ensures.given in
    let few : c.give-at.result ≤ length (left_of c.loop-at.packet) = omega (arith, c.give-at.ensures.count) in
    rw (c.give-at.ensures.left)
    (through-full c.args.packed.now _ c.loop-at.rest.now (c.loop-at.at + c.give-at.result) (length c.args.into.now)
    (through-piece c.args.packed.now (left_of c.loop-at.packet) c.loop-at.rest.now c.loop-at.into c.args.into.now c.loop-at.at c.give-at.result c.loop-at.invariant.1 c.loop-at.invariant.0 few)
    (c.if-at-into.true ∙ HasGiven-length _ _ _ _ _ given))

pub first_packet-requires : goal.first_packet-requires
first_packet-requires c =
    let given : _ = HasGiven-piece _ _ _ (left_of c.loop-at.packet) (expansion c.loop-at.rest.now) _ c.loop-at.at c.give-at.result c.loop-at.invariant.0 c.give-at.ensures.count c.give-at.ensures.given in
    let whole : _ = HasGiven-whole _ _ _ (left_of c.loop-at.packet) (expansion c.loop-at.rest.now) _ c.loop-at.at c.give-at.result c.loop-at.invariant.0 given c.give-at.ensures.count c.if-at-into.false in
    some_packed c.loop-at.rest.now (more_left _ _ _ _ (expansion c.loop-at.rest.now) _ given whole c.if-at-into.false c.requires)

pub loop-at-preserved : goal.loop-at-preserved
loop-at-preserved c =
    let given : _ = HasGiven-piece _ _ _ (left_of c.loop-at.packet) (expansion c.loop-at.rest.now) _ c.loop-at.at c.give-at.result c.loop-at.invariant.0 c.give-at.ensures.count c.give-at.ensures.given in
    let whole : _ = HasGiven-whole _ _ _ (left_of c.loop-at.packet) (expansion c.loop-at.rest.now) _ c.loop-at.at c.give-at.result c.loop-at.invariant.0 given c.give-at.ensures.count c.if-at-into.false in
    let few : c.give-at.result ≤ length (left_of c.loop-at.packet) = omega (arith, c.give-at.ensures.count) in
    let some : _ = more_left _ _ _ _ (expansion c.loop-at.rest.now) _ given whole c.if-at-into.false c.requires in (
      HasGiven-next _ _ _ _ _ (left_of c.first_packet.result.0) (expansion c.first_packet.result.1.now) _ given whole c.first_packet.ensures.whole,
      through-next c.args.packed.now (drop c.give-at.result (left_of c.loop-at.packet)) c.loop-at.rest.now (left_of c.first_packet.result.0) c.first_packet.result.1.now _
          (through-piece c.args.packed.now (left_of c.loop-at.packet) c.loop-at.rest.now c.loop-at.into c.args.into.now c.loop-at.at c.give-at.result c.loop-at.invariant.1 c.loop-at.invariant.0 few)
          whole c.first_packet.ensures.shorter c.first_packet.ensures.behind (c.first_packet.ensures.alike some),
    )
