use Rattle.std.proofs.Common.{◌≡◌, [], arith, refl, sym, ◌∙◌}
use Rattle.std.proofs.lemmas.Bool.{eqb-true}
use Rattle.tif_packbits.specs.Packbits.{expansion}
use Rattle.tif_packbits.specs.Packet.{left_of}
use Rattle.tif_packbits.proofs.Expansion.{expansion-none}
use Rattle.tif_packbits.proofs.Pieces.{HasGiven-none, HasGiven-piece, HasGiven-whole, HasGiven-next, HasGiven-filled, HasGiven-ended}
use Rattle.tif_packbits.proofs.unpacker.Unpacker.fill.Goals as goal

pub loop-at-init : goal.loop-at-init
loop-at-init c = HasGiven-none _ _

pub loop-at-preserved : goal.loop-at-preserved
loop-at-preserved c =
    let given : _ = HasGiven-piece _ _ _ (left_of c.loop-at.packet) (expansion c.loop-at.rest.now) _ c.loop-at.at c.give-at.result c.loop-at.invariant c.give-at.ensures.count c.give-at.ensures.given in
    let whole : _ = HasGiven-whole _ _ _ (left_of c.loop-at.packet) (expansion c.loop-at.rest.now) _ c.loop-at.at c.give-at.result c.loop-at.invariant given c.give-at.ensures.count c.if-at-into.false in
    HasGiven-next _ _ _ _ _ (left_of c.first_packet.result.0) (expansion c.first_packet.result.1.now) _ given whole c.first_packet.ensures.whole

pub returns-then-at-into-clause-short : goal.returns-then-at-into-clause-short
returns-then-at-into-clause-short c =
    let full : _ = HasGiven-filled _ _ _ (left_of c.loop-at.packet) (expansion c.loop-at.rest.now) _ c.loop-at.at c.give-at.result c.loop-at.invariant c.give-at.ensures.count c.give-at.ensures.given c.if-at-into.true in
    rw (← c.self.view_is) (λ is. cc, λ less. absurd (omega (arith, full.0)))

pub returns-then-at-into-clause-enough : goal.returns-then-at-into-clause-enough
returns-then-at-into-clause-enough c =
    let full : _ = HasGiven-filled _ _ _ (left_of c.loop-at.packet) (expansion c.loop-at.rest.now) _ c.loop-at.at c.give-at.result c.loop-at.invariant c.give-at.ensures.count c.give-at.ensures.given c.if-at-into.true in
    rw (← c.self.view_is) full.0

pub returns-then-at-into-clause-filled : goal.returns-then-at-into-clause-filled
returns-then-at-into-clause-filled c =
    let full : _ = HasGiven-filled _ _ _ (left_of c.loop-at.packet) (expansion c.loop-at.rest.now) _ c.loop-at.at c.give-at.result c.loop-at.invariant c.give-at.ensures.count c.give-at.ensures.given c.if-at-into.true in
    rw (← c.self.view_is) full.1

pub returns-then-at-into-clause-left : goal.returns-then-at-into-clause-left
returns-then-at-into-clause-left c =
    let full : _ = HasGiven-filled _ _ _ (left_of c.loop-at.packet) (expansion c.loop-at.rest.now) _ c.loop-at.at c.give-at.result c.loop-at.invariant c.give-at.ensures.count c.give-at.ensures.given c.if-at-into.true in
    rw (← c.self.view_is, c.give-at.ensures.left) full.2

pub returns-then-is_empty-clause-short : goal.returns-then-is_empty-clause-short
returns-then-is_empty-clause-short c =
    let none : expansion c.loop-at.rest.now ≡ [] = expansion-none c.loop-at.rest.now (eqb-true _ _ (sym c.is_empty.ensures ∙ c.if-is_empty.true)) in
    let all : _ = HasGiven-ended _ _ _ (left_of c.loop-at.packet) (expansion c.loop-at.rest.now) _ c.loop-at.at c.give-at.result c.loop-at.invariant c.give-at.ensures.count c.give-at.ensures.given c.if-at-into.false none in
    rw (← c.self.view_is) (λ is. all.1, λ less. refl)

pub returns-then-is_empty-clause-front : goal.returns-then-is_empty-clause-front
returns-then-is_empty-clause-front c =
    let none : expansion c.loop-at.rest.now ≡ [] = expansion-none c.loop-at.rest.now (eqb-true _ _ (sym c.is_empty.ensures ∙ c.if-is_empty.true)) in
    let all : _ = HasGiven-ended _ _ _ (left_of c.loop-at.packet) (expansion c.loop-at.rest.now) _ c.loop-at.at c.give-at.result c.loop-at.invariant c.give-at.ensures.count c.give-at.ensures.given c.if-at-into.false none in
    rw (← c.self.view_is) all.2

pub returns-then-is_empty-clause-left : goal.returns-then-is_empty-clause-left
returns-then-is_empty-clause-left c =
    let none : expansion c.loop-at.rest.now ≡ [] = expansion-none c.loop-at.rest.now (eqb-true _ _ (sym c.is_empty.ensures ∙ c.if-is_empty.true)) in
    let all : _ = HasGiven-ended _ _ _ (left_of c.loop-at.packet) (expansion c.loop-at.rest.now) _ c.loop-at.at c.give-at.result c.loop-at.invariant c.give-at.ensures.count c.give-at.ensures.given c.if-at-into.false none in
    rw (← c.self.view_is, c.give-at.ensures.left, all.0, none) all.3
