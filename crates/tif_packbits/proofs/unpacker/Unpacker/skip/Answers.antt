use Rattle.std.proofs.Common.{◌≡◌, [], arith, refl, sym, ◌∙◌}
use Rattle.std.proofs.lemmas.Bool.{eqb-true}
use Rattle.tif_packbits.specs.Packbits.{expansion}
use Rattle.tif_packbits.specs.Packet.{left_of}
use Rattle.tif_packbits.proofs.Expansion.{expansion-none}
use Rattle.tif_packbits.proofs.Pieces.{HasPassed-none, HasPassed-piece, HasPassed-whole, HasPassed-next, HasPassed-filled, HasPassed-ended}
use Rattle.tif_packbits.proofs.unpacker.Unpacker.skip.Goals as goal

pub loop-most-init : goal.loop-most-init
loop-most-init c = HasPassed-none _ _

pub loop-most-preserved : goal.loop-most-preserved
loop-most-preserved c =
    let passed : _ = HasPassed-piece _ (left_of c.loop-most.self-inside.packet) (expansion c.loop-most.self-inside.rest.now) _ c.loop-most.most c.pass-most.result c.loop-most.invariant c.pass-most.ensures.count in
    let whole : _ = HasPassed-whole (left_of c.loop-most.self-inside.packet) c.loop-most.most c.pass-most.result c.pass-most.ensures.count c.if-most-eq0.false in
    HasPassed-next _ _ _ (left_of c.first_packet.result.0) (expansion c.first_packet.result.1.now) _ _ passed whole c.first_packet.ensures.whole

pub returns-then-most-eq0-clause-short : goal.returns-then-most-eq0-clause-short
returns-then-most-eq0-clause-short c =
    let full : _ = HasPassed-filled _ (left_of c.loop-most.self-inside.packet) (expansion c.loop-most.self-inside.rest.now) _ c.loop-most.most c.pass-most.result c.loop-most.invariant c.pass-most.ensures.count c.if-most-eq0.true in
    rw (← c.self.view_is) (λ is. cc, λ less. absurd (omega (arith, full.0)))

pub returns-then-most-eq0-clause-enough : goal.returns-then-most-eq0-clause-enough
returns-then-most-eq0-clause-enough c =
    let full : _ = HasPassed-filled _ (left_of c.loop-most.self-inside.packet) (expansion c.loop-most.self-inside.rest.now) _ c.loop-most.most c.pass-most.result c.loop-most.invariant c.pass-most.ensures.count c.if-most-eq0.true in
    rw (← c.self.view_is) full.0

pub returns-then-most-eq0-clause-left : goal.returns-then-most-eq0-clause-left
returns-then-most-eq0-clause-left c =
    let full : _ = HasPassed-filled _ (left_of c.loop-most.self-inside.packet) (expansion c.loop-most.self-inside.rest.now) _ c.loop-most.most c.pass-most.result c.loop-most.invariant c.pass-most.ensures.count c.if-most-eq0.true in
    rw (← c.self.view_is, c.pass-most.ensures.left) full.1

pub returns-then-is_empty-clause-short : goal.returns-then-is_empty-clause-short
returns-then-is_empty-clause-short c =
    let none : expansion c.loop-most.self-inside.rest.now ≡ [] = expansion-none c.loop-most.self-inside.rest.now (eqb-true _ _ (sym c.is_empty.ensures ∙ c.if-is_empty.true)) in
    let all : _ = HasPassed-ended _ (left_of c.loop-most.self-inside.packet) (expansion c.loop-most.self-inside.rest.now) _ c.loop-most.most c.pass-most.result c.loop-most.invariant c.pass-most.ensures.count c.if-most-eq0.false none in
    rw (← c.self.view_is) (λ is. all.1, λ less. refl)

pub returns-then-is_empty-clause-left : goal.returns-then-is_empty-clause-left
returns-then-is_empty-clause-left c =
    let none : expansion c.loop-most.self-inside.rest.now ≡ [] = expansion-none c.loop-most.self-inside.rest.now (eqb-true _ _ (sym c.is_empty.ensures ∙ c.if-is_empty.true)) in
    let all : _ = HasPassed-ended _ (left_of c.loop-most.self-inside.packet) (expansion c.loop-most.self-inside.rest.now) _ c.loop-most.most c.pass-most.result c.loop-most.invariant c.pass-most.ensures.count c.if-most-eq0.false none in
    rw (← c.self.view_is, c.pass-most.ensures.left, all.0, none) all.2
