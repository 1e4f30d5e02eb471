use Rattle.std.proofs.Common.{◌≡◌, ◌++◌, ◌-◌, [], List, ℕ, length, drop, take, arith, refl, sym, ap, ◌∙◌}
use Rattle.std.proofs.lemmas.Bool.{eqb-true}
use Rattle.std.proofs.lemmas.List.{take_rest}
use Rattle.tif_packbits.specs.Packbits.{expansion}
use Rattle.tif_packbits.specs.Packet.{left_of}
use Rattle.tif_packbits.specs.PacketCursor.{Packets, packets_ahead}
use Rattle.tif_packbits.proofs.Expansion.{expansion-none}
use Rattle.tif_packbits.proofs.Pieces.{HasPassed-piece, HasPassed-whole, HasPassed-next, HasPassed-filled, HasPassed-ended}
use Rattle.tif_packbits.proofs.PacketOffsets.{behind-drop, packets-same}
use Rattle.tif_packbits.proofs.packet_cursor.PacketCursor.skip.Goals as goal

pub loop-most-preserved : goal.loop-most-preserved
loop-most-preserved c =
    let own = c.loop-most.self-inside in
    let rest : List ℕ = take (length own.packed.now - own.next) (drop own.next own.packed.now) in
    let passed : _ = HasPassed-piece _ (left_of own.packet) (expansion (drop own.next own.packed.now)) _ c.loop-most.most c.pass-most.result c.loop-most.invariant.passed c.pass-most.ensures.count in
    let whole : _ = HasPassed-whole (left_of own.packet) c.loop-most.most c.pass-most.result c.pass-most.ensures.count c.if-most-eq0.false in
    let at : drop (length own.packed.now - length c.first_packet.result.1.now) own.packed.now ≡ c.first_packet.result.1.now =
    behind-drop own.packed.now rest c.first_packet.result.1.now own.next c.loop-most.invariant.within refl c.first_packet.ensures.behind c.first_packet.ensures.shorter in
    let behind : expansion (drop own.next own.packed.now) ≡ left_of c.first_packet.result.0 ++ expansion (drop (length own.packed.now - length c.first_packet.result.1.now) own.packed.now) =
    ap expansion (sym (take_rest own.packed.now own.next)) ∙ c.first_packet.ensures.whole ∙ ap (λ bytes. left_of c.first_packet.result.0 ++ expansion bytes) (sym at) in
    record {
      same = c.loop-most.invariant.same;
      within = omega arith;
      passed = HasPassed-next _ _ _ (left_of c.first_packet.result.0) _ _ _ passed whole behind;
    }

pub returns-then-most-eq0-clause-short : goal.returns-then-most-eq0-clause-short
returns-then-most-eq0-clause-short c =
    let own = c.loop-most.self-inside in
    let ahead : packets_ahead c.self.inside ≡ c.args.self.now.ahead = ap (λ (p : Packets). p.ahead) c.self.view_is in
    let full : _ = HasPassed-filled _ (left_of own.packet) (expansion (drop own.next own.packed.now)) _ c.loop-most.most c.pass-most.result c.loop-most.invariant.passed c.pass-most.ensures.count c.if-most-eq0.true in
    rw (← ahead) (λ is. cc, λ less. absurd (omega (arith, full.0)))

pub returns-then-most-eq0-clause-enough : goal.returns-then-most-eq0-clause-enough
returns-then-most-eq0-clause-enough c =
    let own = c.loop-most.self-inside in
    let ahead : packets_ahead c.self.inside ≡ c.args.self.now.ahead = ap (λ (p : Packets). p.ahead) c.self.view_is in
    let full : _ = HasPassed-filled _ (left_of own.packet) (expansion (drop own.next own.packed.now)) _ c.loop-most.most c.pass-most.result c.loop-most.invariant.passed c.pass-most.ensures.count c.if-most-eq0.true in
    rw (← ahead) full.0

pub returns-then-most-eq0-clause-left : goal.returns-then-most-eq0-clause-left
returns-then-most-eq0-clause-left c =
    let own = c.loop-most.self-inside in
    let ahead : packets_ahead c.self.inside ≡ c.args.self.now.ahead = ap (λ (p : Packets). p.ahead) c.self.view_is in
    let packed : c.self.inside.packed.now ≡ c.args.self.now.packed = ap (λ (p : Packets). p.packed) c.self.view_is in
    let full : _ = HasPassed-filled _ (left_of own.packet) (expansion (drop own.next own.packed.now)) _ c.loop-most.most c.pass-most.result c.loop-most.invariant.passed c.pass-most.ensures.count c.if-most-eq0.true in
    packets-same _ _ _ _ (c.loop-most.invariant.same ∙ packed)
    (ap (λ front. front ++ expansion (drop own.next own.packed.now)) c.pass-most.ensures.left ∙ full.1 ∙ ap (drop c.args.n) ahead)

pub returns-then-is_empty-clause-short : goal.returns-then-is_empty-clause-short
returns-then-is_empty-clause-short c =
    let own = c.loop-most.self-inside in
    let ahead : packets_ahead c.self.inside ≡ c.args.self.now.ahead = ap (λ (p : Packets). p.ahead) c.self.view_is in
    let none : expansion (drop own.next own.packed.now) ≡ [] = ap expansion (sym (take_rest own.packed.now own.next)) ∙ expansion-none _ (eqb-true _ _ (sym c.is_empty.ensures ∙ c.if-is_empty.true)) in
    let all : _ = HasPassed-ended _ (left_of own.packet) (expansion (drop own.next own.packed.now)) _ c.loop-most.most c.pass-most.result c.loop-most.invariant.passed c.pass-most.ensures.count c.if-most-eq0.false none in
    rw (← ahead) (λ is. all.1, λ less. refl)

pub returns-then-is_empty-clause-left : goal.returns-then-is_empty-clause-left
returns-then-is_empty-clause-left c =
    let own = c.loop-most.self-inside in
    let ahead : packets_ahead c.self.inside ≡ c.args.self.now.ahead = ap (λ (p : Packets). p.ahead) c.self.view_is in
    let packed : c.self.inside.packed.now ≡ c.args.self.now.packed = ap (λ (p : Packets). p.packed) c.self.view_is in
    let none : expansion (drop own.next own.packed.now) ≡ [] = ap expansion (sym (take_rest own.packed.now own.next)) ∙ expansion-none _ (eqb-true _ _ (sym c.is_empty.ensures ∙ c.if-is_empty.true)) in
    let all : _ = HasPassed-ended _ (left_of own.packet) (expansion (drop own.next own.packed.now)) _ c.loop-most.most c.pass-most.result c.loop-most.invariant.passed c.pass-most.ensures.count c.if-most-eq0.false none in
    packets-same _ _ _ _ (c.loop-most.invariant.same ∙ packed)
    ((rw (c.pass-most.ensures.left, all.0, none) refl) ∙ all.2 ∙ ap (drop c.args.n) ahead)
