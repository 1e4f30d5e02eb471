use Rattle.std.proofs.Common.{◌≡◌, ℕ, ◌+◌, ◌-◌, List, length, take, drop, ap, subst, arith}
use Rattle.std.proofs.lemmas.List.{length-drop, take_all}
use Rattle.pr_ports.specs.Offset.{HasFront}
use Rattle.pr_ports.proofs.Offsets.{front_behind}
use Rattle.pr_ports.proofs.comparing.compare_share.Goals as goal

pub loop-at-preserved : goal.loop-at-preserved
loop-at-preserved g c =
    let bytes = c.args.bytes.now in
    let at = c.loop-at.at in
    let before = c.loop-at.invariant in
    let piece = c.next_alike-count.ensures in
    let behind = length-drop at bytes in
    let rest : take (length bytes - at) (drop at bytes) ≡ drop at bytes = take_all (length bytes - at) (drop at bytes) (omega (arith, behind)) in
    let long = ap length rest in
    let short = piece.within in
    let within = before.within in
    record {
      within = omega (arith, within, behind, long, short);
      front = front_behind (g.F.OffsetRead.whole c.args.file.now) c.args.offset bytes at c.next_alike-count.result before.front
          (subst (λ (l : List ℕ). HasFront (g.F.OffsetRead.whole c.args.file.now) (c.args.offset + at) l c.next_alike-count.result) rest piece.front);
    }
