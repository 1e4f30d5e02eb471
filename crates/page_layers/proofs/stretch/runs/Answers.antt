use Rattle.std.proofs.Common.{◌≡◌, ◌+◌, ◌-◌, ◌*◌, ◌/◌, ◌≤◌, length, take, drop, refl, arith}
use Rattle.std.proofs.Math.Nat.{mul-le-mul_right}
use Rattle.std.proofs.lemmas.List.{length-drop, length-take}
use Rattle.std.proofs.lemmas.Nat.{div-add-mod', mod_below}
use Rattle.page_layers.proofs.Stretches.{IsStretched-run}
use Rattle.page_layers.proofs.stretch.runs.Goals as goal

pub loop-n-preserved : goal.loop-n-preserved
loop-n-preserved c =
    let n = c.loop-n.n in
    let scale = c.args.scale in
    let cut = scale * n + scale - scale * n in
    let filled = c.fill.ensures.after (λ y same. same) in
    let all = length c.args.into.now in
    let whole = div-add-mod' all scale in
    let next : n + 1 ≤ all / scale = omega arith in
    let scaled : (n + 1) * scale ≤ all / scale * scale = mul-le-mul_right scale next in
    let room : scale * n + scale ≤ length c.loop-n.into = omega (arith, c.loop-n.auto.into) in
    let size : length (take cut (drop (scale * n) c.loop-n.into)) ≡ scale = omega (arith, length-take cut (drop (scale * n) c.loop-n.into), length-drop (scale * n) c.loop-n.into) in
    IsStretched-run c.args.source.now c.args.step scale n (scale * (n + 1)) cut _ _ c.loop-n.into c.fill.new.self c.loop-n.invariant (omega arith) (omega arith) (omega arith) filled refl

pub returns-then-scale-whole : goal.returns-then-scale-whole
returns-then-scale-whole c =
    let scale = c.args.scale in
    let all = length c.args.into.now in
    let n = all / scale in
    let cut = length c.loop-n.into - scale * n in
    let filled = c.fill-then-scale-whole.ensures.after (λ y same. same) in
    let whole = div-add-mod' all scale in
    let rest = mod_below all scale (omega arith) in
    let long : length c.loop-n.into ≡ all = c.loop-n.auto.into in
    let end : c.loop-n.n ≡ n = omega arith in
    let size : length (take cut (drop (scale * n) c.loop-n.into)) ≡ all - scale * n = omega (arith, length-take cut (drop (scale * n) c.loop-n.into), length-drop (scale * n) c.loop-n.into) in
    IsStretched-run c.args.source.now c.args.step scale n all cut _ _ c.loop-n.into c.fill-then-scale-whole.new.self (rw end at c.loop-n.invariant) (omega arith) (omega arith) (omega arith) filled refl
