use Rattle.std.proofs.Common.{◌≡◌, ◌+◌, ◌-◌, ◌*◌, ◌/◌, length, take, drop, refl, arith}
use Rattle.std.proofs.lemmas.List.{length-drop, length-take}
use Rattle.page_layers.proofs.Blocks.{Marks_block}
use Rattle.page_layers.proofs.marks.mark_blocks.Goals as goal

pub loop-k-preserved : goal.loop-k-preserved
loop-k-preserved c =
    let at = c.args.from + 64 * c.loop-k.k in
    let byte = (c.args.first + c.args.from) / 8 + 8 * c.loop-k.k in
    let cut = at + 64 - at in
    let begins = c.requires.begins (omega arith) in
    let size : length (take cut (drop at c.loop-k.into)) ≡ 64 = omega (arith, c.loop-k.auto.into, length-take cut (drop at c.loop-k.into), length-drop at c.loop-k.into) in
    let long : length c.mark_block.new.into ≡ 64 = omega (arith, c.mark_block.auto.into, size) in
    Marks_block c.args.marking.fresh c.args.marking.zeros c.args.row.now c.args.first c.args.from at (c.args.from + 64 * (c.loop-k.k + 1)) (at + 64) _ byte (byte + 8) c.args.into.now c.loop-k.into _ (omega arith) (omega arith) (omega arith) (omega arith) (omega arith) (omega (arith, begins)) refl long c.mark_block.ensures c.loop-k.invariant
