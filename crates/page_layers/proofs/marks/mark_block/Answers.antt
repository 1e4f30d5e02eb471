use Rattle.std.proofs.Common.{◌≡◌, map, ap, sym, ◌∙◌}
use Rattle.std.specs.List.{range_with_len}
use Rattle.page_layers.proofs.Blocks.{IsMarked_block, lanes_held, wanted_at}
use Rattle.page_layers.proofs.marks.mark_block.Goals as goal
use Rattle.page_layers.proofs.marks.mark_block.Goals.{then-zeros, else-zeros, then-fresh, else-fresh}

pub returns : goal.returns
returns c =
    let wanted_is : c.if-zeros.wanted ≡ map (wanted_at c.args.zeros) (range_with_len 0 64) =
    elim c.if-zeros.branch [
      | then-zeros w ↦ w.wanted-is ∙ ap (λ zeros. map (wanted_at zeros) (range_with_len 0 64)) (sym w.if-zeros.true)
      | else-zeros w ↦ w.wanted-is ∙ ap (λ zeros. map (wanted_at zeros) (range_with_len 0 64)) (sym w.if-zeros.false)
    ] in
    let values_are : c.if-fresh.values ≡ lanes_held c.args.fresh c.args.into.now =
    elim c.if-fresh.branch [
      | then-fresh w ↦ w.values-is ∙ ap (λ fresh. lanes_held fresh c.args.into.now) (sym w.if-fresh.true)
      | else-fresh w ↦ w.values-is ∙ ap (λ fresh. lanes_held fresh c.args.into.now) (sym w.if-fresh.false)
    ] in
    IsMarked_block c.args.fresh c.args.zeros c.args.bits.now c.if-zeros.wanted c.if-fresh.values c.args.into.now c.requires.bits c.requires.into wanted_is values_are
