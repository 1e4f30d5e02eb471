-- Each iteration writes the pixels of one more block and moves to the column of the next.
use Rattle.std.proofs.Common.{◌≡◌, ℕ, ◌+◌, ◌*◌, ◌%◌, ◌<◌, ◌∙◌, length, ap, arith, get_or}
use Rattle.std.proofs.lemmas.Nat.{mod_below}
use Rattle.pr_base.specs.Bits.{bit_at}
use Rattle.scr_tile.specs.Tile.{tile_bit}
use Rattle.pr_base.proofs.BitLemmas.{SetsBits_join}
use Rattle.pr_base.proofs.Blocks.{SetsBits_block}
use Rattle.scr_tile.proofs.RowLemmas.{step_within, step_past, bit_of_part}
use Rattle.scr_tile.proofs.screen.set_blocks.Goals as goal
use Rattle.scr_tile.proofs.screen.set_blocks.Goals.{then-column-width, else-column-width}

pub loop-k-preserved : goal.loop-k-preserved
loop-k-preserved c =
    let row = c.args.row.now in
    let width = length row in
    let start = c.args.start in
    let done = 64 * c.loop-k.k in
    let byte = c.args.first + 8 * c.loop-k.k in
    let here : c.loop-k.column ≡ (start + done) % width = c.loop-k.invariant.0 in
    let above : 0 < width = omega arith in
    let below : (start + done) % width < width = mod_below (start + done) width above in
    let next : start + done + 64 ≡ start + 64 * (c.loop-k.k + 1) = omega arith in
    let test : ℕ → _ = λ x. tile_bit (get_or c.args.values.now x 0) (get_or row ((start + x) % width) 0) in (
      elim c.if-column-width.branch [
        | then-column-width w ↦ w.column-is
            ∙ step_past (start + done) 64 width c.loop-k.column above here w.if-column-width.true ∙ ap (λ n. n % width) next
        | else-column-width w ↦ w.column-is
            ∙ step_within (start + done) 64 width c.loop-k.column here w.if-column-width.false ∙ ap (λ n. n % width) next
      ],
      SetsBits_join test (8 * c.args.first) done (8 * byte) 64 (64 * (c.loop-k.k + 1)) _ _ _ (omega arith) (omega arith) c.loop-k.invariant.1
          (SetsBits_block (λ x. test (done + x)) c.loop-k.bits c.copy_from_slice.new.self byte _ (omega arith) (omega arith) (omega arith)
          (λ x within. ap (λ bytes. bit_at bytes x) c.copy_from_slice.ensures.after
          ∙ c.block_of-block.ensures x within
          ∙ bit_of_part row c.args.repeated.now c.args.values.now 128 64 start done c.loop-k.column x c.requires.repeated above here (omega arith) within)),
    )
