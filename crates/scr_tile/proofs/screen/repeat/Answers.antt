-- Each iteration writes one more threshold and moves to the next column.
use Rattle.std.proofs.Common.{◌≡◌, ◌+◌, ◌%◌, ◌<◌, ◌∙◌, length, ap, sym, arith, get_or, below_more, get_or-set_other, get_or-set_same}
use Rattle.std.proofs.lemmas.Nat.{mod_below}
use Rattle.scr_tile.proofs.RowLemmas.{column_wraps, column_next}
use Rattle.scr_tile.proofs.screen.repeat.Goals as goal
use Rattle.scr_tile.proofs.screen.repeat.Goals.{then-column-row, else-column-row}

pub loop-threshold-preserved : goal.loop-threshold-preserved
loop-threshold-preserved c =
    let i = c.loop-threshold.threshold-index in
    let width = length c.args.row.now in
    let here : c.loop-threshold.column ≡ i % width = c.loop-threshold.invariant.0 in
    let below : i % width < width = mod_below i width (omega arith) in (
      elim c.if-column-row.branch [
        | then-column-row w ↦ w.column-is
            ∙ sym (column_wraps i width (ap (λ n. n + 1) (sym here) ∙ w.if-column-row.true))
        | else-column-row w ↦ w.column-is ∙ ap (λ n. n + 1) here
            ∙ sym (column_next i width (let not_whole = w.if-column-row.false in omega arith))
      ],
      below_more _ _
          (λ k below. get_or-set_other _ i k _ 0 (omega arith) ∙ c.loop-threshold.invariant.1 k below)
          (get_or-set_same _ i _ 0 (omega arith) ∙ ap (λ n. get_or c.args.row.now n 0) here),
    )
