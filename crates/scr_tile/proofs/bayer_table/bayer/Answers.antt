-- Each iteration copies one row of the table, and the table equals the recursion.
use Rattle.std.proofs.Common.{◌∙◌, arith, below_more, get_or, get_or-set_other, get_or-set_same, length-set, [], ap}
use Rattle.scr_tile.proofs.TableLemmas.{table_at}
use Rattle.scr_tile.proofs.bayer_table.bayer.Goals as goal

pub loop-y-preserved : goal.loop-y-preserved
loop-y-preserved g c = (
  length-set c.loop-y.row-items c.loop-y.y _ ∙ c.loop-y.invariant.0,
  below_more _ _
      (λ j below. get_or-set_other c.loop-y.row-items c.loop-y.y j _ [] (omega arith) ∙ c.loop-y.invariant.1 j below)
      (get_or-set_same c.loop-y.row-items c.loop-y.y _ [] (omega (arith, c.loop-y.invariant.0)) ∙ c.copy_from_slice.ensures.after),
)

pub returns : goal.returns
returns g c =
    λ x y column row. ap (λ rows. get_or (get_or rows y []) x 0) c.of.ensures
    ∙ ap (λ numbers. get_or numbers x 0) (c.loop-y.invariant.1 y (omega arith))
    ∙ table_at g.row.N x y c.requires column row
