use Rattle.std.proofs.Common.{◌≡◌, ℕ, ◌+◌, ◌*◌, ◌<◌}
use Rattle.std.specs.Prelude.{slice_index}
use Rattle.scr_diffuse.specs.Block.{row_in}
use Rattle.scr_diffuse.specs.Weave.{HasColumns, value_behind}
use Rattle.scr_diffuse.proofs.weave.set_column.Given as goal

-- the columns before this one are written, and so are the first values of this one
abbrev pub invariant-loop-k : goal.invariant-loop-k
invariant-loop-k l = record {
  before : HasColumns l.rows l.x l.columns;
  here : (j : ℕ) → j < l.k
      → slice_index l.columns (8 * l.x + j) ≡ value_behind (row_in l.rows j) l.x (3 * j);
}
