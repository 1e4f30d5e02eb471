use Rattle.std.proofs.Common.{◌≡◌, ℕ, ◌+◌, ◌*◌, ◌<◌}
use Rattle.std.specs.Prelude.{slice_index}
use Rattle.scr_diffuse.specs.Weave.{HasColumns, woven_at}
use Rattle.scr_diffuse.proofs.weave.set_block.Given as goal

-- the columns before the block are written, and so are the first vectors of the block
abbrev pub invariant-loop-k : goal.invariant-loop-k
invariant-loop-k l = record {
  before : HasColumns l.rows l.first l.columns;
  here : (m : ℕ) → m < 16 * l.k → slice_index l.columns (8 * l.first + m) ≡ woven_at l.woven m;
}
