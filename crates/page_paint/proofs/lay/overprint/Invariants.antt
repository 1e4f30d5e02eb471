use Rattle.std.proofs.Common.{◌≡◌, ℕ, ◌≤◌, slice_index}
use Rattle.page_paint.specs.declared.lay.Painting.TheVariants.{Overprint}
use Rattle.page_paint.specs.Rows.{IsLaid}
use Rattle.page_paint.proofs.lay.overprint.Given as goal

abbrev pub invariant-loop-x : goal.invariant-loop-x
invariant-loop-x l = record {
  laid : IsLaid Overprint l.paint l.admitted l.fn.into l.x l.into;
  rest : (k : ℕ) → l.x ≤ k → slice_index l.into k ≡ slice_index l.fn.into k;
}
