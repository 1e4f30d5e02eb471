use Rattle.std.proofs.Common.{◌≡◌, ℕ, ◌<◌, ◌≤◌, if◌then◌else◌, slice_index}
use Rattle.std.specs.Prelude.{◌==◌}
use Rattle.page_paint.proofs.lay.spread.Given as goal

abbrev pub invariant-loop-x : goal.invariant-loop-x
invariant-loop-x l = record {
  laid : (k : ℕ) → k < l.x → slice_index l.into k ≡ (if slice_index l.admitted k == 0 then slice_index l.fn.into k else l.ink);
  rest : (k : ℕ) → l.x ≤ k → slice_index l.into k ≡ slice_index l.fn.into k;
}
