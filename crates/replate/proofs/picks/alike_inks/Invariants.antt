use Rattle.std.proofs.Common.{◌≡◌, ◌<◌, ◌↔◌, ℕ, false, length, slice_index_or}
use Rattle.std.specs.Prelude.{IsTrue}
use Rattle.replate.specs.Standing.{IsAlike}
use Rattle.replate.proofs.picks.alike_inks.Given as goal

abbrev pub invariant-loop-slot : goal.invariant-loop-slot
invariant-loop-slot l = record {
  long : length l.alike ≡ 5;
  each : (k : ℕ) → k < l.slot → IsTrue (slice_index_or l.alike k false) ↔ IsAlike l.before l.after k;
}
