use Rattle.std.proofs.Common.{◌≡◌, ◌+◌, ◌<◌, ◌≤◌, ℕ, get_or, length}
use Rattle.ink_keys.specs.Keys.{dots_between}
use Rattle.ink_keys.proofs.counts.add_dots.Given as goal

abbrev pub invariant-loop-k : goal.invariant-loop-k
invariant-loop-k l = record {
  count : length l.numbers ≡ length l.fn.numbers;
  here : (k : ℕ) → k < l.k → get_or l.numbers (l.start + k) 0 ≡ get_or l.fn.numbers (l.start + k) 0 + dots_between l.row (get_or l.firsts k 0) (get_or l.firsts (k + 1) 0);
  below : (place : ℕ) → place < l.start → get_or l.numbers place 0 ≡ get_or l.fn.numbers place 0;
  above : (place : ℕ) → l.start + l.k ≤ place → get_or l.numbers place 0 ≡ get_or l.fn.numbers place 0;
}
