use Rattle.std.proofs.Common.{◌≡◌, ℕ, ◌+◌, ◌*◌, ◌<◌, ◌≤◌, length, pos, FitsSigned, w16}
use Rattle.scr_diffuse.specs.Passes.{number_at}
use Rattle.scr_diffuse.proofs.block.within.Given as goal

-- the first numbers are their errors, or 0 outside their rows; the others are unchanged
abbrev pub invariant-loop-k : goal.invariant-loop-k
invariant-loop-k l = record {
  long : length l.numbers ≡ 8;
  inside : (j : ℕ) → j < l.k → 3 * j ≤ l.step → l.step < l.width + 3 * j
      → FitsSigned w16 (number_at l.initial.numbers j)
      → number_at l.numbers j ≡ number_at l.initial.numbers j;
  before : (j : ℕ) → j < l.k → l.step < 3 * j → number_at l.numbers j ≡ pos 0;
  behind : (j : ℕ) → j < l.k → l.width + 3 * j ≤ l.step → number_at l.numbers j ≡ pos 0;
  rest : (j : ℕ) → l.k ≤ j → j < 8 → FitsSigned w16 (number_at l.initial.numbers j)
      → number_at l.numbers j ≡ number_at l.initial.numbers j;
}
