use Rattle.std.proofs.Common.{◌≡◌, ◌*◌, ◌≤◌, take, sum_by}
use Rattle.ink_keys.specs.Keys.{dots_between}
use Rattle.ink_keys.proofs.dots.ones.Given as goal

abbrev pub invariant-loop-word : goal.invariant-loop-word
invariant-loop-word l = record {
  ones_are : l.ones ≡ sum_by (λ word. dots_between word 0 64) (take l.word-index l.words);
  few : l.ones ≤ 64 * l.word-index;
}
