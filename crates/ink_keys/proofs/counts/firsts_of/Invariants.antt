use Rattle.std.proofs.Common.{◌≡◌, map}
use Rattle.std.specs.List.{range_with_len}
use Rattle.ink_keys.specs.Keys.{first_column}
use Rattle.ink_keys.proofs.counts.firsts_of.Given as goal

abbrev pub invariant-loop-k : goal.invariant-loop-k
invariant-loop-k l = l.firsts.items ≡ map (first_column l.width l.keys) (range_with_len 0 l.k)
