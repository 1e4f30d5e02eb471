use Rattle.std.proofs.Common.{◌*◌}
use Rattle.page_layers.specs.Rows.{IsStretched}
use Rattle.page_layers.proofs.samples.samples_twice.Given as goal

abbrev pub invariant-loop-k : goal.invariant-loop-k
invariant-loop-k l = IsStretched l.source 4 2 (32 * l.k) l.into
