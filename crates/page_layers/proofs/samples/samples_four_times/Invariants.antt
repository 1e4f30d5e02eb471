use Rattle.std.proofs.Common.{◌*◌}
use Rattle.page_layers.specs.Rows.{IsStretched}
use Rattle.page_layers.proofs.samples.samples_four_times.Given as goal

abbrev pub invariant-loop-k : goal.invariant-loop-k
invariant-loop-k l = IsStretched l.source 4 4 (64 * l.k) l.into
