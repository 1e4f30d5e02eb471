use Rattle.std.proofs.Common.{◌*◌}
use Rattle.page_layers.specs.Rows.{IsStretched}
use Rattle.page_layers.proofs.stretch.runs.Given as goal

abbrev pub invariant-loop-n : goal.invariant-loop-n
invariant-loop-n l = IsStretched l.source l.step l.scale (l.scale * l.n) l.into
