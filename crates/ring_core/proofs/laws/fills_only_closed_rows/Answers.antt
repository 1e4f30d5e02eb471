use Rattle.ring_core.proofs.Whole.{fills_closed}
use Rattle.ring_core.proofs.laws.fills_only_closed_rows.Goals as goal

pub returns : goal.returns
returns c = fills_closed
