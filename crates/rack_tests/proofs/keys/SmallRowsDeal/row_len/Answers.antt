use Rattle.rack_tests.proofs.Counting.{small-sizes}
use Rattle.rack_tests.proofs.keys.SmallRowsDeal.row_len.Goals as goal

pub returns-clause-each : goal.returns-clause-each
returns-clause-each c = small-sizes
