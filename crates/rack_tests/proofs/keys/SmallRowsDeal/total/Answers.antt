use Rattle.std.proofs.Common.{sym}
use Rattle.rack_tests.proofs.Counting.{length-small}
use Rattle.rack_tests.proofs.keys.SmallRowsDeal.total.Goals as goal

pub returns : goal.returns
returns c = sym length-small
