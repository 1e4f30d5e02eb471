use Rattle.std.proofs.Common.{sym}
use Rattle.rack_tests.proofs.Numbered.{length-numbered}
use Rattle.rack_tests.proofs.rows.NumberedDeal.total.Goals as goal

pub returns : goal.returns
returns c = sym (length-numbered c.args.self.now.count)
