use Rattle.std.proofs.Common.{sym}
use Rattle.ring_tests.proofs.Rows.{rows_count}
use Rattle.ring_tests.proofs.deal.NumberedDeal.total.Goals as goal

pub returns : goal.returns
returns c = sym (rows_count c.args.self.now.total)
