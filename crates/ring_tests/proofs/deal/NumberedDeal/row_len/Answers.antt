use Rattle.ring_tests.proofs.Rows.{rows_even}
use Rattle.ring_tests.proofs.deal.NumberedDeal.row_len.Goals as goal

pub returns-clause-each : goal.returns-clause-each
returns-clause-each c = rows_even c.args.self.now.total
