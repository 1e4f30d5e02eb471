use Rattle.rack_tests.proofs.Numbered.{numbered-sizes}
use Rattle.rack_tests.proofs.rows.NumberedDeal.row_len.Goals as goal

pub returns-clause-each : goal.returns-clause-each
returns-clause-each c = numbered-sizes c.args.self.now.count
