use Rattle.std.proofs.Common.{arith}
use Rattle.ring_tests.proofs.Rows.{rows_count}
use Rattle.ring_tests.proofs.ring.opened.Goals as goal

pub open_ring-requires-clause-total : goal.open_ring-requires-clause-total
open_ring-requires-clause-total g c = omega (arith, rows_count c.args.deal.now.total)
