use Rattle.std.proofs.Common.{arith}
use Rattle.ring_tests.proofs.Rows.{rows_count}
use Rattle.ring_tests.proofs.table.rows_pass_twice_round_and_a_reader_leaves.Goals as goal

pub new-requires-clause-total : goal.new-requires-clause-total
new-requires-clause-total g c = omega (arith, rows_count 5)
