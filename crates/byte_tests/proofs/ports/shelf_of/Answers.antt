use Rattle.std.proofs.Common.{arith}
use Rattle.pr_ports.proofs.Distinct.{one_is_distinct}
use Rattle.byte_tests.proofs.ports.shelf_of.Goals as goal

pub new-requires : goal.new-requires
new-requires g c =
    let long = rw c.expect.ensures at c.push.ensures.len in
    one_is_distinct c.push.new.self.items (omega (arith, long, c.new-files.ensures.len))
