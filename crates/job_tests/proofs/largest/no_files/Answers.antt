use Rattle.std.proofs.Common.{◌≡◌, ℕ, List, length, ap, arith}
use Rattle.std.specs.Global.{Vec}
use Rattle.pr_ports.proofs.Distinct.{one_is_distinct}
use Rattle.job_tests.proofs.largest.no_files.Goals as goal

pub new-requires-3 : goal.new-requires-3
new-requires-3 c =
    let none : length c.new.result.items ≡ 0 = ap {A = List (List ℕ × Vec ℕ)} length c.new.ensures.items in
    one_is_distinct c.new.result.items (omega arith)
