use Rattle.std.proofs.Common.{ap, length, ◌∙◌, arith}
use Rattle.ink_keys.specs.Counts.{CountsData}
use Rattle.rack_tests.proofs.Counting.{counting-first, key_data}
use Rattle.rack_tests.proofs.Numbered.{length-numbered}
use Rattle.rack_tests.proofs.keys.count_all.Goals as goal

pub open_ring-requires-clause-total : goal.open_ring-requires-clause-total
open_ring-requires-clause-total g c = omega (arith, length-numbered 4)

pub take_turns-ends-requires-clause-counting : goal.take_turns-ends-requires-clause-counting
take_turns-ends-requires-clause-counting g c =
    let zero = rw c.expect-counts.ensures at c.zeros.ensures.zero in
    let new = c.ends_of-writer.ensures.reader in
    counting-first 4 (length c.args.rows.now.groups) 3 c.args.rows.now c.ends_of-writer.result.1 c.new-key.result (omega arith) c.requires
    (c.new-key.ensures ∙ ap {A = CountsData} (λ n. key_data c.args.rows.now n) zero)
    new.ring new.cursor new.left new.held
