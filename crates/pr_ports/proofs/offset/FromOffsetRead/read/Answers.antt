use Rattle.std.proofs.Common.{◌≡◌, ◌+◌, arith}
use Rattle.pr_ports.proofs.Offsets.{read_consumes}
use Rattle.pr_ports.proofs.offset.FromOffsetRead.read.Goals as goal

pub returns-clause-bytes : goal.returns-clause-bytes
returns-clause-bytes g c =
    let next : c.in-Some-checked_add.next ≡ c.args.self.now.offset + c.in-Some.count = grind arith in
    read_consumes _ c.args.self.now.offset c.in-Some-checked_add.next c.read_from.new.into c.in-Some.count next c.in-Some.ensures.bytes
