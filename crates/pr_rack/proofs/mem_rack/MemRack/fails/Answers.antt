use Rattle.std.proofs.Common.{rules}
use Rattle.pr_rack.proofs.mem_rack.MemRack.fails.Goals as goal

pub returns-clause-listed : goal.returns-clause-listed
returns-clause-listed c = λ found. search rules
