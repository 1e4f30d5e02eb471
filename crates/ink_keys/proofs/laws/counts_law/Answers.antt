use Rattle.ink_keys.proofs.Plates.{plates-are}
use Rattle.ink_keys.proofs.Turning.{counted-both}
use Rattle.ink_keys.proofs.laws.counts_law.Goals as goal

pub returns-clause-turns : goal.returns-clause-turns
returns-clause-turns c = counted-both

pub returns-clause-plates : goal.returns-clause-plates
returns-clause-plates c = plates-are
