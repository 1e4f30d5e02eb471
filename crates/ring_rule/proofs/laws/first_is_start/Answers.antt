use Rattle.ring_rule.proofs.First.{first_shows}
use Rattle.ring_rule.proofs.laws.first_is_start.Goals as goal

pub returns : goal.returns
returns c = first_shows
