use Rattle.ring_rule.proofs.Notes.{split_same}
use Rattle.ring_rule.proofs.laws.split_shows_the_same.Goals as goal

pub returns : goal.returns
returns c = split_same
