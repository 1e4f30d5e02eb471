use Rattle.ring_rule.proofs.Notes.{meet_head_same}
use Rattle.ring_rule.proofs.laws.meet_head_shows_the_same.Goals as goal

pub returns : goal.returns
returns c = meet_head_same
