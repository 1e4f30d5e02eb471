use Rattle.ring_rule.proofs.Notes.{meet_cursor_same}
use Rattle.ring_rule.proofs.laws.meet_cursor_shows_the_same.Goals as goal

pub returns : goal.returns
returns c = meet_cursor_same
