use Rattle.ring_rule.proofs.Notes.{head_note_same}
use Rattle.ring_rule.proofs.laws.head_note_shows_the_same.Goals as goal

pub returns : goal.returns
returns c = head_note_same
