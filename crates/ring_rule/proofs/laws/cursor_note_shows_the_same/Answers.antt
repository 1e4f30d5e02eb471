use Rattle.ring_rule.proofs.Notes.{cursor_note_same}
use Rattle.ring_rule.proofs.laws.cursor_note_shows_the_same.Goals as goal

pub returns : goal.returns
returns c = cursor_note_same
