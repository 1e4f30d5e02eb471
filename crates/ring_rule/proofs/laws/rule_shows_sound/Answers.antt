use Rattle.ring_rule.proofs.Schedules.{rule_shows}
use Rattle.ring_rule.proofs.laws.rule_shows_sound.Goals as goal

pub returns : goal.returns
returns c = rule_shows
