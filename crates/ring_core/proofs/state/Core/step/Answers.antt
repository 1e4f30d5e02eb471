use Rattle.ring_core.specs.declared.event.Event.TheVariants.{Look, Fill, Publish, See, Open, Close, Advance, Leave}
use Rattle.ring_core.proofs.Stepped.{steps_sound}
use Rattle.ring_core.proofs.state.Core.step.Goals as goal

pub returns-in-Look-clause-sound : goal.returns-in-Look-clause-sound
returns-in-Look-clause-sound c = steps_sound c.args.self.now (Look c.in-Look.reader) c.look.result c.look.new.self c.requires c.look.ensures

pub returns-in-Fill-clause-sound : goal.returns-in-Fill-clause-sound
returns-in-Fill-clause-sound c = steps_sound c.args.self.now (Fill c.in-Fill.reader) c.fill.result c.fill.new.self c.requires c.fill.ensures

pub returns-in-Publish-clause-sound : goal.returns-in-Publish-clause-sound
returns-in-Publish-clause-sound c = steps_sound c.args.self.now Publish c.publish.result c.publish.new.self c.requires c.publish.ensures

pub returns-in-See-clause-sound : goal.returns-in-See-clause-sound
returns-in-See-clause-sound c = steps_sound c.args.self.now (See c.in-See.reader) c.see.result c.see.new.self c.requires c.see.ensures

pub returns-in-Open-clause-sound : goal.returns-in-Open-clause-sound
returns-in-Open-clause-sound c = steps_sound c.args.self.now (Open c.in-Open.reader) c.open.result c.open.new.self c.requires c.open.ensures

pub returns-in-Close-clause-sound : goal.returns-in-Close-clause-sound
returns-in-Close-clause-sound c = steps_sound c.args.self.now (Close c.in-Close.reader) c.close.result c.close.new.self c.requires c.close.ensures

pub returns-in-Leave-clause-sound : goal.returns-in-Leave-clause-sound
returns-in-Leave-clause-sound c = steps_sound c.args.self.now (Leave c.in-Leave.reader) c.leave.result c.leave.new.self c.requires c.leave.ensures

pub returns-in_ok-advance-in-Advance-clause-sound : goal.returns-in_ok-advance-in-Advance-clause-sound
returns-in_ok-advance-in-Advance-clause-sound c = steps_sound c.args.self.now (Advance c.in-Advance.reader) c.in_ok-advance-in-Advance.field-0 c.advance.new.self c.requires c.in_ok-advance-in-Advance.ensures.ok
