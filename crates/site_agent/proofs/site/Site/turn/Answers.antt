use Rattle.std.proofs.Common.{ap, ◌∙◌, arith}
use Rattle.pr_rack.specs.Told.{told}
use Rattle.site_agent.specs.Draw.{stage}
use Rattle.site_agent.proofs.Turning.{goes-awaiting, goes-leaves, goes-on, goes-stops}
use Rattle.site_agent.proofs.site.Site.turn.Goals as goal

pub loop-self-preserved-in-Ok-Done : goal.loop-self-preserved-in-Ok-Done
loop-self-preserved-in-Ok-Done g c = record {
  goes = goes-on (stage c.args.self.now c.args.reader.now (told g.R.Rack c.args.rack.now)) (stage c.loop-self.self c.loop-self.reader (told g.R.Rack c.loop-self.rack)) (stage c.draw.new.self c.draw.new.reader (told g.R.Rack c.draw.new.rack)) c.loop-self.waits (omega arith) c.loop-self.invariant.goes (rw c.in-Ok-Done.field-0-is at c.in-Ok-Done.ensures);
  few = c.loop-self.invariant.few;
}

pub returns-in-Ok-Left-clause-left_stands : goal.returns-in-Ok-Left-clause-left_stands
returns-in-Ok-Left-clause-left_stands g c =
    λ before going. goes-leaves (stage c.args.self.now c.args.reader.now (told g.R.Rack c.args.rack.now)) (stage c.loop-self.self c.loop-self.reader (told g.R.Rack c.loop-self.rack)) (stage c.draw.new.self c.draw.new.reader (told g.R.Rack c.draw.new.rack)) c.loop-self.waits c.in-Ok-Left.cause before c.loop-self.invariant.goes (rw c.in-Ok-Left.field-0-is at c.in-Ok-Left.ensures) going

pub returns-in-Ok-Memory-clause-memory_stands : goal.returns-in-Ok-Memory-clause-memory_stands
returns-in-Ok-Memory-clause-memory_stands g c =
    λ n last before going. goes-stops (stage c.args.self.now c.args.reader.now (told g.R.Rack c.args.rack.now)) (stage c.loop-self.self c.loop-self.reader (told g.R.Rack c.loop-self.rack)) (stage c.draw.new.self c.draw.new.reader (told g.R.Rack c.draw.new.rack)) c.loop-self.waits n before (last ∙ ap (λ r. r.cursor) c.leave-in-Ok-Memory.ensures) c.loop-self.invariant.goes (rw c.in-Ok-Memory.field-0-is at c.in-Ok-Memory.ensures) going

pub returns-then-waits-patience-clause-stands : goal.returns-then-waits-patience-clause-stands
returns-then-waits-patience-clause-stands g c =
    λ before going. (goes-awaiting (stage c.args.self.now c.args.reader.now (told g.R.Rack c.args.rack.now)) (stage c.loop-self.self c.loop-self.reader (told g.R.Rack c.loop-self.rack)) (stage c.draw.new.self c.draw.new.reader (told g.R.Rack c.draw.new.rack)) c.loop-self.waits c.in-Err.field-0 c.loop-self.invariant.goes c.in-Err.ensures).stands before going

pub loop-self-preserved : goal.loop-self-preserved
loop-self-preserved g c = record {
  goes = goes-awaiting (stage c.args.self.now c.args.reader.now (told g.R.Rack c.args.rack.now)) (stage c.loop-self.self c.loop-self.reader (told g.R.Rack c.loop-self.rack)) (stage c.draw.new.self c.draw.new.reader (told g.R.Rack c.draw.new.rack)) c.loop-self.waits c.in-Err.field-0 c.loop-self.invariant.goes c.in-Err.ensures;
  few = omega arith;
}
