use Rattle.std.proofs.Common.{◌+◌, ◌-◌, ◌<◌}
use Rattle.pr_rack.specs.Told.{told}
use Rattle.site_agent.specs.Draw.{Goes, stage}
use Rattle.site_agent.proofs.site.Site.turn.Given as goal

abbrev pub invariant-loop-self : goal.invariant-loop-self
invariant-loop-self g l = record {
  goes : Goes (stage l.fn.self l.fn.reader (told g.R.Rack l.fn.rack))
      (stage l.self l.reader (told g.R.Rack l.rack)) l.waits;
  few : l.waits < l.patience;
}

abbrev pub decreases-loop-self : goal.decreases-loop-self
decreases-loop-self g l = l.fn.reader.ring.total - l.reader.cursor + (l.patience - l.waits)
