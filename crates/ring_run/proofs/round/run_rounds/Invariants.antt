use Rattle.std.proofs.Common.{◌≡◌}
use Rattle.pr_rack.specs.Told.{all_told}
use Rattle.ring_turns.specs.Feeding.{MayFeed}
use Rattle.ring_run.specs.Round.{AreEndsOf, StaySeated, to_do}
use Rattle.ring_run.specs.Served.{AreSomeSeated}
use Rattle.ring_run.proofs.round.run_rounds.Given as goal

abbrev pub invariant-loop-pace : goal.invariant-loop-pace
invariant-loop-pace g l = record {
  feed : MayFeed (g.F.RowFeed.left l.writer.feed.now) l.writer.end;
  ring : l.writer.end.ring ≡ l.initial.writer.end.ring;
  ends : AreEndsOf l.writer.end l.seats;
  some : AreSomeSeated (all_told g.R.Rack l.racks) l.seats;
  seated : StaySeated (all_told g.R.Rack l.initial.racks) (all_told g.R.Rack l.racks) l.initial.seats l.seats;
}

abbrev pub decreases-loop-pace : goal.decreases-loop-pace
decreases-loop-pace g l = to_do l.writer.end l.seats
