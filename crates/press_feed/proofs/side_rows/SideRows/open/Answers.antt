use Rattle.std.proofs.Common.{ap}
use Rattle.press_feed.specs.HeldRows.{HeldData}
use Rattle.press_feed.proofs.SideRowsLemmas.{blank_room, blank_sides}
use Rattle.press_feed.proofs.side_rows.SideRows.open.Goals as goal

pub invariant_of-result : goal.invariant_of-result
invariant_of-result c = record {
  job_is = ap {A = HeldData} (λ h. h.job) c.in_ok-held.ensures;
  each = blank_sides c.args.job.now c.args.side c.args.room c.args.inks.now c.in_ok-inks.inks.items c.in_ok-inks.ensures;
}

pub returns-clause-room : goal.returns-clause-room
returns-clause-room c = blank_room c.args.job.now c.args.side c.args.room c.args.inks.now c.in_ok-inks.inks.items c.in_ok-inks.ensures
