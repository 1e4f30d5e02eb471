use Rattle.std.proofs.Common.{refl}
use Rattle.cmd_run.specs.Drill.{PrintsDrill, drill_rules}
use Rattle.plate_room.proofs.Told.{answered}
use Rattle.cmd_base.specs.Seen.{shelf_seen}
use Rattle.cmd_base.proofs.Loads.{none_lengths}
use Rattle.cmd_base.proofs.Told.{told_answers}
use Rattle.plate_room.proofs.answer.answer.Goals as goal

pub returns-in-Some-Drill-clause-answered : goal.returns-in-Some-Drill-clause-answered
returns-in-Some-Drill-clause-answered g c =
    answered g.R.Rack _ _ c.print_drill.result (rw c.in-Some-Drill.field-0-is at c.in-Some-Drill.ensures.meant) (λ done. record { missed = refl; faults = refl })
    (none_lengths (shelf_seen g.H.Shelf c.args.shelf.now c.args.shelf.now) c.print_drill.result refl)
    (told_answers drill_rules (PrintsDrill _ _) _ _ _ c.print_drill.result (c.print_drill.ensures.told _))
