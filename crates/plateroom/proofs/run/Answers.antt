use Rattle.plateroom.proofs.run.Goals as goal

pub returns-clause-statuses : goal.returns-clause-statuses
returns-clause-statuses g c = c.plate_main_statuses.ensures _ _ c.plate_main.result c.plate_main.ensures.ending

pub returns-clause-refused_racks : goal.returns-clause-refused_racks
returns-clause-refused_racks g c = c.plate_main_refused_racks.ensures _ _ c.plate_main.result c.plate_main.ensures.ending

pub returns-clause-refused_out : goal.returns-clause-refused_out
returns-clause-refused_out g c = c.plate_main_refused_out.ensures _ _ c.plate_main.result c.plate_main.ensures.ending
