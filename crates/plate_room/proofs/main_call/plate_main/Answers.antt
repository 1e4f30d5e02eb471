use Rattle.cmd_base.specs.Seen.{sink_seen}
use Rattle.plate_room.proofs.Told.{ends, told_writes}
use Rattle.plate_room.proofs.main_call.plate_main.Goals as goal

pub returns-in-Err-clause-ending : goal.returns-in-Err-clause-ending
returns-in-Err-clause-ending g c =
    ends g.R.Rack _ _ c.in-Err.stop c.tell.result c.in-Err.ensures.answered c.tell.ensures

pub returns-in-Err-clause-out_faults : goal.returns-in-Err-clause-out_faults
returns-in-Err-clause-out_faults g c =
    told_writes (sink_seen g.S.Sink c.args.out.now c.answer.new.out) _ c.in-Err.stop c.tell.result c.tell.ensures c.in-Err.ensures.writes
