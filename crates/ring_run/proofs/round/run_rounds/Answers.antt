use Rattle.std.proofs.Common.{map, sym, ◌∙◌, arith}
use Rattle.pr_rack.specs.Told.{RackTells, told}
use Rattle.ring_run.proofs.Rounds.{some_going, some_on, stay_then}
use Rattle.ring_run.proofs.round.run_rounds.Goals as goal

pub loop-pace-preserved : goal.loop-pace-preserved
loop-pace-preserved g c =
    let tell : g.row.R.Denot → RackTells = told g.R.Rack in
    let it = c.loop-pace.invariant in
    let seats = c.round.auto.seats in
    record {
      feed = c.round.ensures.feed;
      ring = c.round.ensures.ring ∙ it.ring;
      ends = c.round.ensures.ends;
      some = some_on (map tell c.loop-pace.racks) (map tell c.round.new.racks) c.loop-pace.writer.end c.round.new.writer.end c.loop-pace.seats c.round.new.seats (omega (arith, seats)) it.some it.ends c.round.ensures.ends c.round.ensures.ring c.round.ensures.seated;
      seated = stay_then (map tell c.args.racks.now) (map tell c.loop-pace.racks) (map tell c.round.new.racks) c.args.seats.now c.loop-pace.seats c.round.new.seats c.args.writer.now.end c.loop-pace.writer.end (omega (arith, seats)) c.requires.ends it.ends it.ring
          it.seated c.round.ensures.seated;
    }

pub loop-pace-smaller : goal.loop-pace-smaller
loop-pace-smaller g c = c.round.ensures.falls (some_going c.loop-pace.seats (sym c.are_going.ensures ∙ c.loop-pace-test.true))
