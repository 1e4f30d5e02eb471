use Rattle.std.proofs.Common.{refl, sym, ap, subst, ◌∙◌}
use Rattle.ring_rule.specs.declared.view.RingNumbers.{RingNumbers}
use Rattle.ring_lanes.specs.Writer.{WriterState}
use Rattle.pr_rack.specs.Told.{RackTells, told}
use Rattle.ring_turns.specs.Feeding.{Fed, HasRows, MayFeed}
use Rattle.ring_run.specs.Round.{AreTold, KnowsAll}
use Rattle.ring_run.proofs.Rounds.{feed_noted, may_turn, round_leaves, seats_at}
use Rattle.ring_run.proofs.round.round.Goals as goal

pub tell_writer-requires : goal.tell_writer-requires
tell_writer-requires g c = record { table = seats_at c.args.writer.now.end c.args.writer.now.end c.args.seats.now c.args.seats.now c.requires.ends refl refl }

pub tell_readers-requires : goal.tell_readers-requires
tell_readers-requires g c = record {
  table = seats_at c.args.writer.now.end c.tell_writer.new.writer c.args.seats.now c.tell_writer.new.seats c.requires.ends c.tell_writer.ensures.seats (ap (λ (w : WriterState). w.table) c.tell_writer.ensures.same);
}

pub turn_all-requires-clause-may_one : goal.turn_all-requires-clause-may_one
turn_all-requires-clause-may_one g c κs within = (
  subst (λ (w : WriterState). MayFeed (g.F.RowFeed.left c.args.writer.now.feed.now) w) (sym c.tell_readers.ensures.same)
      (feed_noted (g.F.RowFeed.left c.args.writer.now.feed.now) c.args.writer.now.end c.tell_writer.new.writer c.tell_writer.ensures.same c.requires.feed),
  record { shared = c.type_bounds.sync-T.shared },
)

pub turn_all-requires-clause-may : goal.turn_all-requires-clause-may
turn_all-requires-clause-may g c κs within =
    let tell : g.row.R.Denot → RackTells = told g.R.Rack in
    may_turn tell c.tell_writer.new.writer c.args.seats.now c.tell_readers.new.seats c.args.racks.now (c.tell_readers.auto.seats ∙ c.tell_writer.auto.seats)
    (subst (λ (s : _). AreTold c.tell_writer.new.writer s c.tell_readers.new.seats) c.tell_writer.ensures.seats c.tell_readers.ensures.told) c.requires.some

pub returns : goal.returns
returns g c =
    let tell : g.row.R.Denot → RackTells = told g.R.Rack in
    let w = c.args.writer.now.end in
    let noted = c.tell_writer.new.writer in
    let seats-are = c.tell_writer.ensures.seats in
    let leaves = round_leaves tell (g.F.RowFeed.left c.turn_all.new.one.feed.now) w noted c.turn_all.new.one.end c.args.seats.now c.tell_readers.new.seats c.turn_all.new.all c.args.racks.now c.turn_all.new.others c.requires.ends c.requires.places c.tell_writer.ensures.same
    (subst (λ (s : _). KnowsAll noted.known s) seats-are c.tell_writer.ensures.knows) (c.tell_readers.auto.seats ∙ c.tell_writer.auto.seats)
    (subst (λ (s : _). AreTold noted s c.tell_readers.new.seats) seats-are c.tell_readers.ensures.told) c.turn_all.auto.all c.turn_all.ensures.turned
    (subst (λ (w' : WriterState). Fed (g.F.RowFeed.left c.turn_all.new.one.feed.now) w' c.turn_all.new.one.end) c.tell_readers.ensures.same c.turn_all.ensures.one) in
    record {
      feed = record { feed = c.turn_all.ensures.one.feed; rows = subst (λ (r : RingNumbers). HasRows r) (sym leaves.ring) c.requires.feed.rows };
      ring = leaves.ring;
      ends = leaves.ends;
      seated = leaves.seated;
      falls = leaves.falls;
    }
