use Rattle.std.proofs.Common.{◌≡◌, ◌<◌, length, set, get_or, Some, sym, ap, ◌∙◌, refl, arith}
use Rattle.std.specs.Prelude.{slice_get}
use Rattle.std.proofs.lemmas.List.{set-get_or}
use Rattle.std.proofs.lemmas.Option.{slice_get-get_or, slice_get_within}
use Rattle.ring_rule.specs.Marks.{CursorNoteMark}
use Rattle.ring_lanes.specs.Writer.{WriterState}
use Rattle.ring_run.proofs.Rounds.{knows_more, more_again, more_same, noted_more}
use Rattle.ring_run.proofs.round.tell_writer.Given.{Over}
use Rattle.ring_run.proofs.round.tell_writer.Goals.{After-index-seats-i}
use Rattle.ring_run.proofs.round.tell_writer.Goals as goal

-- the seat whose note is handed is the one that stood there at first
there : (g : Over) (c : After-index-seats-i g) → slice_get c.args.seats.now c.loop-i.i ≡ Some (get_or c.loop-i.seats c.loop-i.i c.index-seats-i.result)
there g c =
    let less : c.loop-i.i < length c.loop-i.seats = omega arith in
    ap (λ (list : _). slice_get list c.loop-i.i) (sym c.loop-i.invariant.seats) ∙ slice_get-get_or c.loop-i.seats c.loop-i.i c.index-seats-i.result less

pub learn-requires : goal.learn-requires
learn-requires g c =
    let here = there g (goal.at.learn-requires g c).After-index-seats-i in
    ap (λ (m : CursorNoteMark). m.table) c.note-note.ensures.note ∙ c.requires.table c.loop-i.i (get_or c.loop-i.seats c.loop-i.i c.index-seats-i.result) here
    ∙ sym (ap (λ (w : WriterState). w.table) c.loop-i.invariant.same)

pub loop-i-init : goal.loop-i-init
loop-i-init g c = record {
  seats = refl;
  same = refl;
  more = more_same c.args.writer.now.known;
  knows = λ j x less. absurd (omega (arith, less));
}

pub loop-i-preserved : goal.loop-i-preserved
loop-i-preserved g c =
    let it = c.loop-i.invariant in
    let i = c.loop-i.i in
    let end = get_or c.loop-i.seats i c.index-seats-i.result in
    let here = there g (goal.at.loop-i-preserved g c).After-index-seats-i in
    let more = noted_more c.loop-i.writer c.learn.new.self c.note-note.result.note.number c.learn.ensures.loaded c.learn.ensures.others in
    record {
      seats = ap (λ (s : _). set c.loop-i.seats i s) c.note-note.ensures.same ∙ set-get_or c.loop-i.seats i c.index-seats-i.result ∙ it.seats;
      same = c.learn.ensures.same ∙ ap {A = WriterState} (λ w. record w { known = c.learn.new.self.known; loads = c.learn.new.self.loads }) it.same;
      more = more_again c.args.writer.now.known c.loop-i.writer.known c.learn.new.self.known it.more more;
      knows = knows_more c.loop-i.writer c.learn.new.self c.args.seats.now i end c.note-note.result here c.note-note.ensures.note c.learn.ensures.cursor c.learn.ensures.left more it.knows;
    }

pub returns-clause-knows : goal.returns-clause-knows
returns-clause-knows g c =
    λ i x there.
    let at = ap (λ (list : _). slice_get list i) (sym c.loop-i.invariant.seats) ∙ there in
    let within = slice_get_within c.loop-i.seats i x there in
    c.loop-i.invariant.knows i x (omega (arith, within)) at
