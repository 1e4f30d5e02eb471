use Rattle.std.proofs.Common.{◌<◌, ap, subst}
use Rattle.ring_lanes.specs.Writer.{WriterState, writer_state}
use Rattle.ring_lanes.proofs.Looks.{end_loaded}
use Rattle.ring_lanes.proofs.writer.Writer.learn.Goals as goal

pub returns-clause-loaded : goal.returns-clause-loaded
returns-clause-loaded g c =
    let s = c.self.inside in
    let number = c.args.note.note.number in
    let then = writer_state c.meet-word.new.self in
    let now = c.args.self.now in
    let below : number < now.ring.readers = subst (λ (w : WriterState). number < w.ring.readers) c.self.view_is c.meet-word.ensures.number in
    end_loaded s.seat s.numbers s.head s.known.items now then number c.meet-word.result c.self.invariant c.self.view_is below (ap writer_state c.meet-word.ensures.view) c.meet-word.ensures.cursor
