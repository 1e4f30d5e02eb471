use Rattle.std.proofs.Common.{ap}
use Rattle.ring_lanes.specs.Writer.{writer_state}
use Rattle.ring_lanes.proofs.Looks.{end_loaded}
use Rattle.ring_lanes.proofs.writer.Writer.look.Goals as goal

pub returns-clause-loaded : goal.returns-clause-loaded
returns-clause-loaded g c =
    let s = c.self.inside in
    let then = c.look-word.new.self in
    end_loaded s.seat s.numbers s.head s.known.items c.args.self.now (writer_state then) c.args.reader c.look-word.result c.self.invariant c.self.view_is c.requires (ap writer_state c.look-word.ensures.view) c.look-word.ensures.cursor
