use Rattle.std.proofs.Common.{List, ◌++◌, ap, ◌∙◌}
use Rattle.ring_rule.specs.Marks.{ReaderMark}
use Rattle.ring_lanes.proofs.Keeps.{next_seat}
use Rattle.ring_lanes.proofs.ends.reader_ends.Goals as goal

pub new-requires : goal.new-requires
new-requires g c =
    let l = c.loop-seat in
    let split = ◌∙◌ {A = List ReaderMark} l.invariant.split (ap (λ rest. l.yielded ++ rest) c.in-Some.ensures.steps.0) in
    next_seat c.args.numbers c.args.seats.items l.yielded c.next.new.self.rest.items c.in-Some.seat l.number c.requires.seats split l.invariant.count
