use Rattle.std.proofs.Common.{◌≡◌, ◌<◌, length, sym, subst, arith}
use Rattle.std.specs.Prelude.{Some, slice_get}
use Rattle.std.proofs.lemmas.Option.{slice_get_within}
use Rattle.ring_lanes.specs.Writer.{WriterState}
use Rattle.ring_lanes.proofs.Keeps.{published_end}
use Rattle.ring_lanes.proofs.writer.Writer.publish.Goals as goal

pub invariant_of-self : goal.invariant_of-self
invariant_of-self g c =
    let s = c.self.inside in
    let i = c.self.invariant in
    let row : slice_get s.seat.view.ring.rows s.seat.view.head ≡ Some c.args.row.now = subst (λ (w : WriterState). slice_get w.ring.rows w.head ≡ Some c.args.row.now) (sym c.self.view_is) c.requires.row in
    let within : s.seat.view.head < length s.seat.view.ring.rows = slice_get_within s.seat.view.ring.rows s.seat.view.head c.args.row.now row in
    let below : s.head < s.numbers.total = let h = i.head_is in let n = i.numbers.rows_in in omega arith in
    published_end s.seat c.fill_lanes.new.seat c.store_head.new.self s.numbers s.head s.known.items c.args.self.now i c.self.view_is c.requires.pass.room below c.fill_lanes.ensures.same c.fill_lanes.ensures.count c.store_head.ensures
