use Rattle.std.proofs.Common.{◌≡◌, ◌<◌, ap, sym, ◌∙◌, arith}
use Rattle.ring_lanes.specs.Writer.{WriterState, IsFull}
use Rattle.ring_lanes.proofs.Rooms.{visited_full, visited_range, err_told}
use Rattle.ring_lanes.proofs.writer.Writer.room.Goals as goal

pub room_for-requires : goal.room_for-requires
room_for-requires g c =
    let l = c.loop-reader in
    let readers : c.self.inside.numbers.readers ≡ c.args.self.now.ring.readers = sym c.self.invariant.numbers.readers_is ∙ ap (λ (w : WriterState). w.ring.readers) c.self.view_is in
    let below = c.loop-reader-test.true in
    visited_range c.args.self.now l.self l.reader l.reader l.invariant (omega arith)

pub returns-in_err-room_for-clause-full : goal.returns-in_err-room_for-clause-full
returns-in_err-room_for-clause-full g c =
    let l = c.loop-reader in
    let e = c.in_err-room_for.ensures in
    let full = c.in_err-room_for.field-0.0 in
    let readers : c.self.inside.numbers.readers ≡ c.args.self.now.ring.readers = sym c.self.invariant.numbers.readers_is ∙ ap (λ (w : WriterState). w.ring.readers) c.self.view_is in
    let below : l.reader < c.args.self.now.ring.readers = let t = c.loop-reader-test.true in omega arith in
    let is = visited_full c.args.self.now l.self c.room_for.new.self l.reader full below l.invariant e.site e.full e.others e.same in
    err_told (IsFull c.args.self.now c.room_for.new.self) c.from_residual.result full is c.from_residual.ensures.1
