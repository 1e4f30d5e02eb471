use Rattle.std.proofs.Common.{◌≡◌, ◌<◌, ◌∙◌, ap, arith}
use Rattle.atomic_table.specs.Seated.{TableId}
use Rattle.ring_rule.specs.Views.{counted_writer}
use Rattle.ring_rule.specs.Key.{key_ring}
use Rattle.ring_rule.proofs.Seated.{may_split}
use Rattle.ring_rule.proofs.seats.cut_seats.Goals as goal

pub split_seat-cut-requires : goal.split_seat-cut-requires
split_seat-cut-requires g c =
    let seat = c.loop-number.seat in
    let ring = key_ring g.D.Deal.rows g.D.Deal.size c.args.shared.now.key in
    let table = c.loop-number.invariant.table ∙ c.requires.fresh.table in
    let same : seat.table_id.words ≡ c.args.shared.now.table_id.words = ap (λ (t : TableId). t.words) table in
    let words = c.requires.table.words in
    let readers = c.requires.table.readers_is in
    let below : c.loop-number.number < ring.readers = omega arith in
    (table, omega arith, may_split ring c.args.shared.now.table_id.slots seat.id seat.me (counted_writer ring c.loop-number.number) c.loop-number.invariant.me below)
