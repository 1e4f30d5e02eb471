use Rattle.std.proofs.Common.{◌≡◌, ◌≤◌, map}
use Rattle.std.specs.Prelude.{vec_len, vec_capacity}
use Rattle.ring_rule.specs.Views.{counted_writer, up_to}
use Rattle.ring_rule.specs.Marks.{new_reader_mark}
use Rattle.ring_rule.specs.Key.{key_ring}
use Rattle.ring_rule.specs.Seats.{seated_writer}
use Rattle.ring_rule.proofs.seats.cut_seats.Given as goal

abbrev pub invariant-loop-number : goal.invariant-loop-number
invariant-loop-number g l = record {
  table : l.seat.table_id ≡ l.fn.seat.table_id;
  me : l.seat.me ≡ seated_writer (counted_writer (key_ring g.D.Deal.rows g.D.Deal.size l.shared.key) l.number);
  dealt : l.list.items ≡ map (new_reader_mark l.fn.seat.table_id (key_ring g.D.Deal.rows g.D.Deal.size l.shared.key)) (up_to l.number);
  count : vec_len l.list ≡ l.number;
  room : l.readers ≤ vec_capacity l.list;
}
