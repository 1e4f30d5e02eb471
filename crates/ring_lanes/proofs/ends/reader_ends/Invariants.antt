use Rattle.std.proofs.Common.{◌≡◌, ◌≤◌, ◌++◌, length, map}
use Rattle.std.specs.Prelude.{vec_len, vec_capacity}
use Rattle.ring_lanes.specs.Reader.{reader_state}
use Rattle.ring_lanes.proofs.ends.reader_ends.Given as goal

abbrev pub invariant-loop-seat : goal.invariant-loop-seat
invariant-loop-seat g l = record {
  next : (goal.iterator-loop-seat g).can_next l.seat-iterator;
  ends : (goal.iterator-loop-seat g).is_finite l.seat-iterator;
  split : l.fn.seats.items ≡ l.yielded ++ l.seat-iterator.rest.items;
  made : l.list.items ≡ map reader_state l.yielded;
  count : l.number ≡ length l.yielded;
  len : vec_len l.list ≡ l.number;
  room : length l.fn.seats.items ≤ vec_capacity l.list;
}
