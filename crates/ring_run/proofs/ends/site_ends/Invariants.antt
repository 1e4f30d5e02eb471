use Rattle.std.proofs.Common.{◌≡◌, ◌++◌, Some, map}
use Rattle.ring_run.specs.Served.{ends_in}
use Rattle.ring_run.proofs.ends.site_ends.Given as goal

abbrev pub invariant-loop-seat : goal.invariant-loop-seat
invariant-loop-seat g l = (map Some l.ends.items ≡ ends_in l.plan l.yielded) × (l.yielded ++ l.seat-iterator.rest.items ≡ l.fn.seats.items)
