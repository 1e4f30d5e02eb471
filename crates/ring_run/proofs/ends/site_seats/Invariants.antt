use Rattle.std.proofs.Common.{◌≡◌, ◌++◌}
use Rattle.ring_run.specs.Served.{site_seats}
use Rattle.ring_run.proofs.ends.site_seats.Given as goal

abbrev pub invariant-loop-reader : goal.invariant-loop-reader
invariant-loop-reader g l = (l.seats.items ≡ site_seats l.plan l.out l.yielded) × (l.yielded ++ l.reader-iterator.rest.items ≡ l.fn.readers.items)
