use Rattle.plate_bytes.proofs.Counts.{count-fits, strip-there}
use Rattle.plate_bytes.proofs.strips.PlateStrips.count.Goals as goal

pub add-requires-clause-strip : goal.add-requires-clause-strip
add-requires-clause-strip c = rw (c.rows_per_strip.ensures.rows) (strip-there _ c.self.invariant)

pub add-requires-clause-fits : goal.add-requires-clause-fits
add-requires-clause-fits c = rw (c.rows_per_strip.ensures.rows) (count-fits _ c.args.bytes c.self.invariant c.requires)
