use Rattle.std.proofs.Common.{length, arith, ap}
use Rattle.std.proofs.lemmas.List.FromFn.{length-map-range_with_len}
use Rattle.tif_plate.specs.Tail.{begin_of, begins}
use Rattle.tif_plate.proofs.Puts.{Puts-nothing, Puts-then}
use Rattle.tif_plate.proofs.Length.{strip_table-none, strip_table-some, length-strip_table, length-numbers}
use Rattle.tif_plate.proofs.tail.put_table.Goals as goal

pub returns-then-counts-lt2-clause-at : goal.returns-then-counts-lt2-clause-at
returns-then-counts-lt2-clause-at c = omega (arith, ap length (strip_table-none (begins c.args.counts.now) c.args.counts.now c.if-counts-lt2.true))

pub returns-then-counts-lt2-clause-put : goal.returns-then-counts-lt2-clause-put
returns-then-counts-lt2-clause-put c =
    rw (strip_table-none (begins c.args.counts.now) c.args.counts.now c.if-counts-lt2.true) (Puts-nothing c.args.at c.args.into.now (omega (arith, c.requires.room)))

pub returns-clause-at : goal.returns-clause-at
returns-clause-at c =
    omega (arith, length-strip_table (begins c.args.counts.now) c.args.counts.now c.if-counts-lt2.false, length-map-range_with_len (begin_of c.args.counts.now) 0 (length c.args.counts.now))

pub returns-clause-put : goal.returns-clause-put
returns-clause-put c =
    rw (strip_table-some (begins c.args.counts.now) c.args.counts.now c.if-counts-lt2.false)
    (Puts-then _ _ _ _ _ _ _ c.put_offsets-at.ensures.put c.put_all.ensures.put
    (omega (arith, length-numbers (begins c.args.counts.now), length-map-range_with_len (begin_of c.args.counts.now) 0 (length c.args.counts.now))))
