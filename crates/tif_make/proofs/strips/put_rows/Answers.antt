use Rattle.tif_make.proofs.Growing.{rows-more}
use Rattle.tif_make.specs.Strips.{stored_at}
use Rattle.tif_make.proofs.strips.put_rows.Goals as goal

pub loop-k-preserved : goal.loop-k-preserved
loop-k-preserved c =
    rows-more (stored_at c.args.form.now c.args.rows.now c.args.plane) c.args.from c.loop-k.k c.args.stored.now.items
    c.loop-k.stored.items c.put_row.new.stored.items c.loop-k.invariant c.in_ok-put_row.ensures
