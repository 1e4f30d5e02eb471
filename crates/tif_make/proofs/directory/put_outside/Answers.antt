use Rattle.tif_make.proofs.Entries.{outside_more, values_within}
use Rattle.tif_make.proofs.directory.put_outside.Goals as goal

pub put_outside-requires : goal.put_outside-requires
put_outside-requires c = values_within c.args.fields.now c.loop-field.field-index _ c.loop-field-test.true c.requires

pub loop-field-preserved : goal.loop-field-preserved
loop-field-preserved c =
    outside_more c.args.order c.args.fields.now c.loop-field.field-index c.args.file.now.items c.loop-field.file.items
    c.put_outside.new.file.items _ c.loop-field-test.true c.loop-field.invariant c.in_ok-put_outside.ensures
