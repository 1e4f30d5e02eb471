use Rattle.std.proofs.Common.{◌≤◌, arith}
use Rattle.tif_make.proofs.Entries.{no_field, place_behind_within, place_within, values_within, written_more, written_none}
use Rattle.tif_make.proofs.directory.put_entries.Goals as goal

pub loop-field-init : goal.loop-field-init
loop-field-init c = written_none c.args.order c.args.fields.now c.args.file.now.items

pub overflow_cast-place-in-loop-field : goal.overflow_cast-place-in-loop-field
overflow_cast-place-in-loop-field c =
    let h : c.loop-field.place ≤ 4294967295 = place_within _ _ _ _ _ _ c.requires c.loop-field.invariant in omega arith

pub put_entry-requires : goal.put_entry-requires
put_entry-requires c = values_within c.args.fields.now c.loop-field.field-index _ c.loop-field-test.true c.requires

pub outside_size-place-requires : goal.outside_size-place-requires
outside_size-place-requires c = values_within c.args.fields.now c.loop-field.field-index _ c.loop-field-test.true c.requires

pub overflow_add-place-in-loop-field : goal.overflow_add-place-in-loop-field
overflow_add-place-in-loop-field c =
    let h = place_behind_within c.args.order c.args.fields.now c.loop-field.field-index _ _ _ no_field c.loop-field-test.true c.requires
    c.loop-field.invariant in
    omega (arith, h, c.outside_size-place.ensures)

pub loop-field-preserved : goal.loop-field-preserved
loop-field-preserved c =
    written_more c.args.order c.args.fields.now c.loop-field.field-index c.loop-field.place c.outside_size-place.result
    c.args.file.now.items c.loop-field.file.items c.put_entry.new.file.items _ c.loop-field-test.true c.loop-field.invariant
    c.in_ok-put_entry.ensures c.outside_size-place.ensures
