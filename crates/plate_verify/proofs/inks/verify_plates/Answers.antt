use Rattle.std.proofs.Common.{◌≤◌, length, Ok, Err, Some, arith}
use Rattle.plan_rows.specs.Inks.{inks_of}
use Rattle.plate_verify.specs.Verifying.{shelf_told}
use Rattle.plate_verify.proofs.Stepping.{inks_more, inks_stop, inks_all}
use Rattle.plate_verify.proofs.inks.verify_plates.Goals as goal

pub loop-i-preserved : goal.loop-i-preserved
loop-i-preserved g c = λ rows made.
    let each = rw c.in-Ok-None.field-0-is at c.in-Ok-None.ensures in
    inks_more c.args.edition.now.plan.now rows c.args.edition.now.out.now c.args.group.now c.loop-i.i c.ink_at-ink.result (shelf_told g.H.Shelf c.args.shelf.now) (shelf_told g.H.Shelf c.loop-i.shelf) (shelf_told g.H.Shelf c.verify_at_sites.new.shelf)
    c.ink_at-ink.ensures (c.loop-i.invariant rows made) (each rows (made.each c.loop-i.i c.ink_at-ink.result c.plate_at.result.now c.ink_at-ink.ensures c.plate_at.ensures))

pub returns-in-Ok-Some : goal.returns-in-Ok-Some
returns-in-Ok-Some g c = λ rows made.
    let each = rw c.in-Ok-Some.field-0-is at c.in-Ok-Some.ensures in
    inks_stop c.args.edition.now.plan.now rows c.args.edition.now.out.now c.args.group.now c.loop-i.i c.ink_at-ink.result (shelf_told g.H.Shelf c.args.shelf.now) (shelf_told g.H.Shelf c.loop-i.shelf) (shelf_told g.H.Shelf c.verify_at_sites.new.shelf)
    (Ok (Some c.in-Ok-Some.found)) c.ink_at-ink.ensures (c.loop-i.invariant rows made) (each rows (made.each c.loop-i.i c.ink_at-ink.result c.plate_at.result.now c.ink_at-ink.ensures c.plate_at.ensures)) tt

pub returns-in-Err : goal.returns-in-Err
returns-in-Err g c = λ rows made.
    inks_stop c.args.edition.now.plan.now rows c.args.edition.now.out.now c.args.group.now c.loop-i.i c.ink_at-ink.result (shelf_told g.H.Shelf c.args.shelf.now) (shelf_told g.H.Shelf c.loop-i.shelf) (shelf_told g.H.Shelf c.verify_at_sites.new.shelf)
    (Err c.in-Err.fault) c.ink_at-ink.ensures (c.loop-i.invariant rows made) (c.in-Err.ensures rows (made.each c.loop-i.i c.ink_at-ink.result c.plate_at.result.now c.ink_at-ink.ensures c.plate_at.ensures)) tt

pub returns : goal.returns
returns g c = λ rows made.
    let past : length (inks_of c.args.group.now) ≤ c.loop-i.i = omega (arith, c.ink_number-i-end.ensures.count) in
    inks_all c.args.edition.now.plan.now rows c.args.edition.now.out.now c.args.group.now c.loop-i.i (shelf_told g.H.Shelf c.args.shelf.now) (shelf_told g.H.Shelf c.loop-i.shelf) past (c.loop-i.invariant rows made)
