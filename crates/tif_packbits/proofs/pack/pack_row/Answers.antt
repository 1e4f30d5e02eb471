use Rattle.tif_packbits.proofs.Rows.{IsPacked-none, IsPacked-room, IsPacked-more, IsPacked-smaller, IsPacked-all}
use Rattle.tif_packbits.proofs.pack.pack_row.Goals as goal

pub loop-from-init : goal.loop-from-init
loop-from-init c = IsPacked-none _ _

pub write_front-taken-requires-clause-room : goal.write_front-taken-requires-clause-room
write_front-taken-requires-clause-room c = IsPacked-room _ _ _ _ _ c.loop-from.invariant c.requires

pub loop-from-smaller : goal.loop-from-smaller
loop-from-smaller c = IsPacked-smaller _ _ _ _ _ _ c.loop-from-test.true c.write_front-taken.ensures

pub loop-from-preserved : goal.loop-from-preserved
loop-from-preserved c = IsPacked-more _ _ _ _ _ _ _ _ c.loop-from.invariant c.requires c.write_front-taken.ensures

pub returns-clause-len : goal.returns-clause-len
returns-clause-len c = (IsPacked-all _ _ _ _ _ c.loop-from.invariant c.loop-from-test.false c.requires).0

pub returns-clause-packed : goal.returns-clause-packed
returns-clause-packed c = (IsPacked-all _ _ _ _ _ c.loop-from.invariant c.loop-from-test.false c.requires).1
