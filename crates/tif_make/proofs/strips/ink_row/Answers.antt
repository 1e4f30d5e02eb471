use Rattle.tif_make.proofs.Growing.{gathers-more, gathers-none}
use Rattle.tif_make.proofs.strips.ink_row.Goals as goal

pub loop-x-init : goal.loop-x-init
loop-x-init c = gathers-none c.args.ink c.args.row.now _ c.new-samples.ensures.items

pub loop-x-preserved : goal.loop-x-preserved
loop-x-preserved c = gathers-more c.args.ink c.args.row.now c.loop-x.x c.loop-x.samples.items c.push.new.self.items c.loop-x.invariant c.in_ok-push.ensures.items
