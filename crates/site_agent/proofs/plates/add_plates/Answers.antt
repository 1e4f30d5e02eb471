use Rattle.std.proofs.Common.{arith}
use Rattle.pr_base.specs.declared.ink.Ink.TheVariants.{C}
use Rattle.site_agent.proofs.Making.{few-inks, place-is, plates-more}
use Rattle.site_agent.proofs.plates.add_plates.Goals as goal

pub plate-requires-clause-few : goal.plate-requires-clause-few
plate-requires-clause-few c = few-inks c.args.group.now c.inks-inks.result.now c.loop-i.i c.inks-inks.ensures (omega arith)

pub plate-requires-clause-place : goal.plate-requires-clause-place
plate-requires-clause-place c = place-is c.args.group.now c.inks-inks.result.now c.loop-i.i C c.inks-inks.ensures (omega arith)

pub loop-i-preserved : goal.loop-i-preserved
loop-i-preserved c =
    plates-more c.args.plan.now c.args.out.now c.args.site c.args.group.now c.inks-inks.result.now c.loop-i.i C c.in_ok-made.made c.args.plates.now.items c.loop-i.plates.items c.push.new.self.items
    (omega arith) c.in_ok-made.ensures c.loop-i.invariant c.in_ok-push.ensures.items
