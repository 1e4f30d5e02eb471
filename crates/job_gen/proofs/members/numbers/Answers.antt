use Rattle.std.proofs.Common.{map, ap, ◌∙◌}
use Rattle.std.proofs.lemmas.List.{take_all}
use Rattle.job_gen.specs.Text.{whole}
use Rattle.job_gen.proofs.Listed.{list_is, numbers_more}
use Rattle.job_gen.proofs.members.numbers.Goals as goal

pub loop-n-preserved : goal.loop-n-preserved
loop-n-preserved c =
    numbers_more c.args.all.now c.loop-n.n-index _ _ _ _ c.loop-n-test.true c.loop-n.invariant c.in_ok-push.ensures.items c.from.ensures

pub returns : goal.returns
returns c =
    list_is _ c.loop-n.values
    (c.loop-n.invariant ∙ ap (map whole) (take_all c.loop-n.n-index c.args.all.now c.loop-n-test.false))
