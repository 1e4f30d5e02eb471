use Rattle.std.proofs.Common.{◌+◌, ◌∙◌, length, take, ap, sym, arith}
use Rattle.std.proofs.lemmas.List.{take_all}
use Rattle.ring_run.specs.Served.{plates_in}
use Rattle.ring_run.proofs.Kept.{plates_more}
use Rattle.ring_run.proofs.ends.plate_count.Goals as goal

pub loop-group-preserved : goal.loop-group-preserved
loop-group-preserved c =
    let most = c.loop-group.invariant.1 in
    let few = c.printed-count.ensures.most in (
      ap (λ n. n + c.printed-count.result) c.loop-group.invariant.0
          ∙ ap (λ n. length (plates_in (take c.loop-group.group-index c.groups-groups.result.now) c.args.site) + n) c.printed-count.ensures.count
          ∙ sym (plates_more c.groups-groups.result.now c.args.site c.loop-group.group-index _ c.loop-group-test.true),
      omega (arith, most, few),
    )

pub returns : goal.returns
returns c =
    c.loop-group.invariant.0
    ∙ ap (λ groups. length (plates_in groups c.args.site)) (take_all c.loop-group.group-index c.groups-groups.result.now c.loop-group-test.false ∙ c.groups-groups.ensures.groups)
