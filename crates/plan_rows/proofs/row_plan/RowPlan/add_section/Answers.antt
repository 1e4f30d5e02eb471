use Rattle.std.proofs.Common.{◌≡◌, ◌-◌, ◌/◌, ◌∙◌, ap, arith}
use Rattle.std.specs.List.{flat_map, range_with_len}
use Rattle.plan_rows.specs.Groups.{pair_groups, section_groups}
use Rattle.plan_rows.specs.Rows.{added}
use Rattle.plan_rows.proofs.AddLemmas.{starts_at, goes_on, pairs_more}
use Rattle.plan_rows.proofs.row_plan.RowPlan.add_section.Goals as goal

pub loop-pair-init : goal.loop-pair-init
loop-pair-init c = record { so_far = starts_at c.self.inside.total _ c.args.self.now c.self.invariant c.self.view_is; count = omega arith }

pub loop-pair-preserved : goal.loop-pair-preserved
loop-pair-preserved c =
    let first = c.loop-pair.auto.pair in
    let before = c.loop-pair.invariant.count in
    let more = c.in_ok-add_pair.ensures.count in
    record {
      so_far = goes_on c.args.self.now c.loop-pair.self c.add_pair.new.self _ _ _ c.loop-pair.invariant.so_far c.in_ok-add_pair.ensures.groups
          (pairs_more (pair_groups c.args.plan.now c.args.section) c.loop-pair.pair first);
      count = omega arith;
    }

pub returns-clause-groups : goal.returns-clause-groups
unfolding section_groups
returns-clause-groups c =
    let least = c.pages_in.ensures.within.least in
    let end : c.loop-pair.pair - 1 ≡ c.pages_in.result / 2 = omega arith in
    c.loop-pair.invariant.so_far
    ∙ ap (λ n. added c.args.self.now (flat_map (pair_groups c.args.plan.now c.args.section) (range_with_len 1 n))) (end ∙ ap (λ n. n / 2) c.pages_in.ensures.count)
