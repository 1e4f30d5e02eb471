use Rattle.std.proofs.Common.{arith}
use Rattle.plan_rows.specs.Groups.{section_groups}
use Rattle.plan_rows.proofs.AddLemmas.{goes_on, pieces_more}
use Rattle.plan_rows.proofs.row_plan.RowPlan.of.Goals as goal

pub loop-section-preserved : goal.loop-section-preserved
loop-section-preserved c =
    let before = c.loop-section.invariant.count in
    let more = c.in_ok-add_section.ensures.count in
    record {
      so_far = goes_on c.empty-rows.result c.loop-section.rows c.add_section.new.self _ _ _ c.loop-section.invariant.so_far c.in_ok-add_section.ensures.groups
          (pieces_more (section_groups c.args.plan.now) 0 c.loop-section.section c.loop-section.section (omega arith));
      count = omega arith;
    }
