use Rattle.std.proofs.Common.{◌+◌, arith}
use Rattle.job_gen.specs.Text.{section_page_value}
use Rattle.job_gen.proofs.Listed.{values_more}
use Rattle.job_gen.proofs.layout.section_pages.Goals as goal

pub loop-k-preserved : goal.loop-k-preserved
loop-k-preserved c =
    values_more (section_page_value c.args.pages) 1 c.loop-k.k (c.loop-k.k + 1) c.loop-k.values.items c.push.new.self.items _ (omega arith)
    c.loop-k.invariant c.in_ok-push.ensures.items c.in_ok-section_page.ensures
