use Rattle.std.proofs.Common.{arith}
use Rattle.job_gen.specs.Text.{site_value}
use Rattle.job_gen.proofs.Listed.{values_more}
use Rattle.job_gen.proofs.layout.sites.Goals as goal

pub loop-i-preserved : goal.loop-i-preserved
loop-i-preserved c =
    values_more site_value 0 c.loop-i.i c.loop-i.i c.loop-i.values.items c.push.new.self.items _ (omega arith)
    c.loop-i.invariant c.in_ok-push.ensures.items c.in_ok-site.ensures
