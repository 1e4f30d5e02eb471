use Rattle.std.proofs.Common.{◌+◌, arith}
use Rattle.serde_json.specs.Data.{string}
use Rattle.job_gen.specs.Plan.{page_name}
use Rattle.job_gen.proofs.Listed.{values_more}
use Rattle.std.proofs.Common.{ap, ◌∙◌}
use Rattle.job_gen.proofs.layout.page_names.Goals as goal

pub loop-k-preserved : goal.loop-k-preserved
loop-k-preserved c =
    values_more (λ j. string (page_name j)) 1 c.loop-k.k (c.loop-k.k + 1) c.loop-k.values.items c.push.new.self.items _ (omega arith) c.loop-k.invariant
    c.in_ok-push.ensures.items (c.from.ensures ∙ ap string c.in_ok-page_name.ensures)
