use Rattle.std.proofs.Common.{string_bytes}
use Rattle.std.proofs.lemmas.Str.{IsUtf8-string_bytes}
use Rattle.job_gen.proofs.PlanText.{text_is}
use Rattle.job_gen.proofs.text.plan_text.Goals as goal

pub returns : goal.returns
returns c =
    text_is c.args.n c.site_count.result c.page_count.result c.size.result _ (string_bytes c.in_ok-to_string.field-0) (IsUtf8-string_bytes c.in_ok-to_string.field-0)
    c.site_count.ensures.count c.page_count.ensures.count c.size.ensures.times c.in_ok-plan.ensures c.in_ok-to_string.ensures.reads_back
