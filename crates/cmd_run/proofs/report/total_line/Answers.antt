use Rattle.std.proofs.Common.{◌≡◌, ◌∙◌, append_assoc, string_bytes}
use Rattle.cmd_run.specs.Report.{total_line}
use Rattle.site_agent.proofs.Results.{if_ok}
use Rattle.cmd_run.proofs.report.total_line.Goals as goal

pub returns : goal.returns
returns c =
    if_ok c.format.result _ (λ line. string_bytes line ≡ total_line c.args.rows c.args.sites)
    (λ line h. h ∙ (simp append_assoc)) c.format.ensures.ok
