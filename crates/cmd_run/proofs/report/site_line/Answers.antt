use Rattle.std.proofs.Common.{◌≡◌, ◌∙◌, sym, ap, append_assoc, string_bytes}
use Rattle.cmd_run.specs.Report.{site_line}
use Rattle.site_agent.proofs.Results.{if_ok}
use Rattle.cmd_run.proofs.report.site_line.Goals as goal

pub returns-in-Finished : goal.returns-in-Finished
returns-in-Finished c =
    if_ok c.format.result _ (λ line. string_bytes line ≡ site_line c.args.site.now c.args.end.now)
    (λ line h. h ∙ (simp append_assoc) ∙ ap (site_line c.args.site.now) (sym c.in-Finished.is)) c.format.ensures.ok

pub returns-in-Left : goal.returns-in-Left
returns-in-Left c =
    if_ok c.format-in-Left.result _ (λ line. string_bytes line ≡ site_line c.args.site.now c.args.end.now)
    (λ line h. h ∙ (simp (append_assoc, c.call_word-call.ensures)) ∙ ap (site_line c.args.site.now) (sym c.in-Left.is))
    c.format-in-Left.ensures.ok
