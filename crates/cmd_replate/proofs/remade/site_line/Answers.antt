use Rattle.std.proofs.Common.{◌≡◌, ◌∙◌, sym, ap, append_assoc, string_bytes}
use Rattle.cmd_replate.specs.Remade.{remade_line}
use Rattle.site_agent.proofs.Results.{if_ok}
use Rattle.cmd_replate.proofs.remade.site_line.Goals as goal

pub returns-in-Done : goal.returns-in-Done
returns-in-Done c =
    if_ok c.format.result _ (λ line. string_bytes line ≡ remade_line c.args.site.now c.args.end.now)
    (λ line h. h ∙ (simp append_assoc) ∙ ap (remade_line c.args.site.now) (sym c.in-Done.is)) c.format.ensures.ok

pub returns-in-Left : goal.returns-in-Left
returns-in-Left c =
    if_ok c.format-in-Left.result _ (λ line. string_bytes line ≡ remade_line c.args.site.now c.args.end.now)
    (λ line h. h ∙ (simp append_assoc) ∙ ap (remade_line c.args.site.now) (sym c.in-Left.is)) c.format-in-Left.ensures.ok
