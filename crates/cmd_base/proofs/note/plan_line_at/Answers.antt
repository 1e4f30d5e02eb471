use Rattle.std.proofs.Common.{◌≡◌, ◌∙◌, append_assoc, string_bytes}
use Rattle.cmd_base.specs.Line.{plan_line_at}
use Rattle.plan_rows.proofs.PathLemmas.{if_ok}
use Rattle.cmd_base.proofs.note.plan_line_at.Goals as goal

pub returns : goal.returns
returns c =
    if_ok c.format.result _ (λ line. string_bytes line ≡ plan_line_at c.args.whose c.args.path.now c.args.kind.now) c.format.ensures.ok
    (λ line h. h ∙ (simp (append_assoc, c.job_word-word.ensures)))
