use Rattle.std.proofs.Common.{◌≡◌, ◌∙◌, append_assoc, string_bytes}
use Rattle.cmd_base.specs.Line.{file_line}
use Rattle.plan_rows.proofs.PathLemmas.{if_ok}
use Rattle.cmd_base.proofs.note.file_line.Goals as goal

pub returns : goal.returns
returns c =
    if_ok c.format.result _ (λ line. string_bytes line ≡ file_line c.args.whose c.args.fault.now) c.format.ensures.ok
    (λ line h. h ∙ (simp (append_assoc, c.text-kind.ensures, c.job_word-word.ensures)))
