use Rattle.std.proofs.Common.{◌≡◌, ◌++◌, ◌∙◌, List, ℕ, sym, ap, append_assoc, string_bytes}
use Rattle.cmd_run.specs.Drill.{dots_line, dots_lines, rows_in}
use Rattle.cmd_run.proofs.DrillDots.{lines_more}
use Rattle.cmd_run.proofs.dots.put_dots.Goals as goal

pub loop-site-preserved : goal.loop-site-preserved
loop-site-preserved c =
    let plan = c.args.job.now.plan in
    let rows = rows_in c.args.job.now in
    let line = dots_line plan rows c.loop-site.site in
    let told : c.as_str.result.now ≡ line = c.as_str.ensures.value ∙ c.in_ok-line.ensures in
    c.in_ok-push_str.ensures.bytes
    ∙ ap (λ (l : List ℕ). string_bytes c.loop-site.text ++ l) told
    ∙ ap (λ (l : List ℕ). l ++ line) c.loop-site.invariant
    ∙ append_assoc (string_bytes c.args.text.now) (dots_lines plan rows c.loop-site.site) line
    ∙ ap (λ (l : List ℕ). string_bytes c.args.text.now ++ l) (sym (lines_more plan rows c.loop-site.site))
