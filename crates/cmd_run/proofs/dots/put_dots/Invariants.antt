use Rattle.std.proofs.Common.{◌≡◌, ◌++◌, string_bytes}
use Rattle.cmd_run.specs.Drill.{dots_lines, rows_in}
use Rattle.cmd_run.proofs.dots.put_dots.Given as goal

abbrev pub invariant-loop-site : goal.invariant-loop-site
invariant-loop-site l = string_bytes l.text ≡ string_bytes l.fn.text ++ dots_lines l.job.plan (rows_in l.job) l.site
