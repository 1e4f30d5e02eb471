use Rattle.std.proofs.Common.{◌≡◌, ◌++◌, drop, string_bytes}
use Rattle.cmd_run.specs.Report.{site_lines}
use Rattle.cmd_run.proofs.report.report.Given as goal

abbrev pub invariant-loop-i : goal.invariant-loop-i
invariant-loop-i l =
    string_bytes l.text ++ site_lines (drop l.i l.plan.sites) (drop l.i l.ends) ≡ site_lines l.plan.sites l.ends
