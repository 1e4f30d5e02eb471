use Rattle.std.proofs.Common.{◌≡◌, codes, sym, ap, ◌∙◌}
use Rattle.pr_ports.specs.Mem.{files_of}
use Rattle.plan_json.specs.Data.{PlanData}
use Rattle.plan_json.specs.PlanOf.{plan_of}
use Rattle.press_job.specs.Verdict.{verdict_on_files}
use Rattle.job_gen.specs.Plan.{job_plan}
use Rattle.cmd_run.proofs.DrillVerdict.{job_passes}
use Rattle.cmd_run.proofs.drill.job_of.Goals as goal

pub prepare_job-requires-clause-passes : goal.prepare_job-requires-clause-passes
prepare_job-requires-clause-passes g c κs within =
    let both = sym c.in_ok-plan.ensures ∙ ap plan_of c.as_slice.ensures.value ∙ c.in_ok-made.ensures.plan in
    let plan : c.in_ok-plan.plan ≡ job_plan c.args.number = cc both in
    ap (λ (p : PlanData). verdict_on_files p (codes "in") (files_of c.in_ok-made.made.files.items)) plan
    ∙ ap (verdict_on_files (job_plan c.args.number) (codes "in")) c.in_ok-made.ensures.files
    ∙ job_passes c.args.number c.in_ok-made.ensures.images
