use Rattle.std.proofs.Common.{◌≡◌, ◌∙◌, List, Some, get_or, codes, sym, ap}
use Rattle.std.proofs.lemmas.Option.{slice_get-get_or}
use Rattle.plan_json.specs.Data.{PlanData, SiteData}
use Rattle.cmd_run.specs.Drill.{rows_in}
use Rattle.cmd_run.proofs.DrillDots.{dots_are, files_count, fronts_there, line_is, name_is}
use Rattle.cmd_run.proofs.dots.dots_line.Goals as goal

pub count_dots-dots-requires-clause-count : goal.count_dots-dots-requires-clause-count
count_dots-dots-requires-clause-count c =
    files_count c.args.job.now.plan (rows_in c.args.job.now) (codes "drill") c.args.site c.files.result.now c.plan.ensures.valid
    (c.files.ensures ∙ c.requires.files)

pub count_dots-dots-requires-clause-plates : goal.count_dots-dots-requires-clause-plates
count_dots-dots-requires-clause-plates c =
    fronts_there c.args.job.now.plan (rows_in c.args.job.now) (codes "drill") c.args.site c.files.result.now
    (c.files.ensures ∙ c.requires.files)

pub returns : goal.returns
returns c =
    let same = dots_are c.args.job.now.plan c.args.job.now.files (codes "drill") c.args.site c.files.result.now c.shape-shape.result
    c.count_dots-dots.result c.plan.ensures.valid c.shape-shape.ensures (c.files.ensures ∙ c.requires.files) c.count_dots-dots.ensures in
    let found : SiteData = c.index.result.now in
    let sites : c.behind-job.inside.sites.items ≡ c.args.job.now.plan.sites =
    ap (λ (p : PlanData). p.sites) (c.behind-job.view_is ∙ c.plan.ensures.plan) in
    let at : found ≡ get_or c.args.job.now.plan.sites c.args.site found =
    c.index.ensures ∙ ap (λ (list : List SiteData). get_or list c.args.site found) sites in
    line_is _ found.name c.count_dots-dots.result c.args.job.now.plan (rows_in c.args.job.now) c.args.site
    c.in_ok-format.ensures.ok
    (name_is c.args.job.now.plan c.args.site found
    (slice_get-get_or c.args.job.now.plan.sites c.args.site found c.requires.site ∙ ap {A = SiteData} Some (sym at)))
    same
