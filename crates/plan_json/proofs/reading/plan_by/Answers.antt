use Rattle.std.proofs.Common.{ap, ◌∙◌}
use Rattle.plan_json.specs.Files.{pages_of, files_of}
use Rattle.plan_json.specs.PlanOf.{joined}
use Rattle.plan_json.proofs.SoundPlan.{plan_whole}
use Rattle.plan_json.proofs.reading.plan_by.Goals as goal

pub invariant_of-result : goal.invariant_of-result
unfolding joined
invariant_of-result c =
    (plan_whole _ _ _ c.in_ok-front.front _ _ _ _ _ _ _ _ c.in_ok-front.ensures.value c.plate_width.ensures c.plate_height.ensures c.in_ok-inks.ensures c.in_ok-layout.ensures c.inks.view_is c.layout.view_is
    (c.in_ok-pages.ensures.pages ∙ ap pages_of c.as_slice.ensures.value) (c.in_ok-pages.ensures.files ∙ ap files_of c.as_slice.ensures.value)).1

pub returns : goal.returns
unfolding joined
returns c =
    (plan_whole _ _ _ c.in_ok-front.front _ _ _ _ _ _ _ _ c.in_ok-front.ensures.value c.plate_width.ensures c.plate_height.ensures c.in_ok-inks.ensures c.in_ok-layout.ensures c.inks.view_is c.layout.view_is
    (c.in_ok-pages.ensures.pages ∙ ap pages_of c.as_slice.ensures.value) (c.in_ok-pages.ensures.files ∙ ap files_of c.as_slice.ensures.value)).0
