use Rattle.std.proofs.Common.{◌≡◌, ◌<◌, ◌^◌, ◌∙◌, length, ap, sym, arith}
use Rattle.std.proofs.lemmas.List.{length-map}
use Rattle.plan_json.specs.Data.{PlanData}
use Rattle.plan_rows.specs.Plates.{site_plates}
use Rattle.site_agent.specs.Plan.{job_of, plate_of}
use Rattle.site_agent.proofs.Jobs.{job_is}
use Rattle.replate.proofs.WantedLemmas.{length-picked_bits}
use Rattle.replate.proofs.remaking.Remaking.maker.Goals as goal

pub end_of-end-requires : goal.end_of-end-requires
end_of-end-requires c =
    let plan = c.args.self.now.after.now.plan in
    let site = c.args.site in
    let out = c.args.self.now.out.now in
    let bits : length c.deref.result.now ≡ length (site_plates plan site) = ap length (c.deref.ensures.value ∙ c.in_ok-wanted.ensures.bits) ∙ length-picked_bits c.args.self.now.picks.now plan site in
    let few : length (job_of plan out site).plates < 2 ^ 32 = (job_is plan out site c.in_ok-wanted.ensures.plan).few in
    omega (arith, bits, few, length-map (site_plates plan site) (plate_of plan out site))

pub of_picked-requires-clause-wanted : goal.of_picked-requires-clause-wanted
of_picked-requires-clause-wanted c =
    let plan = c.args.self.now.after.now.plan in
    ap length (c.deref-2.ensures.value ∙ c.in_ok-wanted.ensures.bits) ∙ length-picked_bits c.args.self.now.picks.now plan c.args.site
    ∙ ap (λ (p : PlanData). length (site_plates p c.args.site)) (sym c.plan-plan.ensures.plan)
