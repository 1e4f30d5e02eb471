use Rattle.std.proofs.Common.{ℕ, ◌<◌, false, subst}
use Rattle.std.specs.Prelude.{◌↔◌, IsTrue, slice_index_or}
use Rattle.plan_json.specs.Data.{PlanData}
use Rattle.replate.specs.Picks.{PicksData}
use Rattle.replate.specs.Standing.{IsAlike}
use Rattle.replate.proofs.PickLemmas.{picks_tell}
use Rattle.replate.proofs.picks.Picks.of.Goals as goal

pub returns-clause-made : goal.returns-clause-made
returns-clause-made c = λ new is.
    let picks : PicksData = record { alike = c.alike_inks-alike.result; kept = c.in_ok-kept.kept.items; dropped = c.in_ok-dropped.dropped.items } in
    let Alike : PlanData → PlanData → Type 0 = λ old new. (slot : ℕ) → slot < 5 → IsTrue (slice_index_or picks.alike slot false) ↔ IsAlike old new slot in
    picks_tell c.args.before.now c.args.after.now picks (record {
      before_is = c.in_ok-dropped.ensures.plan;
      after_is = c.in_ok-kept.ensures.plan;
      alike = subst (λ (p : PlanData). Alike p c.args.after.now.plan) c.plan.ensures.plan
          (subst (λ (p : PlanData). Alike c.plan.result.now p) c.plan-2.ensures.plan c.alike_inks-alike.ensures);
      kept = c.in_ok-kept.ensures.kept;
    }) new is
