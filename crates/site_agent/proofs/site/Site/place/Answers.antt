use Rattle.std.proofs.Common.{◌≡◌, ℕ, ◌<◌, sym, ap, subst, ◌∙◌, below_more, arith}
use Rattle.site_agent.specs.Given.{IsNoRow}
use Rattle.site_agent.specs.Job.{SiteJob, number_in}
use Rattle.site_agent.specs.Site.{SiteData, IsCounting, IsPlateRow, job_with}
use Rattle.site_agent.proofs.Finding.{IsNoRowOf}
use Rattle.site_agent.proofs.Placing.{place-found, place-fits, place-other, place-past, place-start}
use Rattle.site_agent.proofs.site.Site.place.Goals as goal

pub loop-i-init : goal.loop-i-init
loop-i-init c =
    let job : SiteJob = job_with c.self.inside.plates.items c.self.inside.sides c.self.inside.total in
    let counting : IsCounting job c.self.inside.next c.self.inside.finished c.self.inside.slots.items = c.self.invariant (ap (λ s. s.ended) c.self.view_is ∙ c.requires) in
    let P : SiteData → Type 0 = λ s. (j : ℕ) → j < c.self.inside.finished → IsNoRowOf s.job s.next j in
    record {
      from = omega arith;
      none = subst P c.self.view_is
          (place-start job c.self.inside.next c.self.inside.finished c.self.inside.slots.items counting);
    }

pub returns-then-plate-self-clause-none : goal.returns-then-plate-self-clause-none
returns-then-plate-self-clause-none c =
    let job : SiteJob = job_with c.self.inside.plates.items c.self.inside.sides c.self.inside.total in
    let counting : IsCounting job c.self.inside.next c.self.inside.finished c.self.inside.slots.items = c.self.invariant (ap (λ s. s.ended) c.self.view_is ∙ c.requires) in
    let P : SiteData → Type 0 = λ s. IsNoRow s.job s.next in
    let Q : SiteData → Type 0 = λ s. (j : ℕ) → j < c.loop-i.i → IsNoRowOf s.job s.next j in
    subst P c.self.view_is
    (place-past job c.self.inside.next c.self.inside.finished c.self.inside.slots.items c.loop-i.i c.index-plate.result.now counting (omega arith) c.index-plate.ensures (omega arith)
    (subst Q (sym c.self.view_is) c.loop-i.invariant.none))

pub overflow_add-plate : goal.overflow_add-plate
overflow_add-plate c =
    let job : SiteJob = job_with c.self.inside.plates.items c.self.inside.sides c.self.inside.total in
    let counting : IsCounting job c.self.inside.next c.self.inside.finished c.self.inside.slots.items = c.self.invariant (ap (λ s. s.ended) c.self.view_is ∙ c.requires) in
    let fits = place-fits job c.self.inside.next c.self.inside.finished c.self.inside.slots.items c.loop-i.i c.index-plate.result.now c.index.result.now
    (record { counting = counting; from = c.loop-i.invariant.from; within = omega arith; plate = c.index-plate.ensures; slot = c.index.ensures; begun = omega arith }) in
    let here : number_in c.index-plate.result.now c.next_row-y.result ≡ number_in c.index-plate.result.now c.index.result.now.next = ap (number_in c.index-plate.result.now) c.next_row-y.ensures in
    omega (arith, fits, here)

pub returns-then-plate-y-clause-found : goal.returns-then-plate-y-clause-found
returns-then-plate-y-clause-found c =
    let job : SiteJob = job_with c.self.inside.plates.items c.self.inside.sides c.self.inside.total in
    let counting : IsCounting job c.self.inside.next c.self.inside.finished c.self.inside.slots.items = c.self.invariant (ap (λ s. s.ended) c.self.view_is ∙ c.requires) in
    let P : SiteData → Type 0 = λ s. IsPlateRow s.job s.next (record { plate = c.loop-i.i; slot = c.index-plate.result.now.slot; y = c.next_row-y.result }) in
    let Q : ℕ → Type 0 = λ y. IsPlateRow job c.self.inside.next (record { plate = c.loop-i.i; slot = c.index-plate.result.now.slot; y = y }) in
    subst P c.self.view_is (subst Q (sym c.next_row-y.ensures)
    (place-found job c.self.inside.next c.self.inside.finished c.self.inside.slots.items c.loop-i.i c.index-plate.result.now c.index.result.now
    (record { counting = counting; from = c.loop-i.invariant.from; within = omega arith; plate = c.index-plate.ensures; slot = c.index.ensures; begun = omega arith })
    (ap (number_in c.index-plate.result.now) (sym c.next_row-y.ensures) ∙ c.if-plate-y.true)))

pub loop-i-preserved : goal.loop-i-preserved
loop-i-preserved c =
    let job : SiteJob = job_with c.self.inside.plates.items c.self.inside.sides c.self.inside.total in
    let counting : IsCounting job c.self.inside.next c.self.inside.finished c.self.inside.slots.items = c.self.invariant (ap (λ s. s.ended) c.self.view_is ∙ c.requires) in
    let P : SiteData → Type 0 = λ s. IsNoRowOf s.job s.next c.loop-i.i in
    let from = c.loop-i.invariant.from in
    record {
      from = omega (arith, from);
      none = below_more _ _ c.loop-i.invariant.none
          (subst P c.self.view_is
          (place-other job c.self.inside.next c.self.inside.finished c.self.inside.slots.items c.loop-i.i c.index-plate.result.now c.index.result.now
          (record { counting = counting; from = from; within = omega arith; plate = c.index-plate.ensures; slot = c.index.ensures; begun = omega arith })
          (λ same. c.if-plate-y.false (ap (number_in c.index-plate.result.now) c.next_row-y.ensures ∙ same))));
    }
