-- A row that repeats the one above it shares its place; another one is painted at its own.
use Rattle.std.proofs.Common.{◌+◌, ◌<◌, ap, sym, subst, ◌∙◌, arith}
use Rattle.plan_json.specs.Data.{PlanData}
use Rattle.plan_rows.specs.Groups.{page_colour, page_spot}
use Rattle.press_feed.specs.HeldRows.{HeldData}
use Rattle.press_feed.proofs.HeldLemmas.{held_painted, held_repeated}
use Rattle.press_feed.proofs.held_rows.HeldRows.show_next.Goals as goal

pub invariant_of-self : goal.invariant_of-self
invariant_of-self c =
    let h = c.self.inside in
    held_repeated h.job.now h.page_rows c.pass.new.self h.page h.first h.count h.tones h.rows.items h.places c.self.invariant (omega (arith, c.if-k-gt0.true))
    (subst {A = HeldData} (λ d. d.count < 8) (sym c.self.view_is) c.requires.eight)
    (subst {A = HeldData} (λ d. d.first + d.count < d.job.plan.page_height) (sym c.self.view_is) c.requires.within)
    c.pass.ensures (c.repeats.ensures.equal c.if-repeats.true)

pub invariant_of-self-2 : goal.invariant_of-self-2
invariant_of-self-2 c =
    let h = c.self.inside in
    held_painted h.job.now h.page_rows c.paint.new.page h.page h.first h.count h.tones h.rows.items h.places c.paint.new.self
    c.inks_of-colour.result.0 c.inks_of-colour.result.1 c.self.invariant
    (subst {A = HeldData} (λ d. d.count < 8) (sym c.self.view_is) c.requires.eight)
    (subst {A = HeldData} (λ d. d.first + d.count < d.job.plan.page_height) (sym c.self.view_is) c.requires.within)
    (c.inks_of-colour.ensures.colour ∙ ap {A = PlanData} (λ p. page_colour p h.page) c.plan.ensures.plan) (c.inks_of-colour.ensures.spot ∙ ap {A = PlanData} (λ p. page_spot p h.page) c.plan.ensures.plan)
    c.paint.ensures.page c.paint.ensures.shows c.paint.ensures.width
