use Rattle.std.proofs.Common.{◌<◌, ap, sym, subst, ◌∙◌}
use Rattle.plan_json.specs.Data.{PlanData}
use Rattle.plan_rows.specs.Groups.{page_colour, page_spot}
use Rattle.press_feed.specs.Sides.{SideData}
use Rattle.press_feed.proofs.SideLemmas.{IsSide-show, before_next}
use Rattle.press_feed.proofs.side_pages.SidePages.show.Goals as goal

pub advance-requires-clause-before : goal.advance-requires-clause-before
advance-requires-clause-before c =
    before_next c.self.inside.job.now c.self.inside.page_rows c.self.inside.page c.self.inside.shown c.self.inside.tones c.self.inside.row
    c.inks_of-colour.result.0 c.inks_of-colour.result.1 c.self.invariant
    (c.inks_of-colour.ensures.colour ∙ ap {A = PlanData} (λ p. page_colour p c.self.inside.page) c.plan.ensures.plan) (c.inks_of-colour.ensures.spot ∙ ap {A = PlanData} (λ p. page_spot p c.self.inside.page) c.plan.ensures.plan)

pub invariant_of-self : goal.invariant_of-self
invariant_of-self c =
    IsSide-show c.self.inside.job.now c.self.inside.page_rows c.advance.new.page c.self.inside.page c.self.inside.shown c.self.inside.tones c.self.inside.row c.advance.new.self
    c.inks_of-colour.result.0 c.inks_of-colour.result.1 c.self.invariant
    (subst {A = SideData} (λ s. s.shown < s.plan.page_height) (sym c.self.view_is) c.requires)
    (c.inks_of-colour.ensures.colour ∙ ap {A = PlanData} (λ p. page_colour p c.self.inside.page) c.plan.ensures.plan) (c.inks_of-colour.ensures.spot ∙ ap {A = PlanData} (λ p. page_spot p c.self.inside.page) c.plan.ensures.plan)
    c.advance.ensures.page c.advance.ensures.shows c.advance.ensures.width
