use Rattle.std.proofs.Common.{◌≡◌, ◌<◌, ◌≤◌, ◌+◌, ◌-◌, ap, sym, subst, ◌∙◌, arith}
use Rattle.plan_json.specs.Data.{PlanData}
use Rattle.plan_rows.specs.Groups.{page_colour, page_spot}
use Rattle.page_layers.specs.Page.{Page}
use Rattle.press_feed.specs.Sides.{SideData}
use Rattle.press_feed.proofs.SideLemmas.{IsSide-painted}
use Rattle.press_feed.proofs.side_pages.SidePages.show_below.Goals as goal

pub invariant_of-self : goal.invariant_of-self
invariant_of-self c =
    let s = c.self.inside in
    let y = c.args.y in
    let top : s.page_rows.next ≡ s.shown = ap {A = Page} (λ p. p.next) c.self.invariant.rows_are in
    let low : s.shown ≤ y = subst {A = SideData} (λ d. d.shown ≤ y) (sym c.self.view_is) c.requires.next in
    let number : s.page_rows.next + (y - s.shown) ≡ y = omega arith in
    IsSide-painted s.job.now s.page_rows c.pass_rows.new.rows c.paint.new.page s.page s.shown y s.tones s.row c.paint.new.self
    c.inks_of-colour.result.0 c.inks_of-colour.result.1 c.self.invariant
    (subst {A = SideData} (λ d. y < d.plan.page_height) (sym c.self.view_is) c.requires.within)
    (c.inks_of-colour.ensures.colour ∙ ap {A = PlanData} (λ p. page_colour p s.page) c.plan.ensures.plan) (c.inks_of-colour.ensures.spot ∙ ap {A = PlanData} (λ p. page_spot p s.page) c.plan.ensures.plan)
    (c.pass_rows.ensures ∙ ap (λ n. record s.page_rows { next = n }) number) c.paint.ensures.page c.paint.ensures.shows c.paint.ensures.width
