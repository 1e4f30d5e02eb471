use Rattle.std.proofs.Common.{◌≡◌, ◌<◌, ◌-◌, ℕ, length, slice_index_or, sym, subst, rules}
use Rattle.plan_pages.specs.Pages.{chosen_page}
use Rattle.plan_pages.proofs.PageLemmas.{chosen_page-within}
use Rattle.plan_pages.proofs.zones.chosen.Goals as goal

pub returns-in-Some-clause-within : goal.returns-in-Some-clause-within
unfolding chosen_page
returns-in-Some-clause-within c =
    let is : c.in-Some.other ≡ chosen_page c.args.plan.now c.args.site c.args.section c.args.page = search rules in
    let P : ℕ → Type 0 = λ page. page < length c.args.plan.now.pages in
    subst P (sym is) (chosen_page-within c.args.plan.now c.args.site c.args.section c.args.page c.zone_items.ensures.plan c.requires.first c.requires.last)

pub returns-in-None-clause-within : goal.returns-in-None-clause-within
unfolding chosen_page
returns-in-None-clause-within c =
    let is : slice_index_or c.own_pages.result.now (c.args.page - 1) 0 ≡ chosen_page c.args.plan.now c.args.site c.args.section c.args.page = search rules in
    let P : ℕ → Type 0 = λ page. page < length c.args.plan.now.pages in
    subst P (sym is) (chosen_page-within c.args.plan.now c.args.site c.args.section c.args.page c.zone_items.ensures.plan c.requires.first c.requires.last)
