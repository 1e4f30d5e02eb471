use Rattle.std.proofs.Common.{◌≡◌, ℕ, length, subst, arith}
use Rattle.plan_rows.proofs.PartLemmas.{HasPages, pages_more, pages_are, pages_all}
use Rattle.plan_rows.proofs.parting.site_pages.Goals as goal

pub loop-site-preserved : goal.loop-site-preserved
loop-site-preserved c =
    let most = c.site_count-site-end.ensures.within.most in
    pages_more c.args.plan.now c.args.section c.args.pair c.loop-site.site c.chosen.result c.chosen-in-loop-site.result c.loop-site.pages (omega arith) c.loop-site.invariant
    (pages_are c.args.plan.now c.args.section c.args.pair c.loop-site.site c.pages_in.result c.chosen.result c.chosen-in-loop-site.result c.pair-left.result c.pages_in.ensures.count c.pair-left.ensures.pages c.chosen.ensures.page c.chosen-in-loop-site.ensures.page)
    c.chosen.ensures.within c.chosen-in-loop-site.ensures.within

pub returns-clause-pages : goal.returns-clause-pages
returns-clause-pages c =
    let most = c.site_count-site-end.ensures.within.most in
    let count = c.site_count-site-end.ensures.count in
    let end : c.loop-site.site ≡ length c.args.plan.now.sites = omega arith in
    let P : ℕ → Type 0 = λ n. HasPages c.args.plan.now c.args.section c.args.pair n c.loop-site.pages in
    pages_all c.args.plan.now c.args.section c.args.pair c.loop-site.pages (omega arith) (subst P end c.loop-site.invariant)
