use Rattle.plan_rows.proofs.PartLemmas.{HasPages}
use Rattle.plan_rows.proofs.parting.site_pages.Given as goal

abbrev pub invariant-loop-site : goal.invariant-loop-site
invariant-loop-site l = HasPages l.fn.plan l.fn.section l.fn.pair l.site l.pages
