use Rattle.plan_rows.proofs.PartLemmas.{HasBits}
use Rattle.plan_rows.proofs.parting.sites_like.Given as goal

abbrev pub invariant-loop-i : goal.invariant-loop-i
invariant-loop-i l = HasBits l.own l.pages l.i l.sites
