use Rattle.std.proofs.Common.{◌≡◌, ap, ◌∙◌, sym, arith}
use Rattle.plan_rows.specs.Inks.{has_site}
use Rattle.plate_verify.proofs.CountLemmas.{count-more, one_if}
use Rattle.plate_verify.proofs.count.sites_of.Goals as goal
use Rattle.plate_verify.proofs.count.sites_of.Goals.{then-has_site, else-has_site}

pub loop-site-preserved : goal.loop-site-preserved
loop-site-preserved c =
    let more = count-more (has_site c.args.group.now) c.loop-site.site in
    let i = c.loop-site.invariant in
    elim c.if-has_site.branch [
      | then-has_site w ↦
          let one : one_if (has_site c.args.group.now c.loop-site.site) ≡ 1 = ap one_if (sym c.has_site.ensures ∙ w.if-has_site.true) in
          record { counted = omega (arith, w.count-is, more, i.counted, one); within = omega (arith, w.count-is, i.within) }
      | else-has_site w ↦
          let none : one_if (has_site c.args.group.now c.loop-site.site) ≡ 0 = ap one_if (sym c.has_site.ensures ∙ w.if-has_site.false) in
          record { counted = omega (arith, w.count-is, more, i.counted, none); within = omega (arith, w.count-is, i.within) }
    ]
