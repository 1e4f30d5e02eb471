use Rattle.std.proofs.Common.{◌≡◌, ◌*◌, ◌∙◌, length, ap, sym, arith}
use Rattle.plan_rows.specs.Plates.{site_plates}
use Rattle.ring_run.specs.declared.site_end.SiteEnd.TheVariants.{Finished}
use Rattle.ring_run.specs.Served.{plates_in}
use Rattle.ring_run.proofs.Kept.{kept_count, plates_are}
use Rattle.ring_run.proofs.ends.finished.Goals as goal

pub plate_count-plates-requires : goal.plate_count-plates-requires
plate_count-plates-requires c = let count = c.requires.plan.site_count in let most = count.most in let less = c.requires.site in omega (arith, most, less)

pub returns : goal.returns
returns c =
    let plates : c.plate_count-plates.result ≡ length (site_plates c.args.plan.now c.args.site) =
    c.plate_count-plates.ensures ∙ ap (λ rows. length (plates_in rows.groups c.args.site)) c.requires.rows ∙ plates_are c.args.plan.now c.args.site in
    (λ i. Finished (plates i) ((ap (λ n. n * c.plate_shape.result.height) plates ∙ ap (λ shape. length (site_plates c.args.plan.now c.args.site) * shape.height) c.plate_shape.ensures.shape ∙ sym (kept_count c.args.plan.now c.args.site)) i))
