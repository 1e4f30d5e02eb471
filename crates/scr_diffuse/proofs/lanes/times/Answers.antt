-- Each lane is a product.
use Rattle.std.proofs.Common.{◌∙◌, ap, get_or, replicate, to_z, of_z, w16, ◌*◌, ◌%◌, ◌^◌, refl}
use Rattle.std.proofs.lemmas.List.{get_or-replicate}
use Rattle.scr_diffuse.specs.Passes.{number_at}
use Rattle.scr_diffuse.proofs.LaneLemmas.{bits_at, bits_length, made_at, made_length, multiplied}
use Rattle.scr_diffuse.proofs.lanes.times.Goals as goal

pub returns-clause-eight : goal.returns-clause-eight
returns-clause-eight c = made_length _ _ _ (bits_length c.args.a c.requires) refl

pub returns-clause-products : goal.returns-clause-products
returns-clause-products c = λ k within a fits.
    let factor = of_z w16 c.args.factor in
    made_at _ _ _ k (bits_length c.args.a c.requires) refl within
    ∙ ap (λ m. to_z w16 ((m * get_or (replicate 8 factor) k 0) % 2 ^ 16)) (bits_at c.args.a k c.requires within)
    ∙ ap (λ n. to_z w16 ((of_z w16 (number_at c.args.a k) * n) % 2 ^ 16)) (get_or-replicate 8 k factor 0 within)
    ∙ multiplied _ c.args.factor a c.ranges.factor fits
