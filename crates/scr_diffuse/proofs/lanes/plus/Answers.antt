-- Each lane is a sum.
use Rattle.std.proofs.Common.{◌∙◌, ap, get_or, map, to_z, of_z, w16, ◌+◌, ◌%◌, ◌^◌}
use Rattle.scr_diffuse.specs.Passes.{number_at}
use Rattle.scr_diffuse.proofs.LaneLemmas.{added, bits_at, bits_length, made_at, made_length}
use Rattle.scr_diffuse.proofs.lanes.plus.Goals as goal

pub returns-clause-eight : goal.returns-clause-eight
returns-clause-eight c = made_length _ _ _ (bits_length c.args.a c.requires.a) (bits_length c.args.b c.requires.b)

pub returns-clause-sums : goal.returns-clause-sums
returns-clause-sums c = λ k within a b fits.
    made_at _ _ _ k (bits_length c.args.a c.requires.a) (bits_length c.args.b c.requires.b) within
    ∙ ap (λ m. to_z w16 ((m + get_or (map (of_z w16) c.args.b) k 0) % 2 ^ 16)) (bits_at c.args.a k c.requires.a within)
    ∙ ap (λ n. to_z w16 ((of_z w16 (number_at c.args.a k) + n) % 2 ^ 16)) (bits_at c.args.b k c.requires.b within)
    ∙ added _ _ a b fits
