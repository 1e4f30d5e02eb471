-- Each lane is shifted, and where its pixel prints 255 is subtracted.
use Rattle.std.proofs.Common.{◌∙◌}
use Rattle.scr_diffuse.proofs.LaneLemmas.{chosen_length, lessened_at, made_at, made_length, shares_length}
use Rattle.scr_diffuse.proofs.lanes.errors_of.Goals as goal

pub returns-clause-eight : goal.returns-clause-eight
returns-clause-eight c = made_length _ _ _ (shares_length c.args.sums c.requires) (chosen_length c.args.sums c.requires)

pub returns-clause-errors : goal.returns-clause-errors
returns-clause-errors c = λ k within fits.
    made_at _ _ _ k (shares_length c.args.sums c.requires) (chosen_length c.args.sums c.requires) within
    ∙ lessened_at c.args.sums k c.requires within fits
