-- The lanes move up by one.
use Rattle.std.proofs.Common.{◌≡◌, ◌∙◌, ◌+◌, arith}
use Rattle.scr_diffuse.specs.Passes.{number_at}
use Rattle.scr_diffuse.proofs.LaneLemmas.{first_lane, kept, kept_at, kept_is}
use Rattle.scr_diffuse.proofs.block.errors_above.Goals as goal

pub returns-clause-first : goal.returns-clause-first
returns-clause-first c = λ fits.
    first_lane c.args.errors.now c.errors_to.result c.moved_on.result _ (c.args.step + 23) c.errors_to.ensures.eight c.moved_on.ensures.eight c.errors_to.ensures.last c.moved_on.ensures.first fits (omega arith)

pub returns-clause-others : goal.returns-clause-others
returns-clause-others c = λ k less fits.
    let same : number_at (kept c.args.made) k ≡ number_at c.args.made k = kept_at c.args.made k c.requires.eight (omega arith) fits in
    kept_is c.moved_on.result (k + 1) (number_at c.args.made k) c.moved_on.ensures.eight (omega arith) (c.moved_on.ensures.others k less (rw same fits) ∙ same) fits
