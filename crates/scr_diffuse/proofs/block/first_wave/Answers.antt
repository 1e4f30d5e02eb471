-- All errors but the one above the first pixel are 0.
use Rattle.std.proofs.Common.{◌∙◌, arith}
use Rattle.scr_diffuse.proofs.WaveLemmas.{IsMoved, first_is, reached_first, zero_at, zeros, zeros_small}
use Rattle.scr_diffuse.proofs.LaneLemmas.{kept}
use Rattle.scr_diffuse.proofs.block.first_wave.Goals as goal

pub returns-clause-wave : goal.returns-clause-wave
returns-clause-wave c =
    let above : IsMoved c.args.errors.now zeros (kept c.moved_on.result) 22 =
    first_is c.args.errors.now c.errors_to.result c.moved_on.result c.errors_to.ensures.eight c.moved_on.ensures.eight c.errors_to.ensures.last (c.requires.small 22) c.moved_on.ensures.first c.moved_on.ensures.others in
    record { left = zeros_small; older = zeros_small; above = above.small; above_left = zeros_small }

pub returns-clause-reached : goal.returns-clause-reached
returns-clause-reached c = λ above rows dots list margin.
    let first : IsMoved c.args.errors.now zeros (kept c.moved_on.result) 22 =
    first_is c.args.errors.now c.errors_to.result c.moved_on.result c.errors_to.ensures.eight c.moved_on.ensures.eight c.errors_to.ensures.last (c.requires.small 22) c.moved_on.ensures.first c.moved_on.ensures.others in
    reached_first above rows _ c.args.errors.now dots list margin zero_at zero_at zero_at first.first (λ k less. first.others k less ∙ zero_at k (omega arith))
