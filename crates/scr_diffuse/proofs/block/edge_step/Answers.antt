-- The errors of rows without a column become 0.
use Rattle.std.proofs.Common.{◌≡◌, ◌∙◌, ◌+◌, to_z, of_z, w16, arith}
use Rattle.scr_diffuse.specs.Steps.{AreErrors}
use Rattle.scr_diffuse.specs.Passes.{number_at}
use Rattle.scr_diffuse.proofs.ColumnLemmas.{kept_length}
use Rattle.scr_diffuse.proofs.LaneLemmas.{kept}
use Rattle.scr_diffuse.proofs.WaveLemmas.{IsMasked, kept_error, kept_errors, masked_is, masked_small, reached_edge, row_within, small_set, stored_last}
use Rattle.scr_diffuse.proofs.block.edge_step.Goals.{After-last_of}
use Rattle.scr_diffuse.proofs.block.edge_step.Goals as goal

masked : (c : After-last_of)
    → IsMasked c.args.step c.args.width c.whole_step-next.result.left (kept c.within-left.result)
masked c =
    masked_is c.args.step c.args.width c.whole_step-next.result.left c.within-left.result c.whole_step-next.ensures.wave.left c.within-left.ensures.eight c.within-left.ensures.inside
    c.within-left.ensures.before c.within-left.ensures.behind

small : (c : After-last_of) → AreErrors (kept c.within-left.result)
small c =
    masked_small c.args.step c.args.width c.whole_step-next.result.left (kept c.within-left.result) c.whole_step-next.ensures.wave.left (masked c)
    (kept_length c.within-left.result c.within-left.ensures.eight)

last : (c : After-last_of) → to_z w16 (of_z w16 c.last_of.result) ≡ number_at (kept c.within-left.result) 7
last c = stored_last (kept c.within-left.result) c.last_of.result ((small c).each 7 (omega arith)) c.last_of.ensures

pub returns-clause-wave : goal.returns-clause-wave
returns-clause-wave c =
    let next = c.whole_step-next.result in
    record {
      left = small (goal.at.returns-clause-wave c).After-last_of;
      older = kept_errors next.older c.whole_step-next.ensures.wave.older;
      above = kept_errors next.above c.whole_step-next.ensures.wave.above;
      above_left = kept_errors next.above_left c.whole_step-next.ensures.wave.above_left;
    }

pub returns-clause-small : goal.returns-clause-small
returns-clause-small c =
    let at = (goal.at.returns-clause-small c).After-last_of in
    small_set c.whole_step-next.new.errors (c.args.step + 1) (to_z w16 (of_z w16 c.last_of.result)) c.whole_step-next.ensures.small (omega (arith, c.requires.may.ahead)) (rw (last at) ((small at).each 7 (omega arith)))

pub returns-clause-reached : goal.returns-clause-reached
returns-clause-reached c = λ above rows values long reached.
    let at = (goal.at.returns-clause-reached c).After-last_of in
    let next = c.whole_step-next.result in
    let mask = masked at in
    let past = c.whole_step-next.ensures.past above rows values reached in
    reached_edge above rows c.args.step next _ c.whole_step-next.new.errors c.whole_step-next.new.dots (to_z w16 (of_z w16 c.last_of.result)) (omega (arith, c.requires.may.ahead))
    (kept_error next.older c.whole_step-next.ensures.wave.older) (kept_error next.above c.whole_step-next.ensures.wave.above) (kept_error next.above_left c.whole_step-next.ensures.wave.above_left) past
    (λ k few. row_within above rows k c.args.step c.args.width (number_at (kept c.within-left.result) k) (long k few) past.margin
    (λ from inside. mask.inside k few from inside ∙ c.whole_step-next.ensures.left above rows values reached k few from (omega (arith, long k few))) (mask.before k few) (mask.behind k few))
    (last at)
