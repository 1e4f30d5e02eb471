-- A row that has a column gets its error and its pixel.
use Rattle.std.proofs.Common.{◌≡◌, ◌∙◌, ℕ, ◌+◌, ◌*◌, get_or, to_z, of_z, w16, refl, arith}
use Rattle.scr_diffuse.specs.Steps.{AreErrors}
use Rattle.scr_diffuse.specs.Passes.{number_at}
use Rattle.scr_diffuse.proofs.ColumnLemmas.{kept_length, loaded_values, values_are}
use Rattle.scr_diffuse.proofs.LaneLemmas.{kept}
use Rattle.scr_diffuse.proofs.StepLemmas.{written}
use Rattle.scr_diffuse.proofs.WaveLemmas.{IsMoved, IsStep, kept_error, kept_errors, moved_is, row_made, small_set, step_made, step_past, step_small, stored_last}
use Rattle.scr_diffuse.proofs.block.whole_step.Goals.{After-last_of}
use Rattle.scr_diffuse.proofs.block.whole_step.Goals as goal

pub whole_sums-sums-requires-clause-values : goal.whole_sums-sums-requires-clause-values
whole_sums-sums-requires-clause-values c =
    let value : ℕ → ℕ = λ k. get_or c.args.columns.now (8 * c.args.step + k) 0 in
    values_are _ value (kept_length c.column_at.result c.column_at.ensures.eight)
    (loaded_values c.column_at.result value c.column_at.ensures.eight c.column_at.ensures.values c.column_at.ensures.bytes) c.column_at.ensures.bytes

pub whole_sums-sums-requires-clause-left : goal.whole_sums-sums-requires-clause-left
whole_sums-sums-requires-clause-left c = kept_errors c.args.wave.left c.requires.may.lanes.left

pub whole_sums-sums-requires-clause-above_right : goal.whole_sums-sums-requires-clause-above_right
whole_sums-sums-requires-clause-above_right c =
    (moved_is c.args.errors.now (kept c.args.wave.older) c.errors_above-above_right.result (c.args.step + 23) c.errors_above-above_right.ensures.eight c.errors_above-above_right.ensures.first c.errors_above-above_right.ensures.others
    (c.requires.may.small (c.args.step + 23)) (kept_errors c.args.wave.older c.requires.may.lanes.older)).small

pub whole_sums-sums-requires-clause-above : goal.whole_sums-sums-requires-clause-above
whole_sums-sums-requires-clause-above c = kept_errors c.args.wave.above c.requires.may.lanes.above

pub whole_sums-sums-requires-clause-above_left : goal.whole_sums-sums-requires-clause-above_left
whole_sums-sums-requires-clause-above_left c = kept_errors c.args.wave.above_left c.requires.may.lanes.above_left

-- the errors of the rows above have moved on by a row
moved : (c : After-last_of)
    → IsMoved c.args.errors.now (kept c.args.wave.older) (kept c.errors_above-above_right.result)
    (c.args.step + 23)
moved c =
    moved_is c.args.errors.now (kept c.args.wave.older) c.errors_above-above_right.result (c.args.step + 23) c.errors_above-above_right.ensures.eight c.errors_above-above_right.ensures.first
    c.errors_above-above_right.ensures.others (c.requires.may.small (c.args.step + 23)) (kept_errors c.args.wave.older c.requires.may.lanes.older)

-- each row has its error and its pixel
made : (c : After-last_of)
    → IsStep c.args.columns.now c.args.errors.now c.args.step c.args.wave
    (kept c.errors_above-above_right.result) (kept c.errors_of-left.result) c.dots_of.result
made c =
    let columns = c.args.columns.now in
    let loaded = loaded_values c.column_at.result (λ k. get_or columns (8 * c.args.step + k) 0) c.column_at.ensures.eight c.column_at.ensures.values c.column_at.ensures.bytes in
    step_made columns c.args.errors.now c.args.step c.args.wave (kept c.column_at.result) (kept c.errors_above-above_right.result) c.whole_sums-sums.result c.errors_of-left.result
    c.dots_of.result c.requires.may.lanes (moved c) loaded c.column_at.ensures.bytes c.whole_sums-sums.ensures.eight c.whole_sums-sums.ensures.sums c.errors_of-left.ensures.eight
    c.errors_of-left.ensures.errors c.dots_of.ensures

small : (c : After-last_of) → AreErrors (kept c.errors_of-left.result)
small c =
    step_small c.args.columns.now c.args.errors.now c.args.step c.args.wave (kept c.errors_above-above_right.result) (kept c.errors_of-left.result) c.dots_of.result (made c)
    (kept_length c.errors_of-left.result c.errors_of-left.ensures.eight)

last : (c : After-last_of) → to_z w16 (of_z w16 c.last_of.result) ≡ number_at (kept c.errors_of-left.result) 7
last c = stored_last (kept c.errors_of-left.result) c.last_of.result ((small c).each 7 (omega arith)) c.last_of.ensures

pub returns-clause-wave : goal.returns-clause-wave
returns-clause-wave c =
    let at = (goal.at.returns-clause-wave c).After-last_of in
    let wave = c.args.wave in
    record {
      left = small at;
      older = kept_errors wave.left c.requires.may.lanes.left;
      above =
          (moved at).small;
      above_left = kept_errors wave.above c.requires.may.lanes.above;
    }

pub returns-clause-small : goal.returns-clause-small
returns-clause-small c =
    let at = (goal.at.returns-clause-small c).After-last_of in
    small_set c.args.errors.now (c.args.step + 1) (to_z w16 (of_z w16 c.last_of.result)) c.requires.may.small (omega (arith, c.requires.may.ahead)) (rw (last at) ((small at).each 7 (omega arith)))

pub returns-clause-last : goal.returns-clause-last
returns-clause-last c =
    written c.args.errors.now (c.args.step + 1) (to_z w16 (of_z w16 c.last_of.result)) (omega (arith, c.requires.may.ahead)) ∙ last (goal.at.returns-clause-last c).After-last_of

pub returns-clause-left : goal.returns-clause-left
returns-clause-left c = λ above rows values reached k few from inside.
    (row_made above rows c.args.columns.now c.args.step c.args.wave c.args.errors.now (kept c.errors_above-above_right.result) (kept c.errors_of-left.result) c.dots_of.result c.args.dots.now
    (made (goal.at.returns-clause-left c).After-last_of) reached values k few from inside).0

pub returns-clause-past : goal.returns-clause-past
returns-clause-past c = λ above rows values reached.
    let wave = c.args.wave in
    step_past above rows c.args.columns.now c.args.step wave _ c.args.errors.now (kept c.errors_above-above_right.result) (kept c.errors_of-left.result) c.dots_of.result c.args.dots.now
    (to_z w16 (of_z w16 c.last_of.result)) c.requires.may.place (made (goal.at.returns-clause-past c).After-last_of) (kept_error wave.left c.requires.may.lanes.left) (λ k few. refl)
    (kept_error wave.above c.requires.may.lanes.above) reached values
