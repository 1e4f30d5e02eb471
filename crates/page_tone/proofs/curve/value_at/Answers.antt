-- The first point that is not below the value ends the first pair with the value between.
use Rattle.std.proofs.Common.{◌∙◌, sym, arith}
use Rattle.page_tone.proofs.CurveLemmas.{found_before}
use Rattle.page_tone.proofs.curve.value_at.Goals as goal

pub returns-then-v-points : goal.returns-then-v-points
returns-then-v-points c =
    c.between.ensures
    ∙ sym (found_before c.args.points.now c.loop-right.right c.args.v (omega arith) (omega arith) c.requires.first c.if-v-points.true c.loop-right.invariant)
