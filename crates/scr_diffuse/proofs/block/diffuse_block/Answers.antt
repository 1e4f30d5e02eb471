-- Each step makes one more column of each row that has one.
use Rattle.std.proofs.Common.{◌≡◌, ℕ, ◌+◌, ◌-◌, ◌<◌, ◌≤◌, subst, [], length, get_or, arith}
use Rattle.scr_diffuse.specs.Block.{left_in, rows_in}
use Rattle.scr_diffuse.specs.Steps.{IsReached}
use Rattle.scr_diffuse.proofs.WaveLemmas.{all_made, left_at, reached_whole}
use Rattle.scr_diffuse.proofs.block.diffuse_block.Goals as goal

pub loop-step-init : goal.loop-step-init
loop-step-init c = record {
  wave = c.first_wave-wave.ensures.wave;
  small = c.requires.errors;
  reached = c.first_wave-wave.ensures.reached (left_in c.args.errors.now) (rows_in c.args.values.now) c.args.dots.now (left_at c.args.errors.now c.requires.left) (c.requires.left 21 (omega arith));
}

pub loop-step-preserved : goal.loop-step-preserved
loop-step-preserved c =
    let rows = rows_in c.args.values.now in
    let some : 21 ≤ length c.args.dots.now = omega (arith, c.requires.values 0 (omega arith)) in
    record {
      wave = c.edge_step-wave.ensures.wave;
      small = c.edge_step-wave.ensures.small;
      reached = c.edge_step-wave.ensures.reached (left_in c.args.errors.now) rows (λ k few. c.set_columns.ensures.each k c.loop-step.step few (omega arith)) (λ k few. omega (arith, c.requires.values k few)) c.loop-step.invariant.reached;
    }

pub loop-step-2-init : goal.loop-step-2-init
loop-step-2-init c =
    let end : c.loop-step.step ≡ 21 = omega arith in
    record {
      most = omega arith;
      wave = c.loop-step.invariant.wave;
      small = c.loop-step.invariant.small;
      reached = subst (λ (n : ℕ). IsReached (left_in c.args.errors.now) (rows_in c.args.values.now) n c.loop-step.wave c.loop-step.errors c.loop-step.dots) end c.loop-step.invariant.reached;
    }

pub loop-step-2-preserved : goal.loop-step-2-preserved
loop-step-2-preserved c =
    let rows = rows_in c.args.values.now in
    let above = left_in c.args.errors.now in
    let some : 21 ≤ length c.args.dots.now = omega (arith, c.requires.values 0 (omega arith)) in
    let values : (k : ℕ) → k < 8 → _ = λ k few. c.set_columns.ensures.each k c.loop-step-2.step few (omega arith) in
    record {
      most = omega arith;
      wave = c.whole_step-wave.ensures.wave;
      small = c.whole_step-wave.ensures.small;
      reached = reached_whole above rows c.loop-step-2.step _ _ _ (c.whole_step-wave.ensures.past above rows values c.loop-step-2.invariant.reached)
          (λ k few. c.whole_step-wave.ensures.left above rows values c.loop-step-2.invariant.reached k few (omega arith) (omega (arith, c.requires.values k few))) c.whole_step-wave.ensures.last;
    }

pub loop-step-3-init : goal.loop-step-3-init
loop-step-3-init c =
    let end : c.loop-step-2.step ≡ c.max-done.result = omega (arith, c.loop-step-2.invariant.most) in
    record {
      wave = c.loop-step-2.invariant.wave;
      small = c.loop-step-2.invariant.small;
      reached = subst (λ (n : ℕ). IsReached (left_in c.args.errors.now) (rows_in c.args.values.now) n c.loop-step-2.wave c.loop-step-2.errors c.loop-step-2.dots) end c.loop-step-2.invariant.reached;
    }

pub loop-step-3-preserved : goal.loop-step-3-preserved
loop-step-3-preserved c =
    let rows = rows_in c.args.values.now in
    let some : 21 ≤ length c.args.dots.now = omega (arith, c.requires.values 0 (omega arith)) in
    record {
      wave = c.edge_step-wave-in-loop-step-3.ensures.wave;
      small = c.edge_step-wave-in-loop-step-3.ensures.small;
      reached = c.edge_step-wave-in-loop-step-3.ensures.reached (left_in c.args.errors.now) rows (λ k few. c.set_columns.ensures.each k c.loop-step-3.step few (omega arith)) (λ k few. omega (arith, c.requires.values k few)) c.loop-step-3.invariant.reached;
    }

pub returns-clause-dots : goal.returns-clause-dots
returns-clause-dots c = λ k x few inside. c.loop-step-3.invariant.reached.past.dots_are k x few (omega (arith, c.requires.values k few)) (omega arith)

pub returns-clause-errors : goal.returns-clause-errors
returns-clause-errors c =
    let width : ℕ = length c.args.dots.now - 21 in
    let long : length (get_or (rows_in c.args.values.now) 7 []) + 21 ≡ length c.args.dots.now = c.requires.values 7 (omega arith) in
    all_made c.args.errors.now c.loop-step-3.errors (rows_in c.args.values.now) c.loop-step-3.step width c.loop-step-3.wave c.loop-step-3.dots (omega arith) (omega arith) (λ x behind. c.requires.right x (omega arith)) c.loop-step-3.invariant.reached
