use Rattle.std.proofs.Common.{ℕ, ◌≤◌}
use Rattle.scr_diffuse.specs.Block.{left_in, rows_in}
use Rattle.scr_diffuse.specs.Diffusion.{IsError}
use Rattle.scr_diffuse.specs.Passes.{number_at}
use Rattle.scr_diffuse.specs.Steps.{HasErrors, IsReached}
use Rattle.scr_diffuse.proofs.block.diffuse_block.Given as goal

-- each step is reached from the errors that the block began with
abbrev pub invariant-loop-step : goal.invariant-loop-step
invariant-loop-step l = record {
  wave : HasErrors l.wave;
  small : (x : ℕ) → IsError (number_at l.errors x);
  reached : IsReached (left_in l.fn.errors) (rows_in l.values) l.step l.wave l.errors l.dots;
}

abbrev pub invariant-loop-step-2 : goal.invariant-loop-step-2
invariant-loop-step-2 l = record {
  most : l.step ≤ l.done;
  wave : HasErrors l.wave;
  small : (x : ℕ) → IsError (number_at l.errors x);
  reached : IsReached (left_in l.fn.errors) (rows_in l.values) l.step l.wave l.errors l.dots;
}

abbrev pub invariant-loop-step-3 : goal.invariant-loop-step-3
invariant-loop-step-3 l = record {
  wave : HasErrors l.wave;
  small : (x : ℕ) → IsError (number_at l.errors x);
  reached : IsReached (left_in l.fn.errors) (rows_in l.values) l.step l.wave l.errors l.dots;
}
