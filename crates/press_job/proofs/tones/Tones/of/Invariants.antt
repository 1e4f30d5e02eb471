use Rattle.std.proofs.Common.{◌≡◌, ℕ, ◌<◌, [], vec_len, get_or}
use Rattle.page_tone.specs.Curve.{curve_value}
use Rattle.press_job.proofs.tones.Tones.of.Given as goal

abbrev pub invariant-loop-curve : goal.invariant-loop-curve
invariant-loop-curve l = record {
  long : vec_len l.curves ≡ l.curve-index;
  each : (k value : ℕ) → k < l.curve-index → value < 256
      → get_or (get_or l.curves.items k []) value 0 ≡ curve_value (get_or l.curve-items k []) value;
}
