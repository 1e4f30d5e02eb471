use Rattle.std.proofs.Common.{rules, ◌≡◌, Bool, true, false, ◌∙◌, arith}
use Rattle.press_feed.proofs.frames.Frames.open.Goals as goal

not_both : (b : Bool) → b ≡ false → b ≡ true → ⊥
not_both b unset set = cc

pub invariant_of-result : goal.invariant_of-result
invariant_of-result c = record {
  few = omega (arith, c.in_ok-frames.ensures.count_is, c.requires);
  share = record { each = λ k d less. c.in_ok-frames.ensures.long k d less ∙ c.row_len.ensures.size };
  held = record { each = λ i d less made. absurd (not_both _ (c.in_ok-frames.ensures.none i d less) made) };
  long = search rules;
}
