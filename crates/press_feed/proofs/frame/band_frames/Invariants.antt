use Rattle.std.proofs.Common.{All, ◌≡◌, false, length}
use Rattle.press_feed.proofs.frame.band_frames.Given as goal

abbrev pub invariant-loop-frame : goal.invariant-loop-frame
invariant-loop-frame l = record {
  long : length l.frames.items ≡ l._frame;
  each : All (λ frame. length frame.bytes ≡ l.len) l.frames.items;
  none : All (λ frame. frame.made ≡ false) l.frames.items;
}
