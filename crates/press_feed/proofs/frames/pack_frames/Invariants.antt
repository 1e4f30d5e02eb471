use Rattle.std.proofs.Common.{◌≡◌, length}
use Rattle.press_feed.specs.Band.{IsShare}
use Rattle.press_feed.proofs.BandLemmas.{MadeUpTo}
use Rattle.press_feed.proofs.frames.pack_frames.Given as goal

abbrev pub invariant-loop-place : goal.invariant-loop-place
invariant-loop-place l = record {
  long : length l.frames ≡ length l.initial.frames;
  bits : length l.bits ≡ length l.initial.bits;
  share : IsShare l.job l.frames;
  made : MadeUpTo l.job l.first l.place l.frames;
}
