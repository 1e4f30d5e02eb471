use Rattle.std.proofs.Common.{◌≡◌, length}
use Rattle.press_feed.specs.Band.{IsShare}
use Rattle.press_feed.proofs.BandLemmas.{MadeUpTo}
use Rattle.press_feed.proofs.share.make_frames.Given as goal

abbrev pub invariant-loop-place : goal.invariant-loop-place
invariant-loop-place l = record {
  long : length l.frames ≡ length l.initial.frames;
  maker : l.maker ≡ l.initial.maker;
  share : IsShare l.initial.maker l.frames;
  made : MadeUpTo l.initial.maker l.first l.place l.frames;
}
