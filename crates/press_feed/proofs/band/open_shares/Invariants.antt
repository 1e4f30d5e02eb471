use Rattle.std.proofs.Common.{All, ◌≡◌, length}
use Rattle.press_feed.specs.Band.{IsShareOf}
use Rattle.press_feed.proofs.band.open_shares.Given as goal

abbrev pub invariant-loop-share : goal.invariant-loop-share
invariant-loop-share l = record {
  long : length l.shares.items ≡ l._share;
  own : All (IsShareOf l.job l.each) l.shares.items;
}
