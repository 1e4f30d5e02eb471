use Rattle.std.proofs.Common.{All, ◌≡◌, length}
use Rattle.press_feed.specs.SideBand.{IsPartOf}
use Rattle.press_feed.proofs.side_band.open_parts.Given as goal

abbrev pub invariant-loop-part : goal.invariant-loop-part
invariant-loop-part l = record {
  long : length l.parts.items ≡ l.part;
  own : All (IsPartOf l.job l.height) l.parts.items;
}
