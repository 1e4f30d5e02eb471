use Rattle.std.proofs.Common.{◌≤◌, ◌<◌, ◌-◌, ◌∷◌, length, get_or}
use Rattle.plate_bytes.proofs.made.ends_within.Given as goal

abbrev pub invariant-loop-low : goal.invariant-loop-low
invariant-loop-low l = record {
  order : l.low ≤ l.high;
  within : l.high ≤ length l.ends;
  before : get_or (8 ∷ l.ends) l.low 0 ≤ l.at;
  behind : l.high < length l.ends → l.at < get_or l.ends l.high 0;
}

abbrev pub decreases-loop-low : goal.decreases-loop-low
decreases-loop-low l = l.high - l.low
