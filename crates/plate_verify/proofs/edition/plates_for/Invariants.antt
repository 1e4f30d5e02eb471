use Rattle.std.proofs.Common.{◌≡◌, length}
use Rattle.plate_verify.specs.Making.{HaveSides}
use Rattle.plate_verify.proofs.edition.plates_for.Given as goal

abbrev pub invariant-loop-i : goal.invariant-loop-i
invariant-loop-i l = record {
  have : HaveSides l.sides l.plates.items;
  many : length l.plates.items ≡ l._i;
}
