use Rattle.std.proofs.Common.{◌≡◌}
use Rattle.rack_tests.proofs.blocks.put_rows.Given as goal

-- the same slots are begun
abbrev pub invariant-loop-row : goal.invariant-loop-row
invariant-loop-row l = l.rack.begun ≡ l.initial.rack.begun
