-- Conditions on whole numbers that are read or counted.
use Rattle.std.specs.Prelude.{◌≤◌, ℕ}

-- the number is between two bounds, inclusive
pub record IsWithin (low high n : ℕ) : Type 0 where
  pub least : low ≤ n
  pub most : n ≤ high
