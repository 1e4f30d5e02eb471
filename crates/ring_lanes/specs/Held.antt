-- What contracts see of a row that was taken.
use Rattle.std.specs.Prelude.{ℕ, List}
use Rattle.ring_lanes.specs.declared.source.Source.{Source}

-- a row that was taken
pub record HeldRow : Type 0 where
  -- its number among the rows of its deal
  pub number : ℕ
  pub bytes : List ℕ
  -- where it was taken
  pub source : Source
