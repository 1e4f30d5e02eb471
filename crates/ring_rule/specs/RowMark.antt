-- What contracts see of a row that is out of its lane.
use Rattle.std.specs.Prelude.{ℕ, List}

pub record RowMark : Type 0 where
  pub number : ℕ
  pub bytes : List ℕ
