-- Buffers for some rows of bytes.
use Rattle.std.specs.Prelude.{◌≡◌, ℕ, List, length}
use Rattle.std.specs.List.{All}

-- this many rows of this many bytes
pub record AreRows (count len : ℕ) (rows : List (List ℕ)) : Type 0 where
  pub count_is : length rows ≡ count
  pub long : All (λ row. length row ≡ len) rows
