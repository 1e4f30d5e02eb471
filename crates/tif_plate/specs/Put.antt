-- Bytes written into a buffer at an offset.
use Rattle.std.specs.Prelude.{◌≡◌, ℕ, ◌+◌, ◌≤◌, List, ◌++◌, length, take, drop}

-- bytes were written at offset at; all others are unchanged
pub record Puts (at : ℕ) (bytes old new : List ℕ) : Type 0 where
  pub room : at + length bytes ≤ length old
  pub is : new ≡ (take at old ++ bytes) ++ drop (at + length bytes) old
