-- Packed bytes that begin and end with a packet.
use Rattle.std.specs.Prelude.{◌≡◌, ℕ, ◌-◌, ◌≤◌, List, ◌++◌, length, take, drop}
use Rattle.tif_packbits.specs.Packbits.{expansion}

-- whatever bytes come after these packed bytes, what they expand to comes after the expansion of these
abbrev pub IsWhole : List ℕ → Type 0
IsWhole packed = (behind : List ℕ) → expansion (packed ++ behind) ≡ expansion packed ++ expansion behind

-- Of packed bytes those before `rest` were gone over: they are packets that give the first `at` bytes of the
-- expansion and then `left`, whatever bytes come after them.
pub record IsThrough (packed left rest : List ℕ) (at : ℕ) : Type 0 where
  pub shorter : length rest ≤ length packed
  pub behind : rest ≡ drop (length packed - length rest) packed
  pub gives : (other : List ℕ)
      → expansion (take (length packed - length rest) packed ++ other)
      ≡ take at (expansion packed) ++ (left ++ expansion other)
