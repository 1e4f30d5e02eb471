-- Where two lists of bytes first differ.
use Rattle.std.specs.Prelude.{◌≡◌, ℕ, suc, ◌≤◌, ◌==◌, if◌then◌else◌, List, [], ◌∷◌, length, take, Option}
use Rattle.std.specs.Prelude.{Some, None, option_map}

-- the first offset at which the lists have different bytes, or only one has a byte
abbrev pub difference_of : List ℕ → List ℕ → Option ℕ
difference_of [] [] = None
difference_of [] (_ ∷ _) = Some 0
difference_of (_ ∷ _) [] = Some 0
difference_of (x ∷ xs) (y ∷ ys) = if x == y then option_map suc (difference_of xs ys) else Some 0

-- both have at least n bytes, and the first n are equal
pub record IsAlikeTo (a b : List ℕ) (n : ℕ) : Type 0 where
  pub a_within : n ≤ length a
  pub b_within : n ≤ length b
  pub same : take n a ≡ take n b
