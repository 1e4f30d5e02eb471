-- Properties of the texts that are read.
use Rattle.std.specs.Prelude.{◌≢◌, ℕ, List, AllPairs}

-- no two texts are equal
abbrev pub AreDistinct : List (List ℕ) → Type 0
AreDistinct texts = AllPairs (λ a b. a ≢ b) texts
