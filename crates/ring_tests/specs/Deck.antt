-- The rows of a small job.
use Rattle.std.specs.Prelude.{ℕ, List, [], ◌∷◌}

-- its two rows, packed in frames of five bytes
abbrev pub two_rows : List (List ℕ)
two_rows = (3 ∷ 0 ∷ 1 ∷ 171 ∷ 0 ∷ []) ∷ (3 ∷ 0 ∷ 1 ∷ 19 ∷ 0 ∷ []) ∷ []
