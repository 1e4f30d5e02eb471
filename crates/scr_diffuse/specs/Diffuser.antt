-- What contracts see of a diffuser, and what it keeps.
use Rattle.std.specs.Prelude.{◌≡◌, ℕ, ◌+◌, ◌-◌, ℤ, pos, List, flat_map, length}
use Rattle.scr_diffuse.specs.Diffusion.{error_above, left_of, IsError}
use Rattle.scr_diffuse.specs.Passes.{number_at}

-- the front of a page: its width in pixels, and its first rows of values
pub record PageFront : Type 0 where
  pub width : ℕ
  pub rows : List (List ℕ)

-- the rows of some steps, in order
abbrev pub joined : List (List (List ℕ)) → List (List ℕ)
joined steps = flat_map (λ rows. rows) steps

-- a list holds the errors of the last of these rows, after a place that holds 0; without rows all errors are
-- 0. Each is small enough for the sums made from it
pub record AreBelow (rows : List (List ℕ)) (errors : List ℤ) : Type 0 where
  pub margined : (k : ℕ) → number_at errors k ≡ left_of (λ x. error_above rows x (length rows)) k
  pub small : (k : ℕ) → IsError (number_at errors k)

-- a list holds these errors between two places that hold 0
pub record StandBelow (rows : List (List ℕ)) (errors : List ℤ) : Type 0 where
  pub room : (width : ℕ) × (length errors ≡ width + 2)
  pub below : AreBelow rows errors
  pub right : number_at errors (length errors - 1) ≡ pos 0
