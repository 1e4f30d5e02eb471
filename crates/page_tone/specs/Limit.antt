-- The ink limit (TAC) of a pixel.
use Rattle.std.specs.Prelude.{◌≡◌, ℕ, ◌+◌, ◌-◌, ◌*◌, ◌/◌, ◌==◌, ◌<◌, ◌≤◌, if◌then◌else◌, nat_le, min, List}
use Rattle.std.specs.Prelude.{[], ◌∷◌, length, slice_index}

-- a colour's share of the ink that black leaves, in proportion to the colours, rounded down
abbrev pub share : ℕ → ℕ → ℕ → ℕ
share value rest colours = if colours == 0 then 0 else value * rest / colours

-- the inks C, M, Y, K under a limit: black is kept up to the limit, and the colours share what it leaves
abbrev pub limited : ℕ → ℕ → ℕ → ℕ → ℕ → List ℕ
limited c m y k limit =
    if nat_le (c + m + y + k) limit then c ∷ m ∷ y ∷ k ∷ [] else
    (let black = min k limit in
    let rest = limit - black in
    let colours = c + m + y in
    share c rest colours ∷ share m rest colours ∷ share y rest colours ∷ black ∷ [])

-- the inks of a pixel of four planes under a limit
abbrev pub limited_at : ℕ → List ℕ → List ℕ → List ℕ → List ℕ → ℕ → List ℕ
limited_at limit c m y k x =
    limited (slice_index c x) (slice_index m x) (slice_index y x) (slice_index k x) limit

-- the values of four planes under a limit
pub record AreLimited (limit : ℕ) (c m y k cyan magenta yellow black : List ℕ) : Type 0 where
  pub cyan_is : (x : ℕ) → x < length c → slice_index cyan x ≡ slice_index (limited_at limit c m y k x) 0
  pub magenta_is : (x : ℕ) → x < length c → slice_index magenta x ≡ slice_index (limited_at limit c m y k x) 1
  pub yellow_is : (x : ℕ) → x < length c → slice_index yellow x ≡ slice_index (limited_at limit c m y k x) 2
  pub black_is : (x : ℕ) → x < length c → slice_index black x ≡ slice_index (limited_at limit c m y k x) 3

-- ---- a part of a row

-- an ink limit, and a part of four planes of one width, from column `from` to `to`, exclusive
pub record MayLimit (limit from to : ℕ) (c m y k : List ℕ) : Type 0 where
  pub most : limit ≤ 1020
  pub order : from ≤ to
  pub within : to ≤ length c
  pub magenta_width : length m ≡ length c
  pub yellow_width : length y ≡ length c
  pub black_width : length k ≡ length c

-- the values from column `from` to `to`, exclusive, are those of a function; all others are unchanged
pub record IsWritten (value : ℕ → ℕ) (from to : ℕ) (old new : List ℕ) : Type 0 where
  pub inside : (x : ℕ) → from ≤ x → x < to → slice_index new x ≡ value x
  pub before : (x : ℕ) → x < from → slice_index new x ≡ slice_index old x
  pub behind : (x : ℕ) → to ≤ x → slice_index new x ≡ slice_index old x

-- the values of four planes from column `from` to `to`, exclusive, are under a limit
pub record HasLimited (limit from to : ℕ) (c m y k cyan magenta yellow black : List ℕ) : Type 0 where
  pub cyan_is : IsWritten (λ x. slice_index (limited_at limit c m y k x) 0) from to c cyan
  pub magenta_is : IsWritten (λ x. slice_index (limited_at limit c m y k x) 1) from to m magenta
  pub yellow_is : IsWritten (λ x. slice_index (limited_at limit c m y k x) 2) from to y yellow
  pub black_is : IsWritten (λ x. slice_index (limited_at limit c m y k x) 3) from to k black
