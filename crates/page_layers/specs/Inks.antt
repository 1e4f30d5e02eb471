-- Rows of five inks, which of them are painted, and one ink value painted over another. The rules are
-- plateroom's own.
use Rattle.std.specs.Prelude.{◌≡◌, ℕ, ◌==◌, ◌&&◌, Bool, true, if◌then◌else◌, List, [], ◌∷◌, length, replicate}
use Rattle.std.specs.Prelude.{slice_index}
use Rattle.pr_base.specs.declared.ink.Ink.{Ink}
use Rattle.pr_base.specs.declared.ink.Ink.TheVariants.{C, M, Y, K, S}
use Rattle.page_layers.specs.declared.page_inks.PageInks.{PageInks}

-- a row of each ink, a value for each pixel
pub record Planes : Type 0 where
  pub cyan : List ℕ
  pub magenta : List ℕ
  pub yellow : List ℕ
  pub black : List ℕ
  pub spot : List ℕ

-- the row of an ink
abbrev pub plane_of : Planes → Ink → List ℕ
plane_of planes C = planes.cyan
plane_of planes M = planes.magenta
plane_of planes Y = planes.yellow
plane_of planes K = planes.black
plane_of planes S = planes.spot

-- each row has `width` values
pub record HasWidth (planes : Planes) (width : ℕ) : Type 0 where
  pub cyan : length planes.cyan ≡ width
  pub magenta : length planes.magenta ≡ width
  pub yellow : length planes.yellow ≡ width
  pub black : length planes.black ≡ width
  pub spot : length planes.spot ≡ width

-- the five values at column x: cyan, magenta, yellow, black and spot
abbrev pub inks_at : Planes → ℕ → List ℕ
inks_at planes x =
    slice_index planes.cyan x ∷ slice_index planes.magenta x ∷ slice_index planes.yellow x
    ∷ slice_index planes.black x ∷ slice_index planes.spot x ∷ []

-- whether each of the five inks is painted
abbrev pub painted_inks : PageInks → List Bool
painted_inks inks = inks.colour ∷ inks.colour ∷ inks.colour ∷ true ∷ inks.spot ∷ []

-- the values of the inks that are painted, and 0 for each other ink
abbrev pub only : List Bool → List ℕ → List ℕ
only [] values = []
only (is_painted ∷ rest) [] = []
only (is_painted ∷ rest) (value ∷ values) = (if is_painted then value else 0) ∷ only rest values

-- rows of this width, without ink
abbrev pub blank_planes : ℕ → Planes
blank_planes width =
    record {
      cyan = replicate width 0;
      magenta = replicate width 0;
      yellow = replicate width 0;
      black = replicate width 0;
      spot = replicate width 0;
    }

-- no ink
abbrev pub blank : List ℕ
blank = 0 ∷ 0 ∷ 0 ∷ 0 ∷ 0 ∷ []

-- an ink value painted over another: knockout replaces it, and overprint leaves it where the new value is 0
abbrev pub laid_value : Bool → ℕ → ℕ → ℕ
laid_value overprint paint under = if overprint && (paint == 0) then under else paint

-- the same for five inks
abbrev pub laid : Bool → List ℕ → List ℕ → List ℕ
laid overprint [] unders = []
laid overprint (paint ∷ paints) [] = []
laid overprint (paint ∷ paints) (under ∷ unders) =
    laid_value overprint paint under ∷ laid overprint paints unders
