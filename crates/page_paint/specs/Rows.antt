-- Paint over a row of one ink.
use Rattle.std.specs.Prelude.{◌≡◌, ℕ, ◌+◌, ◌<◌, ◌≤◌, ◌==◌, Bool, if◌then◌else◌, List, length, slice_index}
use Rattle.page_paint.specs.declared.lay.Painting.{Painting}
use Rattle.page_paint.specs.declared.lay.Painting.TheVariants.{Whole, Knockout, Overprint, Nothing}

-- an ink value painted over another where it is admitted, that is where `admitted` is not 0
abbrev pub laid_where : Painting → ℕ → ℕ → ℕ → ℕ
laid_where Whole admitted paint under = paint
laid_where Knockout admitted paint under = if admitted == 0 then under else paint
laid_where Overprint admitted paint under =
    if admitted == 0 then under else if paint == 0 then under else paint
laid_where Nothing admitted paint under = under

-- how a layer is painted in an ink that is painted or not
abbrev pub painted_as : Bool → Painting → Painting
painted_as is_painted painting = if is_painted then painting else Nothing

-- the first `count` values are the paint over the old row
pub record IsLaid (painting : Painting) (paint admitted old : List ℕ) (count : ℕ) (new : List ℕ)
    : Type 0 where
  pub each : (x : ℕ) → x < count
      → slice_index new x
      ≡ laid_where painting (slice_index admitted x) (slice_index paint x) (slice_index old x)

-- the old row with paint over it from column `from` on
pub record LaysSpan (painting : Painting) (from : ℕ) (paint admitted old new : List ℕ) : Type 0 where
  pub long : length new ≡ length old
  pub inside : (j : ℕ) → j < length admitted
      → slice_index new (from + j)
      ≡ laid_where painting (slice_index admitted j) (slice_index paint j) (slice_index old (from + j))
  pub before : (x : ℕ) → x < from → slice_index new x ≡ slice_index old x
  pub behind : (x : ℕ) → from + length admitted ≤ x → slice_index new x ≡ slice_index old x
