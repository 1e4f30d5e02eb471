-- Properties of the tiles, screens, curves, marks and pages of every plan that is read.
use Rattle.std.specs.Prelude.{◌≡◌, ◌<◌, ◌≤◌, ℕ, ◌+◌, ◌-◌, ◌*◌, ◌==◌, ◌||◌, Bool, IsTrue, List, length}
use Rattle.std.specs.Prelude.{slice_index, slice_index_or, IfSome, All}
use Rattle.std.specs.List.{list_any}
use Rattle.plan_parts.specs.Forms.{is_name}
use Rattle.pr_base.specs.Number.{IsWithin}
use Rattle.plan_parts.specs.declared.printing.Screen.{Screen}
use Rattle.plan_parts.specs.declared.printing.Screen.TheVariants.{Bayer, Diffuse, Own}
use Rattle.plan_parts.specs.Data.{TileData, PageData, LayerData, MarkData, CurveData}

-- ---- printing

-- a tile's sides are 1 to 64 pixels, and it has a threshold of 0 to 255 for each pixel
pub record IsTile (tile : TileData) : Type 0 where
  pub name : IsTrue (is_name tile.name)
  pub width : IsWithin 1 64 tile.width
  pub height : IsWithin 1 64 tile.height
  pub numbers : length tile.at ≡ tile.width * tile.height
  pub bytes : All (IsWithin 0 255) tile.at

-- the sides of Bayer tiles
abbrev pub is_bayer : ℕ → Bool
is_bayer side = side == 2 || side == 4 || side == 8 || side == 16

-- a Bayer tile, error diffusion, or one of the plan's tiles
abbrev pub IsScreen : ℕ → Screen → Type 0
IsScreen tiles (Bayer side) = IsTrue (is_bayer side)
IsScreen tiles Diffuse = Unit {0}
IsScreen tiles (Own tile) = tile < tiles

-- the input value of point k
abbrev pub place : CurveData → ℕ → ℕ
place points k = (slice_index_or points k (0, 0)).0

-- 2 to 32 points of bytes, whose input values strictly rise from 0 to 255
pub record IsCurve (points : CurveData) : Type 0 where
  pub count : IsWithin 2 32 (length points)
  pub first : place points 0 ≡ 0
  pub last : place points (length points - 1) ≡ 255
  pub rises : (k : ℕ) → k + 1 < length points → place points k < place points (k + 1)
  pub places : All (λ point. point.0 ≤ 255) points
  pub values : All (λ point. point.1 ≤ 255) points

-- a mark has some ink, its sides are 1 to 65535 pixels, and it is inside the plate
pub record IsMark (width height : ℕ) (mark : MarkData) : Type 0 where
  pub inks : length mark.inks ≡ 5
  pub some : IsTrue (list_any (λ ink. ink) mark.inks)
  pub w : IsWithin 1 65535 mark.w
  pub h : IsWithin 1 65535 mark.h
  pub right : mark.x + mark.w ≤ width
  pub bottom : mark.y + mark.h ≤ height

-- ---- pages

-- four numbers: x and y of 0 to 65535, width and height of 1 to 65535, in pixels
pub record IsCrop (crop : List ℕ) : Type 0 where
  pub count : length crop ≡ 4
  pub x : slice_index crop 0 ≤ 65535
  pub y : slice_index crop 1 ≤ 65535
  pub width : IsWithin 1 65535 (slice_index crop 2)
  pub height : IsWithin 1 65535 (slice_index crop 3)

-- a layer, when there are `file_count` files
pub record IsLayer (file_count : ℕ) (layer : LayerData) : Type 0 where
  pub file : layer.file < file_count
  pub x : layer.x ≤ 65535
  pub y : layer.y ≤ 65535
  pub scale : IsWithin 1 64 layer.scale
  pub crop : IfSome layer.crop IsCrop
  pub mask : IfSome layer.mask (λ mask. mask < file_count)
  pub inks : length layer.ink ≡ 5
  pub ink : All (IsWithin 0 255) layer.ink

-- a page has at most 32 layers
pub record IsPage (file_count : ℕ) (page : PageData) : Type 0 where
  pub name : IsTrue (is_name page.name)
  pub count : length page.layers ≤ 32
  pub layers : All (IsLayer file_count) page.layers
