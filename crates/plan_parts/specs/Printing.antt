-- Reading tiles, screens, curves and marks, each by its table.
use Rattle.std.specs.Prelude.{ℕ, ◌+◌, ◌-◌, ◌*◌, ◌==◌, ◌&&◌, ◌||◌, Bool, true, false, not, if◌then◌else◌}
use Rattle.std.specs.Prelude.{nat_le, nat_lt, nat_eq, List, [], ◌∷◌, length, map, drop, Option, Some, None}
use Rattle.std.specs.Prelude.{Ok, Err, option_map, slice_index_or, codes}
use Rattle.std.specs.List.{list_any, starts_with}
use Rattle.std.specs.Str.{bytes_eq}
use Rattle.plan_parts.specs.declared.fault.PlanFault.TheVariants.{Range, Unknown}
use Rattle.plan_parts.specs.declared.printing.Screen.{Screen}
use Rattle.plan_parts.specs.declared.printing.Screen.TheVariants.{Bayer, Diffuse, Own}
use Rattle.plan_parts.specs.Data.{TileData, CurveData, MarkData}
use Rattle.plan_parts.specs.Parts.{place}
use Rattle.plan_parts.specs.Reading.{Read, Reader, ◌>>=◌, ◌>>◌, must, some_or, object_with, ink_keys}
use Rattle.plan_parts.specs.Reading.{required, optional, number, text, new_name, index_in, items_within}
use Rattle.plan_parts.specs.Reading.{list_of, nth}

-- the value of the key of each ink, or a default where the key is absent
unfoldable pub each_ink : {A : Type 0} → A → Reader A → Reader (List A)
each_ink absent read path o = do
  c ← optional (codes "C") absent read path o
  m ← optional (codes "M") absent read path o
  y ← optional (codes "Y") absent read path o
  k ← optional (codes "K") absent read path o
  s ← optional (codes "S") absent read path o
  Ok (c ∷ m ∷ y ∷ k ∷ s ∷ [])

-- ---- tiles

abbrev pub tile_keys : List (List ℕ)
tile_keys = codes "name" ∷ codes "width" ∷ codes "height" ∷ codes "at" ∷ []

abbrev pub tile_names : List TileData → List (List ℕ)
tile_names tiles = map (λ tile. tile.name) tiles

-- a list of exactly this many numbers of 0 to 255
unfoldable pub bytes_of : ℕ → Reader (List ℕ)
bytes_of count = list_of count count (λ _. number 0 255)

-- the keys of a tile, in order
unfoldable pub tile_in : List TileData → Reader TileData
tile_in earlier path o = do
  name ← required (codes "name") (new_name (tile_names earlier)) path o
  width ← required (codes "width") (number 1 64) path o
  height ← required (codes "height") (number 1 64) path o
  at ← required (codes "at") (bytes_of (width * height)) path o
  Ok (record { name = name; width = width; height = height; at = at })

unfoldable pub tile : List TileData → Reader TileData
tile earlier path d = object_with tile_keys path d >>= tile_in earlier path

unfoldable pub tiles : Reader (List TileData)
tiles = list_of 0 16 tile

-- ---- screens

-- the screens when none is given
abbrev pub bayer_screens : List Screen
bayer_screens = Bayer 8 ∷ Bayer 8 ∷ Bayer 8 ∷ Bayer 8 ∷ Bayer 8 ∷ []

-- the tile whose name follows `tile:`
abbrev pub own_screen : List (List ℕ) → List ℕ → List ℕ → Read Screen
own_screen names path s = some_or (Unknown path) (option_map Own (index_in names s))

unfoldable pub screen_named : List (List ℕ) → List ℕ → List ℕ → Read Screen
screen_named names path s =
    if bytes_eq s (codes "bayer2") then Ok (Bayer 2) else
    (if bytes_eq s (codes "bayer4") then Ok (Bayer 4) else
    (if bytes_eq s (codes "bayer8") then Ok (Bayer 8) else
    (if bytes_eq s (codes "bayer16") then Ok (Bayer 16) else
    (if bytes_eq s (codes "diffuse") then Ok Diffuse else
    (if starts_with nat_eq s (codes "tile:") then own_screen names path (drop 5 s) else Err (Range path))))))

unfoldable pub screen : List (List ℕ) → Reader Screen
screen names path d = text path d >>= screen_named names path

unfoldable pub screens : Bool → List TileData → Reader (List Screen)
screens spot tiles path d =
    object_with (ink_keys spot) path d >>= each_ink (Bayer 8) (screen (tile_names tiles)) path

-- ---- curves

-- the curve that changes no value
abbrev pub identity : CurveData
identity = (0, 0) ∷ (255, 255) ∷ []

-- the curves when none is given
abbrev pub identities : List CurveData
identities = identity ∷ identity ∷ identity ∷ identity ∷ identity ∷ []

-- the input value of each point is above that of the point before
abbrev pub is_rising : CurveData → Bool
is_rising [] = true
is_rising (p ∷ []) = true
is_rising (p ∷ q ∷ points) = nat_lt p.0 q.0 && is_rising (q ∷ points)

-- the input values rise from 0 to 255
unfoldable pub spans : CurveData → Bool
spans points = place points 0 == 0 && place points (length points - 1) == 255 && is_rising points

-- two numbers of 0 to 255
unfoldable pub point : Reader (ℕ × ℕ)
point path d = do
  items ← items_within 2 2 path d
  x ← nth 0 (number 0 255) path items
  y ← nth 1 (number 0 255) path items
  Ok (x, y)

unfoldable pub points : Reader CurveData
points = list_of 2 32 (λ _. point)

unfoldable pub curve : Reader CurveData
curve path d = do
  all ← points path d
  must (spans all) (Range path)
  Ok all

unfoldable pub curves : Bool → Reader (List CurveData)
curves spot path d = object_with (ink_keys spot) path d >>= each_ink identity curve path

-- ---- marks

-- whether a text starts with a letter, and the rest of the text after it
abbrev pub taken : ℕ → List ℕ → Bool × List ℕ
taken letter [] = (false, [])
taken letter (b ∷ s) = if b == letter then (true, s) else (false, b ∷ s)

-- which of these letters a text has, when it has them in this order and nothing else
abbrev pub flags_in : List ℕ → List ℕ → Option (List Bool)
flags_in [] [] = Some []
flags_in [] (b ∷ s) = None
flags_in (letter ∷ letters) s =
    option_map (λ flags. (taken letter s).0 ∷ flags) (flags_in letters (taken letter s).1)

-- at least one ink, and S only in plan 2
abbrev pub may_have : Bool → List Bool → Bool
may_have spot inks = list_any (λ ink. ink) inks && (spot || not (slice_index_or inks 4 false))

unfoldable pub mark_inks : Bool → Reader (List Bool)
mark_inks spot path d = do
  s ← text path d
  inks ← some_or (Range path) (flags_in (codes "CMYKS") s)
  must (may_have spot inks) (Range path)
  Ok inks

abbrev pub mark_keys : List (List ℕ)
mark_keys = codes "inks" ∷ codes "x" ∷ codes "y" ∷ codes "w" ∷ codes "h" ∷ []

-- the keys of a mark, in order
unfoldable pub mark_in : Bool → Reader MarkData
mark_in spot path o = do
  inks ← required (codes "inks") (mark_inks spot) path o
  x ← required (codes "x") (number 0 65535) path o
  y ← required (codes "y") (number 0 65535) path o
  w ← required (codes "w") (number 1 65535) path o
  h ← required (codes "h") (number 1 65535) path o
  Ok (record { inks = inks; x = x; y = y; w = w; h = h })

-- whether a mark is inside a plate of this width and height
abbrev pub is_inside : ℕ → ℕ → MarkData → Bool
is_inside width height mark = nat_le (mark.x + mark.w) width && nat_le (mark.y + mark.h) height

-- a mark inside a plate of this width and height
unfoldable pub mark : Bool → ℕ → ℕ → Reader MarkData
mark spot width height path d = do
  o ← object_with mark_keys path d
  found ← mark_in spot path o
  must (is_inside width height found) (Range path)
  Ok found

unfoldable pub marks : Bool → ℕ → ℕ → Reader (List MarkData)
marks spot width height = list_of 0 64 (λ _. mark spot width height)
