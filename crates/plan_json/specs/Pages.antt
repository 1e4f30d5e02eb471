-- Reading pages and their layers, each by its table. At this stage layers name their files.
use Rattle.std.specs.Prelude.{ℕ, ◌&&◌, Bool, true, false, if◌then◌else◌, List, [], ◌∷◌, map, Option, Some}
use Rattle.std.specs.Prelude.{None, Ok, Err, codes}
use Rattle.std.specs.Str.{bytes_eq}
use Rattle.serde_json.specs.Data.{Items}
use Rattle.serde_json.specs.Find.{get_item}
use Rattle.plan_parts.specs.declared.fault.PlanFault.TheVariants.{Range}
use Rattle.plan_json.specs.declared.named.NamedLayer.{NamedLayer}
use Rattle.plan_json.specs.declared.named.Painting.{Painting}
use Rattle.plan_json.specs.declared.named.Placing.{Placing}
use Rattle.plan_parts.specs.Reading.{Read, Reader, ◌>>=◌, at_item, object_with, required, optional}
use Rattle.plan_parts.specs.Reading.{optional_in, number, text, file_name, new_name, items_within, list_of}
use Rattle.plan_parts.specs.Reading.{nth}

-- a page whose layers name their files
pub record PageText : Type 0 where
  pub name : List ℕ
  pub colour : Bool
  pub spot : Bool
  pub layers : List NamedLayer

-- ---- layers

-- one of two texts: true for the second
abbrev pub either_text : List ℕ → List ℕ → List ℕ → List ℕ → Read Bool
either_text path first second s =
    if bytes_eq s first then Ok false else (if bytes_eq s second then Ok true else Err (Range path))

-- one of two texts
unfoldable pub either : List ℕ → List ℕ → Reader Bool
either first second path d = text path d >>= either_text path first second

-- whether an image is linework
unfoldable pub kind : Reader Bool
kind = either (codes "contone") (codes "line")

-- whether an ink value of 0 leaves the ink below unchanged
unfoldable pub paint : Reader Bool
paint = either (codes "knockout") (codes "overprint")

-- four numbers up to 65535, the first two from 0 and the last two from `low`
abbrev pub four_numbers : ℕ → Reader (List ℕ)
four_numbers low path d = do
  items ← items_within 4 4 path d
  a ← nth 0 (number 0 65535) path items
  b ← nth 1 (number 0 65535) path items
  c ← nth 2 (number low 65535) path items
  d ← nth 3 (number low 65535) path items
  Ok (a ∷ b ∷ c ∷ d ∷ [])

-- what is read where the key is present; without the key there is none
abbrev pub present : {A : Type 0} → Reader A → Reader (Option A)
present read path d = do
  found ← read path d
  Ok (Some found)

-- x and y from 0 to 65535, width and height from 1 to 65535
unfoldable pub crop : Reader (Option (List ℕ))
crop = present (four_numbers 1)

unfoldable pub mask : Reader (Option (List ℕ))
mask = present file_name

-- a fifth number, or 0 if there is none
abbrev pub fifth : List ℕ → Items → Read ℕ
fifth path items = optional_in 0 (number 0 255) (at_item path 4) (get_item 4 items)

-- the values C, M, Y, K and, in plan 2, optionally S
unfoldable pub ink : Bool → Reader (List ℕ)
ink spot path d = do
  items ← items_within 4 (if spot then 5 else 4) path d
  c ← nth 0 (number 0 255) path items
  m ← nth 1 (number 0 255) path items
  y ← nth 2 (number 0 255) path items
  k ← nth 3 (number 0 255) path items
  s ← fifth path items
  Ok (c ∷ m ∷ y ∷ k ∷ s ∷ [])

-- black: K at 255
abbrev pub black : List ℕ
black = 0 ∷ 0 ∷ 0 ∷ 255 ∷ 0 ∷ []

abbrev pub layer_keys : List (List ℕ)
layer_keys =
    codes "kind" ∷ codes "file" ∷ codes "x" ∷ codes "y" ∷ codes "scale" ∷ codes "crop"
    ∷ codes "mask" ∷ codes "paint" ∷ codes "ink" ∷ []

-- the position of an image on the page, and its scale
unfoldable pub placing : Reader Placing
placing path o = do
  x ← optional (codes "x") 0 (number 0 65535) path o
  y ← optional (codes "y") 0 (number 0 65535) path o
  scale ← optional (codes "scale") 1 (number 1 64) path o
  Ok (record { x = x; y = y; scale = scale })

-- the part of an image that is painted, and how
unfoldable pub painting : Bool → Reader Painting
painting spot path o = do
  crop ← optional (codes "crop") None crop path o
  mask ← optional (codes "mask") None mask path o
  overprint ← optional (codes "paint") false paint path o
  ink ← optional (codes "ink") black (ink spot) path o
  Ok (record { crop = crop; mask = mask; overprint = overprint; ink = ink })

-- the keys of a layer, in order
abbrev pub layer_in : Bool → Reader NamedLayer
layer_in spot path o = do
  line ← required (codes "kind") kind path o
  file ← required (codes "file") file_name path o
  at ← placing path o
  how ← painting spot path o
  Ok (record {
    line = line;
    file = file;
    x = at.x;
    y = at.y;
    scale = at.scale;
    crop = how.crop;
    mask = how.mask;
    overprint = how.overprint;
    ink = how.ink;
  })

unfoldable pub layer : Bool → Reader NamedLayer
layer spot path d = do
  o ← object_with layer_keys path d
  layer_in spot path o

unfoldable pub layers : Bool → Reader (List NamedLayer)
layers spot = list_of 0 32 (λ _. layer spot)

-- ---- pages

-- whether a page prints C, M and Y, and whether it prints S
unfoldable pub inks_named : Bool → List ℕ → List ℕ → Read (Bool × Bool)
inks_named spot path s =
    if bytes_eq s (codes "K") then Ok (false, false) else
    (if bytes_eq s (codes "CMYK") then Ok (true, false) else
    (if spot && bytes_eq s (codes "KS") then Ok (false, true) else
    (if spot && bytes_eq s (codes "CMYKS") then Ok (true, true) else Err (Range path))))

unfoldable pub page_inks : Bool → Reader (Bool × Bool)
page_inks spot path d = text path d >>= inks_named spot path

abbrev pub page_keys : List (List ℕ)
page_keys = codes "name" ∷ codes "inks" ∷ codes "layers" ∷ []

abbrev pub page_names : List PageText → List (List ℕ)
page_names pages = map (λ page. page.name) pages

-- the keys of a page, in order
abbrev pub page_in : Bool → List PageText → Reader PageText
page_in spot earlier path o = do
  name ← required (codes "name") (new_name (page_names earlier)) path o
  inks ← required (codes "inks") (page_inks spot) path o
  layers ← required (codes "layers") (layers spot) path o
  Ok (record { name = name; colour = inks.0; spot = inks.1; layers = layers })

unfoldable pub page : Bool → List PageText → Reader PageText
page spot earlier path d = do
  o ← object_with page_keys path d
  page_in spot earlier path o

unfoldable pub pages : Bool → Reader (List PageText)
pages spot = list_of 1 2048 (page spot)
