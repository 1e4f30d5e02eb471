-- The files of a plan: each once, in the order in which the layers name them.
use Rattle.std.specs.Prelude.{◌≡◌, ℕ, ◌<◌, List, [], ◌∷◌, length, map, Option, option_map, option_to_list}
use Rattle.std.proofs.Common.{Bor}
use Rattle.std.specs.List.{AllByRecursion, flat_map, position_or_len}
use Rattle.std.specs.Str.{bytes_eq}
use Rattle.indexmap.specs.IndexSet.{insert_all}
use Rattle.plan_json.specs.declared.named.NamedLayer.{NamedLayer}
use Rattle.plan_parts.specs.Data.{LayerData, PageData}
use Rattle.plan_json.specs.Pages.{PageText}

-- ---- which files, in which order

-- the files of a layer, the image before the mask
abbrev pub named_by : NamedLayer → List (List ℕ)
named_by layer = layer.file ∷ option_to_list layer.mask

-- the files of a page, layer by layer
abbrev pub named_on : PageText → List (List ℕ)
named_on page = flat_map named_by page.layers

-- the files of all pages, each once, in order of first mention
unfoldable pub files_of : List PageText → List (List ℕ)
files_of pages = insert_all bytes_eq [] (flat_map named_on pages)

-- ---- pages with files by index

-- the index of a file
unfoldable pub index_of : List (List ℕ) → List ℕ → ℕ
index_of files s = position_or_len (bytes_eq s) files

-- a layer with its files given by their indexes
unfoldable pub layer_of : List (List ℕ) → NamedLayer → LayerData
layer_of files layer = record {
  line = layer.line;
  file = index_of files layer.file;
  x = layer.x;
  y = layer.y;
  scale = layer.scale;
  crop = layer.crop;
  mask = option_map (index_of files) layer.mask;
  overprint = layer.overprint;
  ink = layer.ink;
}

unfoldable pub page_of : List (List ℕ) → PageText → PageData
page_of files page =
    record {
      name = page.name;
      colour = page.colour;
      spot = page.spot;
      layers = map (layer_of files) page.layers;
    }

unfoldable pub pages_of : List PageText → List PageData
pages_of pages = map (page_of (files_of pages)) pages

-- ---- adding files in sequence

-- the texts that a set borrows
abbrev pub texts : List (Bor (List ℕ)) → List (List ℕ)
texts keys = map (λ s. s.now) keys

-- a file is one of these
unfoldable pub Known : List (List ℕ) → List ℕ → Type 0
Known files s = index_of files s < length files

-- what refers to these names by the indexes of known files is the same once more files are added
abbrev pub Stays : {Y : Type 0} → List (List ℕ) → (List (List ℕ) → Y) → Type 0
Stays names of = (files more : List (List ℕ)) → AllByRecursion (Known files) names
    → of (insert_all bytes_eq files more) ≡ of files

-- the files of an item are added after the old ones, and the item refers to them by their new indexes, which
-- stay
pub record Places {X Y : Type 0} (names : X → List (List ℕ)) (of : List (List ℕ) → X → Y)
    (old : List (List ℕ)) (x : X) (new : List (List ℕ)) (y : Y) : Type 0 where
  pub files : new ≡ insert_all bytes_eq old (names x)
  pub item : y ≡ of new x
  pub stays : Stays (names x) (λ files. of files x)

-- the same for a list of items
pub record PlacesAll {X Y : Type 0} (names : X → List (List ℕ)) (of : List (List ℕ) → X → Y)
    (old : List (List ℕ)) (xs : List X) (new : List (List ℕ)) (ys : List Y) : Type 0 where
  pub files : new ≡ insert_all bytes_eq old (flat_map names xs)
  pub items : ys ≡ map (of new) xs
  pub stays : Stays (flat_map names xs) (λ files. map (of files) xs)

-- a mask is added, and given by its index
pub record NotesMask (old : List (List ℕ)) (mask : Option (List ℕ)) (new : List (List ℕ)) (index : Option ℕ)
    : Type 0 where
  pub files : new ≡ insert_all bytes_eq old (option_to_list mask)
  pub index_is : index ≡ option_map (index_of old) mask
