-- Classes of the files of two jobs, as numbers.
use Rattle.std.specs.Prelude.{◌≡◌, ◌<◌, ℕ, List, [], IfSome, length, map, position, slice_index, option_map}
use Rattle.std.specs.Borrow.{Bor}
use Rattle.std.specs.declared.cmp.Ordering.{Ordering}
use Rattle.std.specs.BTreeMap.{BTreeMap, get}
use Rattle.std.specs.Cmp.Lexicographic.{slice_cmp}
use Rattle.std.specs.List.{position_or_len}
use Rattle.std.specs.Ordering.{nat_cmp, ordering_then}
use Rattle.std.specs.Str.{bytes_eq}
use Rattle.plan_parts.specs.Data.{LayerData, PageData}
use Rattle.replate.specs.declared.classes.Classes.{Classes}
use Rattle.replate.specs.declared.kept.Compared.{Compared}

-- the index of the first file with these bytes, or the number of files where none has them
abbrev pub class_of : List (List ℕ) → List ℕ → ℕ
class_of files bytes = position_or_len (bytes_eq bytes) files

-- these are the classes of the files of an old and of a new job
pub record AreClasses (olds news : List (List ℕ)) (classes : Classes) : Type 0 where
  pub old : classes.before.items ≡ map (class_of olds) olds
  pub new : classes.after.items ≡ map (class_of olds) news

-- the same of an old and a new job that are compared
abbrev pub AreCompared : Compared → Type 0
AreCompared jobs = AreClasses jobs.before.now.files jobs.after.now.files jobs.classes.now

-- a layer with the classes of its image and its mask in place of their indexes
abbrev pub classed : List ℕ → LayerData → LayerData
classed classes layer = record layer {
  file = slice_index classes layer.file;
  mask = option_map (slice_index classes) layer.mask;
}

-- a page with classes in place of indexes, and without its name
abbrev pub classed_page : List ℕ → PageData → PageData
classed_page classes page = record page { name = []; layers = map (classed classes) page.layers }

-- there is a class for each file of a layer
pub record HasClasses (classes : List ℕ) (layer : LayerData) : Type 0 where
  pub file : layer.file < length classes
  pub mask : IfSome layer.mask (λ mask. mask < length classes)

-- ---- files that are known

-- a file as a search key: its length and its bytes
abbrev pub WholeFile : Type 0
WholeFile = ℕ × Bor (List ℕ)

-- the order of files: by length, then by bytes
abbrev pub whole_cmp : WholeFile → WholeFile → Ordering
whole_cmp a b = ordering_then (nat_cmp a.0 b.0) (slice_cmp nat_cmp a.1.now b.1.now)

-- the map holds, for each of the files so far, the index of the first with the same bytes, and nothing else
pub record Knows (known : BTreeMap WholeFile ℕ) (files : List (List ℕ)) : Type 0 where
  pub each : (whole : WholeFile) → whole.0 ≡ length whole.1.now
      → get whole_cmp known whole ≡ position (bytes_eq whole.1.now) files
