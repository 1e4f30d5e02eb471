-- The strips of a file that passes all tests.
use Rattle.std.proofs.Common.{◌≡◌, ℕ, List, Option, Some, None, Result, Ok, Err, refl, ap, sym, ◌∙◌}
use Rattle.pr_base.specs.declared.fault.TagFault.{TagFault}
use Rattle.tif_dir.specs.Directory.{dir_fault}
use Rattle.tif_strips.specs.declared.shape.Shape.{Shape}
use Rattle.tif_strips.specs.Strips.{strip_fault}
use Rattle.tif_image.specs.declared.usage.Usage.{Usage}
use Rattle.tif_image.specs.Fields.{◌>>=◌, ◌>>◌, no_fault}
use Rattle.tif_image.specs.Image.{image_fields, shape_of}

same_Ok : (x y : Shape) → ◌≡◌ {A = Result Shape TagFault} (Ok x) (Ok y) → x ≡ y
same_Ok x y e = cc

from_shape : (dir : Option TagFault) (fields : Result Shape TagFault) (strips : Shape → Option TagFault) (shape : Shape)
    → (no_fault dir >> (fields >>= (λ s. no_fault (strips s) >> Ok s))) ≡ Ok shape → strips shape ≡ None
from_shape (Some fault) fields strips shape is = cc
from_shape None (Err fault) strips shape is = cc
from_shape None (Ok s) strips shape is = by (strips s) refl is
  where
    by : (o : Option TagFault) → strips s ≡ o → (no_fault o >> Ok s) ≡ Ok shape → strips shape ≡ None
    by (Some fault) there is = cc
    by None there is = sym (ap {A = Shape} strips (same_Ok s shape is)) ∙ there

pub strips_pass : (usage : Usage) (bytes : List ℕ) (shape : Shape) → shape_of usage bytes ≡ Ok shape → strip_fault shape bytes ≡ None
unfolding shape_of
strips_pass usage bytes shape is = from_shape (dir_fault bytes) (image_fields usage bytes) (λ s. strip_fault s bytes) shape is
