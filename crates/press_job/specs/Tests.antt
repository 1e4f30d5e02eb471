-- The tests of a plan's files: each for its uses, and then each layer's crop and mask against its image.
use Rattle.std.specs.Prelude.{◌≡◌, ℕ, ◌+◌, ◌==◌, ◌<◌, not, nat_lt, Bool, if◌then◌else◌, List, ◌∷◌, length}
use Rattle.std.specs.Prelude.{slice_index, Option, Some, None, option_map, option_to_list}
use Rattle.std.specs.Option.{option_or}
use Rattle.std.specs.Result.{result_err, result_unwrap_or}
use Rattle.pr_base.specs.declared.fault.TagFault.{TagFault}
use Rattle.pr_base.specs.declared.fault.FaultKind.{FaultKind}
use Rattle.pr_base.specs.declared.fault.FaultKind.TheVariants as kind
use Rattle.tif_dir.specs.Directory.{number_at}
use Rattle.tif_dir.specs.Names.{image_width, image_length}
use Rattle.tif_image.specs.declared.usage.BilevelUse.TheVariants.{Line, Mask}
use Rattle.tif_image.specs.Image.{shape_of}
use Rattle.plan_parts.specs.Data.{PageData, LayerData}
use Rattle.plan_json.specs.Data.{PlanData}
use Rattle.press_job.specs.declared.fit.Misfit.{Misfit}
use Rattle.tif_image.specs.declared.usage.Usage.{Usage}
use Rattle.tif_image.specs.declared.usage.Usage.TheVariants.{Contone, Bilevel}
use Rattle.pr_base.specs.First.{first_some}
use Rattle.press_job.specs.Layers.{bytes_at}

-- ---- the uses of a file

-- the first fault of a file for a use, if it has one
abbrev pub fault_for : Usage → List ℕ → Option TagFault
fault_for usage bytes = result_err (shape_of usage bytes)

-- the use of a layer's image
abbrev pub use_of : LayerData → Usage
use_of layer = if layer.line then Bilevel Line else Contone

-- the files that a layer mentions, each with its use, the image before the mask
abbrev pub mentions_of : LayerData → List (ℕ × Usage)
mentions_of layer = (layer.file, use_of layer) ∷ option_to_list (option_map (λ mask.
    (mask, Bilevel Mask)) layer.mask)

-- the fault of a file's bytes for a mention; none if another file is mentioned
abbrev pub mention_fault : ℕ → List ℕ → ℕ × Usage → Option TagFault
mention_fault file bytes (other, usage) = if other == file then fault_for usage bytes else None

unfoldable pub layer_fault : ℕ → List ℕ → LayerData → Option TagFault
layer_fault file bytes layer = first_some (mention_fault file bytes) (mentions_of layer)

abbrev pub page_fault : ℕ → List ℕ → PageData → Option TagFault
page_fault file bytes page = first_some (layer_fault file bytes) page.layers

-- the first fault of a file for its uses, in the order in which layers mention them
unfoldable pub fault_of_file : PlanData → ℕ → List ℕ → Option TagFault
fault_of_file plan file bytes = first_some (page_fault file bytes) plan.pages

-- ---- crops and masks

-- the pixels per row of a file's image, and its rows
abbrev pub width_of : List ℕ → ℕ
width_of bytes = result_unwrap_or (number_at bytes image_width 0 1) 0

abbrev pub length_of : List ℕ → ℕ
length_of bytes = result_unwrap_or (number_at bytes image_length 0 1) 0

-- a fault found by a test
abbrev pub fault_where : Bool → ℕ → ℕ → FaultKind → Option Misfit
fault_where found file tag kind = if found then Some (record {
  file = file;
  tag = tag;
  kind = kind;
}) else None

-- a crop ends within an image of these sides: its width is tested first, then its height
abbrev pub crop_outside : ℕ → ℕ → ℕ → Option (List ℕ) → Option Misfit
crop_outside file width length None = None
crop_outside file width length (Some crop) =
    option_or (fault_where (nat_lt width
    (slice_index crop 0 + slice_index crop 2)) file image_width kind.Crop)
    (fault_where (nat_lt length
    (slice_index crop 1 + slice_index crop 3)) file image_length kind.Crop)

-- a crop ends within the image of a file
abbrev pub crop_fault : ℕ → List ℕ → Option (List ℕ) → Option Misfit
crop_fault file bytes crop = crop_outside file (width_of bytes) (length_of bytes) crop

-- a mask has the sides of a whole image: its width is tested first, then its length
abbrev pub mask_unlike : List (List ℕ) → ℕ → ℕ → Option ℕ → Option Misfit
mask_unlike files width length None = None
mask_unlike files width length (Some mask) =
    let own = bytes_at files mask in
    option_or (fault_where (not (width_of own == width)) mask image_width kind.MaskSize)
    (fault_where (not (length_of own == length)) mask image_length kind.MaskSize)

-- a mask has the sides of the image in a file
abbrev pub mask_fault : List (List ℕ) → List ℕ → Option ℕ → Option Misfit
mask_fault files bytes mask = mask_unlike files (width_of bytes) (length_of bytes) mask

-- the first fault of a layer; a fault of the crop names the image, a fault of the mask names the mask
unfoldable pub fit_fault : List (List ℕ) → LayerData → Option Misfit
fit_fault files layer =
    let bytes = bytes_at files layer.file in
    option_or (crop_fault layer.file bytes layer.crop) (mask_fault files bytes layer.mask)

abbrev pub page_fit_fault : List (List ℕ) → PageData → Option Misfit
page_fit_fault files page = first_some (fit_fault files) page.layers

-- the first fault of all layers, page by page
unfoldable pub fault_of_layers : PlanData → List (List ℕ) → Option Misfit
fault_of_layers plan files = first_some (page_fit_fault files) plan.pages

-- ---- files that pass

-- each of these first files passes the tests of its uses
pub record ArePassed (plan : PlanData) (files : List (List ℕ)) : Type 0 where
  pub each : (file : ℕ) → file < length files → fault_of_file plan file (bytes_at files file) ≡ None
