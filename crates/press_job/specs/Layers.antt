-- The layers of a page, from the plan and the bytes of its files in the order of the plan's list.
use Rattle.std.specs.Prelude.{ℕ, false, if◌then◌else◌, List, [], map, slice_get, slice_index, slice_index_or}
use Rattle.std.specs.Prelude.{Option, Some, None, Result, option_map}
use Rattle.std.specs.Option.{option_map_or}
use Rattle.std.specs.Result.{result_unwrap_or}
use Rattle.pr_base.specs.declared.fault.TagFault.{TagFault}
use Rattle.tif_strips.specs.declared.shape.Shape.{Shape}
use Rattle.tif_image.specs.declared.usage.BilevelUse.{BilevelUse}
use Rattle.tif_image.specs.declared.usage.BilevelUse.TheVariants as usage
use Rattle.tif_image.specs.Found.{nothing}
use Rattle.tif_image.specs.Image.{BilevelImage, contone_shape, bilevel_shape}
use Rattle.page_layers.specs.declared.layer.Art.{Art}
use Rattle.page_layers.specs.declared.layer.Art.TheVariants.{Contone, Line}
use Rattle.page_layers.specs.declared.layer.Crop.{Crop}
use Rattle.page_layers.specs.declared.layer.Layer.{Layer}
use Rattle.page_layers.specs.Layer.{shape_of}
use Rattle.plan_parts.specs.Data.{LayerData}
use Rattle.plan_json.specs.Data.{PlanData}

-- the bytes of the file with this index
abbrev pub bytes_at : List (List ℕ) → ℕ → List ℕ
bytes_at files file = slice_index_or files file []

-- the shape in the fields of a file; a shape without pixels for a file that is refused
abbrev pub shape_told : Result Shape TagFault → Shape
shape_told told = result_unwrap_or told nothing.shape

-- a file as a bilevel image for this use
abbrev pub bilevel_of : BilevelUse → List ℕ → BilevelImage
bilevel_of usage bytes = record {
  usage = usage;
  shape = shape_told (bilevel_shape usage bytes);
  bytes = bytes;
}

-- the art that a layer makes of a file
abbrev pub art_in : List ℕ → LayerData → Art
art_in bytes layer =
    if layer.line then Line (bilevel_of usage.Line bytes) layer.ink
    else Contone (record { shape = shape_told (contone_shape bytes); bytes = bytes })

-- the art of a layer
abbrev pub art_of : List (List ℕ) → LayerData → Art
art_of files layer = art_in (bytes_at files layer.file) layer

-- the part of an image that is shown: the crop (x, y, width and height), or the whole image
abbrev pub crop_of : Shape → Option (List ℕ) → Crop
crop_of shape None = record { x = 0; y = 0; width = shape.width; height = shape.length }
crop_of shape (Some crop) =
    record {
      x = slice_index crop 0;
      y = slice_index crop 1;
      width = slice_index crop 2;
      height = slice_index crop 3;
    }

-- a layer of the plan as a layer of images
abbrev pub layer_of : List (List ℕ) → LayerData → Layer
layer_of files layer = record {
  art = art_of files layer;
  mask = option_map (λ mask. bilevel_of usage.Mask (bytes_at files mask)) layer.mask;
  x = layer.x;
  y = layer.y;
  scale = layer.scale;
  crop = crop_of (shape_of (art_of files layer)) layer.crop;
  overprint = layer.overprint;
}

-- the plan's layers of a page
abbrev pub planned_layers : PlanData → ℕ → List LayerData
planned_layers plan page = option_map_or (λ p. p.layers) (slice_get plan.pages page) []

-- the layers of a page, the bottom one first
unfoldable pub layers_of : PlanData → List (List ℕ) → ℕ → List Layer
layers_of plan files page = map (layer_of files) (planned_layers plan page)
