-- The definitions evaluated on a small job: a section of two black pages, of which the second, on the left,
-- shows an image of 4 by 1 pixels at scale 2 under Bayer's tile of side 4.
use Rattle.std.proofs.Common.{◌≡◌, ℕ, false, List, [], ◌∷◌, ◌++◌, None, refl}
use Rattle.std.specs.Prelude.{codes}
use Rattle.pr_base.specs.Bits.{packed_row}
use Rattle.tif_dir.specs.Directory.{directory_of, field_of, number_at}
use Rattle.tif_strips.specs.Strips.{planes, plane_row_length, strips_per_plane, strip_count, strip_rows, needed_length, strip_offset, strip_size, stored_bytes, strip_data, fault_of_strip, strip_fault, plane_data, plane_row, planar_pixel, image_row}
use Rattle.tif_image.specs.Fields.{bits_each, full_dot_range, no_tiles, number_among, number_within}
use Rattle.tif_image.specs.Image.{image_fields, shape_of}
use Rattle.page_layers.specs.Layer.{ink_at}
use Rattle.scr_tile.specs.Tile.{index_in}
use Rattle.plan_parts.specs.declared.printing.Screen.TheVariants.{Bayer}
use Rattle.plan_parts.specs.declared.layer.PlanLayer.{PlanLayer}
use Rattle.plan_json.specs.Data.{PlanData}
use Rattle.plan_pages.specs.Pages.{chosen_page}
use Rattle.plan_pages.specs.Plate.{is_marked_at}
use Rattle.plan_rows.specs.Groups.{group_of, site_pages, pair_groups, section_groups, groups_of}
use Rattle.plan_rows.specs.Rows.{places_in}
use Rattle.plan_rows.proofs.SmallPlan.{small as bare}
use Rattle.press_job.specs.Layers.{layers_of}
use Rattle.press_job.specs.Printing.{page_bit, printed_at}
use Rattle.press_job.specs.Rows.{plate_bit, plate_rows}
use Rattle.press_job.specs.Tones.{identity}
use Rattle.press_job.specs.Tests.{fault_of_file, fault_of_layers, layer_fault, fit_fault}

-- an entry of one value: tag, type, count and value
abbrev entry : ℕ → ℕ → ℕ → ℕ → List ℕ
entry low kind count value = low ∷ 1 ∷ kind ∷ 0 ∷ count ∷ 0 ∷ 0 ∷ 0 ∷ value ∷ 0 ∷ 0 ∷ 0 ∷ []

-- a contone image of 4 by 1 pixels: K is 1, 127, 31 and 255, and the other inks are 0
abbrev image : List ℕ
image =
    (73 ∷ 73 ∷ 42 ∷ 0 ∷ 8 ∷ 0 ∷ 0 ∷ 0 ∷ 9 ∷ 0 ∷ [])
    ++ entry 0 4 1 4 ++ entry 1 4 1 1 ++ entry 2 3 4 122 ++ entry 3 3 1 1 ++ entry 6 3 1 5 ++ entry 17 4 1 130
    ++ entry 21 3 1 4 ++ entry 22 4 1 1 ++ entry 23 4 1 16 ++ (0 ∷ 0 ∷ 0 ∷ 0 ∷ [])
    ++ (8 ∷ 0 ∷ 8 ∷ 0 ∷ 8 ∷ 0 ∷ 8 ∷ 0 ∷ [])
    ++ (0 ∷ 0 ∷ 0 ∷ 1 ∷ 0 ∷ 0 ∷ 0 ∷ 127 ∷ 0 ∷ 0 ∷ 0 ∷ 31 ∷ 0 ∷ 0 ∷ 0 ∷ 255 ∷ [])

abbrev pub layer : PlanLayer
layer = record {
  line = false;
  file = 0;
  x = 0;
  y = 0;
  scale = 2;
  crop = None;
  mask = None;
  overprint = false;
  ink = 0 ∷ 0 ∷ 0 ∷ 0 ∷ 0 ∷ [];
}

abbrev pub small : PlanData
small = record bare {
  screens = Bayer 8 ∷ Bayer 8 ∷ Bayer 8 ∷ Bayer 4 ∷ Bayer 8 ∷ [];
  curves = identity ∷ identity ∷ identity ∷ identity ∷ identity ∷ [];
  pages =
      record { name = codes "w"; colour = false; spot = false; layers = [] }
      ∷ record { name = codes "p"; colour = false; spot = false; layers = layer ∷ [] } ∷ [];
  sections = record { name = codes "A"; pages = 0 ∷ 1 ∷ [] } ∷ [];
  zones = [];
  sites = record { name = codes "OSLO"; zone = None } ∷ [];
  files = codes "a.tif" ∷ [];
}

-- the image and its layer pass all tests
pub small_passes : fault_of_file small 0 image ≡ None
unfolding fault_of_file layer_fault shape_of image_fields no_tiles number_within number_among bits_each full_dot_range number_at field_of directory_of planes plane_row_length strips_per_plane strip_count strip_rows needed_length strip_offset strip_size stored_bytes strip_data fault_of_strip strip_fault plane_data plane_row planar_pixel image_row
small_passes = refl

pub small_fits : fault_of_layers small (image ∷ []) ≡ None
unfolding fault_of_layers fit_fault number_at field_of directory_of
small_fits = refl

-- the two rows of the black plate
pub small_rows : plate_rows small (image ∷ []) ≡ (171 ∷ 0 ∷ []) ∷ (19 ∷ 0 ∷ []) ∷ []
unfolding plate_rows plate_bit page_bit printed_at layers_of ink_at index_in packed_row is_marked_at groups_of section_groups pair_groups group_of site_pages chosen_page places_in shape_of image_fields no_tiles number_within number_among bits_each full_dot_range number_at field_of directory_of planes plane_row_length strips_per_plane strip_count strip_rows needed_length strip_offset strip_size stored_bytes strip_data fault_of_strip strip_fault plane_data plane_row planar_pixel image_row
small_rows = refl
