-- What a page prints at each pixel: its ink values and its bits. Pixels are counted from the top left corner
-- of the page.
use Rattle.std.specs.Prelude.{ℕ, Bool, true, if◌then◌else◌, List, [], map, slice_index, slice_index_or}
use Rattle.std.specs.List.{range_with_len}
use Rattle.pr_base.specs.declared.ink.Ink.{Ink}
use Rattle.pr_base.specs.declared.ink.Ink.TheVariants.{C, M, Y, K, S}
use Rattle.page_layers.specs.Layer.{ink_at}
use Rattle.page_tone.specs.Curve.{curve_value}
use Rattle.page_tone.specs.Limit.{limited}
use Rattle.scr_tile.specs.Tile.{threshold_at, tile_bit}
use Rattle.scr_tile.specs.AnyTile.{threshold_of}
use Rattle.scr_tile.specs.declared.any_tile.AnyTile.TheVariants as tile_kinds
use Rattle.scr_diffuse.specs.Diffusion.{diffused_bit}
use Rattle.plan_parts.specs.declared.printing.Screen.{Screen}
use Rattle.plan_parts.specs.declared.printing.Screen.TheVariants.{Bayer, Diffuse, Own}
use Rattle.plan_json.specs.Data.{PlanData}
use Rattle.pr_base.specs.Ink.{slot_of}
use Rattle.plan_rows.specs.Groups.{page_colour, page_spot}
use Rattle.press_job.specs.Layers.{layers_of}

-- ---- values

-- a page prints K, also C, M and Y if it is in colour, and S if it has a spot
abbrev pub prints_ink : Bool → Bool → Ink → Bool
prints_ink colour spot C = colour
prints_ink colour spot M = colour
prints_ink colour spot Y = colour
prints_ink colour spot K = true
prints_ink colour spot S = spot

-- a value of an ink after its curve
abbrev pub toned : PlanData → Ink → ℕ → ℕ
toned plan ink value = curve_value (slice_index_or plan.curves (slot_of ink) []) value

-- the value of one of the five inks at a pixel after its curve; 0 if the page does not print the ink
abbrev pub toned_ink : PlanData → Bool → Bool → List ℕ → Ink → ℕ
toned_ink plan colour spot inks ink =
    if prints_ink colour spot ink then toned plan ink (slice_index inks (slot_of ink)) else 0

-- the values of C, M, Y and K under the plan's ink limit
abbrev pub limited_inks : PlanData → Bool → Bool → List ℕ → List ℕ
limited_inks plan colour spot inks =
    let value = toned_ink plan colour spot inks in
    limited (value C) (value M) (value Y) (value K) plan.limit

-- what a page prints of an ink, from the five values at a pixel; S is not limited
abbrev pub printed_ink : PlanData → Bool → Bool → List ℕ → Ink → ℕ
printed_ink plan colour spot inks C = slice_index (limited_inks plan colour spot inks) 0
printed_ink plan colour spot inks M = slice_index (limited_inks plan colour spot inks) 1
printed_ink plan colour spot inks Y = slice_index (limited_inks plan colour spot inks) 2
printed_ink plan colour spot inks K = slice_index (limited_inks plan colour spot inks) 3
printed_ink plan colour spot inks S = toned_ink plan colour spot inks S

-- the value that a page prints of an ink at a pixel
unfoldable pub printed_at : PlanData → List (List ℕ) → ℕ → Ink → ℕ → ℕ → ℕ
printed_at plan files page ink x y =
    printed_ink plan (page_colour plan page) (page_spot plan page) (ink_at
    (layers_of plan files page) x y) ink

-- ---- rows of values

-- row y of an ink on a page
abbrev pub printed_row : PlanData → List (List ℕ) → ℕ → Ink → ℕ → List ℕ
printed_row plan files page ink y = map (λ x. printed_at plan files page ink x y)
    (range_with_len 0 plan.page_width)

-- all values of an ink on a page, row by row
unfoldable pub page_values : PlanData → List (List ℕ) → ℕ → Ink → List (List ℕ)
page_values plan files page ink = map (printed_row plan files page ink) (range_with_len 0 plan.page_height)

-- ---- bits

-- the threshold of a pixel under repetitions of one of the plan's tiles; a tile that the plan does not have
-- is empty
abbrev pub own_threshold : PlanData → ℕ → ℕ → ℕ → ℕ
own_threshold plan tile x y =
    let it = slice_index_or plan.tiles tile (record { name = []; width = 0; height = 0; at = [] }) in
    threshold_of (tile_kinds.Own (record { width = it.width; height = it.height; at = it.at })) x y

-- the bit of a pixel under a screen
abbrev pub bit_under : PlanData → List (List ℕ) → ℕ → Ink → ℕ → ℕ → Screen → Bool
bit_under plan files page ink x y (Bayer side) = tile_bit (printed_at plan files page ink x y)
    (threshold_at side x y)
bit_under plan files page ink x y (Own tile) = tile_bit (printed_at plan files page ink x y)
    (own_threshold plan tile x y)
bit_under plan files page ink x y Diffuse = diffused_bit (page_values plan files page ink) x y

-- the plan's screen for an ink
abbrev pub screen_of : PlanData → Ink → Screen
screen_of plan ink = slice_index_or plan.screens (slot_of ink) Diffuse

-- whether a page prints an ink at a pixel
unfoldable pub page_bit : PlanData → List (List ℕ) → ℕ → Ink → ℕ → ℕ → Bool
page_bit plan files page ink x y = bit_under plan files page ink x y (screen_of plan ink)
