-- What the rows of a layer and of a page keep.
use Rattle.std.specs.Prelude.{◌≡◌, ℕ, ◌+◌, ◌-◌, ◌*◌, ◌/◌, ◌<◌, ◌≤◌, min, Bool, true, false}
use Rattle.std.specs.Prelude.{if◌then◌else◌, IsTrue, List, All, length, map, not, replicate, slice_index}
use Rattle.std.specs.Prelude.{Option, Some, None, option_map}
use Rattle.pr_base.specs.Bits.{bit_at}
use Rattle.tif_strips.specs.Strips.{Cursor, ink_part}
use Rattle.tif_image.specs.Image.{BilevelImage}
use Rattle.page_layers.specs.declared.layer.Art.{Art}
use Rattle.page_layers.specs.declared.layer.Art.TheVariants.{Contone, Line}
use Rattle.page_layers.specs.declared.layer.Layer.{Layer}
use Rattle.page_paint.specs.declared.lay.Painting.{Painting}
use Rattle.page_paint.specs.declared.lay.Painting.TheVariants.{Whole, Knockout, Overprint}
use Rattle.page_paint.specs.Rows.{LaysSpan, painted_as}
use Rattle.page_layers.specs.declared.page_inks.PageInks.{PageInks}
use Rattle.page_layers.specs.Inks.{HasWidth, Planes, blank, inks_at, only, painted_inks}
use Rattle.page_layers.specs.Layer.{IsLayer, admits, paint_at, row_at, shape_of}
use Rattle.page_layers.specs.Reader.{IsOf, mask_cursor}

-- ---- paint over a row

-- the rows of a page with the paint of a layer over the old ones, in each painted ink
pub record LaysRow (inks : PageInks) (painting : Painting) (from : ℕ) (paint : Planes) (admitted : List ℕ)
    (old new : Planes) : Type 0 where
  pub cyan : LaysSpan (painted_as inks.colour painting) from paint.cyan admitted old.cyan new.cyan
  pub magenta : LaysSpan (painted_as inks.colour painting) from paint.magenta admitted old.magenta new.magenta
  pub yellow : LaysSpan (painted_as inks.colour painting) from paint.yellow admitted old.yellow new.yellow
  pub black : LaysSpan painting from paint.black admitted old.black new.black
  pub spot : LaysSpan (painted_as inks.spot painting) from paint.spot admitted old.spot new.spot

-- if an ink is painted, its row is 0 before one column and from another one on
pub record IsClearBeside (is_painted : Bool) (from to : ℕ) (row : List ℕ) : Type 0 where
  pub before : IsTrue is_painted → (x : ℕ) → x < from → slice_index row x ≡ 0
  pub behind : IsTrue is_painted → (x : ℕ) → to ≤ x → slice_index row x ≡ 0

-- each value of a source, `step` apart, repeated `scale` times
pub record IsStretched (source : List ℕ) (step scale count : ℕ) (into : List ℕ) : Type 0 where
  pub each : (j : ℕ) → j < count → slice_index into j ≡ slice_index source (step * (j / scale))

-- if an ink is painted, its samples of a row of pixels, the first sample at `first`, each repeated `scale`
-- times
pub record HasSamples (is_painted : Bool) (pixels : List ℕ) (first scale : ℕ) (old new : List ℕ)
    : Type 0 where
  pub long : length new ≡ length old
  pub each : IsTrue is_painted → (j : ℕ) → j < length old
      → slice_index new j ≡ slice_index pixels (first + 4 * (j / scale))

-- if an ink is painted, its samples in row y of an image, from column `first` on
pub record IsInkOf (is_painted : Bool) (image : Cursor) (y ink first : ℕ) (old new : List ℕ) : Type 0 where
  pub long : length new ≡ length old
  pub samples : IsTrue is_painted → new ≡ ink_part image.shape image.bytes y ink first (length old)

-- ---- a layer on a page of a given width

-- whether every pixel of the image paints, as in contone
abbrev pub bare_art : Art → Bool
bare_art (Contone image) = true
bare_art (Line image inks) = false

abbrev pub no_mask : Option BilevelImage → Bool
no_mask None = true
no_mask (Some mask) = false

abbrev pub is_bare : Layer → Bool
is_bare layer = if no_mask layer.mask then bare_art layer.art else false

-- how a layer is painted
abbrev pub painting_of : Layer → Painting
painting_of layer = if layer.overprint then Overprint else if is_bare layer then Whole else Knockout

-- how many columns of the page the layer covers
abbrev pub span_of : ℕ → Layer → ℕ
span_of width layer = min (layer.crop.width * layer.scale) (width - layer.x)

-- the inks that are the same in every row: none for a contone image, all inks of linework
abbrev pub fixed_of : Art → List ℕ
fixed_of (Contone image) = blank
fixed_of (Line image inks) = inks

-- paint with the inks that are the same in every row: no spot ink for a contone image, all inks of linework
abbrev pub with_fixed : Art → ℕ → Planes → Planes
with_fixed (Contone image) span paint = record paint { spot = replicate span 0 }
with_fixed (Line image inks) span paint =
    record {
      cyan = replicate span (slice_index inks 0);
      magenta = replicate span (slice_index inks 1);
      yellow = replicate span (slice_index inks 2);
      black = replicate span (slice_index inks 3);
      spot = replicate span (slice_index inks 4);
    }

-- the first values are those of a source where a test passes, and 0 elsewhere
pub record IsMarked (test : ℕ → Bool) (source : ℕ → ℕ) (count : ℕ) (marks : List ℕ) : Type 0 where
  pub each : (n : ℕ) → n < count → slice_index marks n ≡ (if test n then source n else 0)

-- whether pixel x of a row of bytes is 0, or else whether it is 1
abbrev pub bit_is : Bool → List ℕ → ℕ → Bool
bit_is zeros row x = if zeros then not (bit_at row x) else bit_at row x

-- what marks hold where a pixel is marked: 255 if they are fresh, or else what they held
abbrev pub held : Bool → List ℕ → ℕ → ℕ
held fresh old n = if fresh then 255 else slice_index old n

-- the values from one place to another, exclusive, are those of a source where a test of their place passes
-- and 0 elsewhere; all others are unchanged
pub record Marks (test : ℕ → Bool) (source : ℕ → ℕ) (from to : ℕ) (old new : List ℕ) : Type 0 where
  pub long : length new ≡ length old
  pub inside : (n : ℕ) → from ≤ n → n < to → slice_index new n ≡ (if test n then source n else 0)
  pub before : (n : ℕ) → n < from → slice_index new n ≡ slice_index old n
  pub behind : (n : ℕ) → to ≤ n → slice_index new n ≡ slice_index old n

-- the paint of a row of the image in the inks that are painted, from column `first` on, each pixel repeated
-- `scale` times
pub record IsPaint (inks : List Bool) (art : Art) (first scale row span : ℕ) (paint : Planes) : Type 0 where
  pub each : (j : ℕ) → j < span
      → only inks (inks_at paint j) ≡ only inks (paint_at art (first + j / scale) row)

-- 255 for each covered column of the page where the layer shows, and 0 elsewhere
pub record IsAdmitted (layer : Layer) (row span : ℕ) (admitted : List ℕ) : Type 0 where
  pub each : (j : ℕ) → j < span
      → slice_index admitted j ≡ (if admits layer (layer.crop.x + j / layer.scale) row then 255 else 0)

-- the paint of a row of the image at each covered column of the page, and where the layer shows
pub record IsExpanded (inks : PageInks) (layer : Layer) (row span : ℕ) (paint : Planes) (admitted : List ℕ)
    : Type 0 where
  pub paint_is : IsPaint (painted_inks inks) layer.art layer.crop.x layer.scale row span paint
  pub admits_is : IsAdmitted layer row span admitted

-- what a layer's rows keep: cursors before the same row of the image and of its mask, and the paint of the
-- row before that one
pub record IsLayerRows (layer : Layer) (width : ℕ) (painting : Painting) (image : Cursor)
    (mask : Option Cursor) (paint : Planes) (inks : PageInks) (marks admitted : List ℕ)
    (marks_room admitted_room : ℕ) : Type 0 where
  pub layer_is : IsLayer layer
  pub painting_is : painting ≡ painting_of layer
  pub sides : ((shape_of layer.art).width ≤ 65535) × ((shape_of layer.art).length ≤ 65535) × (width ≤ 65535)
  pub image_is : IsOf layer.art image
  pub mask_is : mask ≡ option_map (mask_cursor image.next) layer.mask
  pub wide : HasWidth paint (span_of width layer)
  pub fixed : paint ≡ with_fixed layer.art (span_of width layer) paint
  pub admitted_long : length admitted ≡ span_of width layer
  pub marks_long : span_of width layer ≤ length marks * layer.scale
  pub columns : length marks ≤ layer.crop.width
  pub bare : IsTrue (is_bare layer) → admitted ≡ replicate (span_of width layer) 255
  pub expanded : 0 < image.next
      → IsExpanded inks layer (image.next - 1) (span_of width layer) paint admitted
  -- both have capacity for a row of any page
  pub marks_wide : 65535 ≤ marks_room
  pub admitted_wide : 65535 ≤ admitted_room

-- what contracts see of a layer's rows: the layer, the page's width, the number of image rows passed so far,
-- and the inks in which the paint is made
pub record LayerState : Type 0 where
  pub layer : Layer
  pub width : ℕ
  pub read : ℕ
  pub inks : PageInks

-- ready for row y of the page, or for a later one
pub record IsReady (width y : ℕ) (state : LayerState) : Type 0 where
  pub width_is : state.width ≡ width
  pub scaled : 1 ≤ state.layer.scale
  pub read : state.read ≤ row_at state.layer y + 1

-- the layers of a page
abbrev pub layers_of : List LayerState → List Layer
layers_of states = map (λ state. state.layer) states

-- what a page keeps: its layers are ready for its next row, and both lists have capacity for all layers and
-- unused buffers
pub record IsPage (states : List LayerState) (width height next rooms layer_places room_places : ℕ)
    : Type 0 where
  pub wide : width ≤ 65535
  pub high : height ≤ 65535
  pub within : next ≤ height
  pub ready : All (IsReady width next) states
  pub layers_fit : length states + rooms ≤ layer_places
  pub rooms_fit : length states + rooms ≤ room_places
