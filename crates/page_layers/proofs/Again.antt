-- Rows of an image that equal the row above them have the same paint.
use Rattle.std.proofs.Common.{◌≡◌, ℕ, Bool, true, false, if◌then◌else◌, ◌+◌, ◌-◌, ◌*◌, ◌/◌, ◌<◌, ◌≤◌, IsTrue, List, Option, Some, None, option_map, refl, sym, ap, subst, ◌∙◌, arith}
use Rattle.std.proofs.Math.Nat.{mul-div-le}
use Rattle.tif_image.specs.Image.{BilevelImage}
use Rattle.tif_strips.specs.Again.{ComesAgain}
use Rattle.tif_strips.specs.Strips.{Cursor}
use Rattle.page_layers.specs.declared.layer.Art.{Art}
use Rattle.page_layers.specs.declared.layer.Art.TheVariants.{Contone, Line}
use Rattle.page_layers.specs.declared.layer.Layer.{Layer}
use Rattle.page_paint.specs.declared.lay.Painting.{Painting}
use Rattle.page_layers.specs.declared.page_inks.PageInks.{PageInks}
use Rattle.page_layers.specs.Inks.{Planes, only, painted_inks}
use Rattle.page_layers.specs.Layer.{paint_at, shape_of}
use Rattle.page_layers.specs.Reader.{IsOf, mask_cursor}
use Rattle.page_layers.specs.Rows.{IsLayerRows, IsPaint, bare_art, is_bare, no_mask, span_of}
use Rattle.page_layers.proofs.Layers.{IsAdmitted-bare, IsOf-row, span_columns}
use Rattle.page_layers.proofs.Only.{only-five}

-- what a pixel paints in the painted inks is what the pixel above it paints
again_paint : (inks : PageInks) (art : Art) (cursor : Cursor) (column row : ℕ) → bare_art art ≡ true → IsOf art cursor → ComesAgain cursor.shape cursor.bytes inks.colour row → column < (shape_of art).width
    → only (painted_inks inks) (paint_at art column (row - 1)) ≡ only (painted_inks inks) (paint_at art column row)
again_paint inks (Line image values) cursor column row bare is again within = absurd (cc)
again_paint inks (Contone image) cursor column row bare is again within =
    let shape : cursor.shape ≡ image.shape = ap (λ (cursor : Cursor). cursor.shape) is in
    let bytes : cursor.bytes ≡ image.bytes = ap (λ (cursor : Cursor). cursor.bytes) is in
    let same : ComesAgain image.shape image.bytes inks.colour row = rw (shape, bytes) at again in
    only-five inks _ _ _ _ _ _ _ _ _ _ (λ on. sym (same.cyan on column within)) (λ on. sym (same.magenta on column within)) (λ on. sym (same.yellow on column within)) (sym (same.black column within)) (λ on. refl)

-- there is no mask to move
mask_stays : (art : Art) (mask : Option BilevelImage) (a b : ℕ) → (if no_mask mask then bare_art art else false) ≡ true → option_map (mask_cursor a) mask ≡ option_map (mask_cursor b) mask
mask_stays art None a b bare = refl
mask_stays art (Some mask) a b bare = absurd (cc)

art_bare : (art : Art) (mask : Option BilevelImage) → (if no_mask mask then bare_art art else false) ≡ true → bare_art art ≡ true
art_bare art None bare = bare
art_bare art (Some mask) bare = absurd (cc)

-- a row later, with the same paint
pub IsLayerRows-again : (layer : Layer) (width row : ℕ) (painting : Painting) (image new_image : Cursor) (mask : Option Cursor) (paint : Planes) (inks : PageInks) (marks admitted : List ℕ) (marks_room admitted_room : ℕ)
    → IsLayerRows layer width painting image mask paint inks marks admitted marks_room admitted_room → is_bare layer ≡ true → image.next ≡ row → ComesAgain image.shape image.bytes inks.colour row
    → new_image ≡ record image { next = row + 1 } → IsLayerRows layer width painting new_image mask paint inks marks admitted marks_room admitted_room
IsLayerRows-again layer width row painting image new_image mask paint inks marks admitted marks_room admitted_room is bare at again new_is =
    let span = span_of width layer in
    let some : 0 < row = again.below in
    let here : new_image.next - 1 ≡ row = omega (arith, ap (λ (cursor : Cursor). cursor.next) new_is) in
    let old = is.expanded (omega arith) in
    let paints = art_bare layer.art layer.mask bare in
    record {
      layer_is = is.layer_is;
      painting_is = is.painting_is;
      sides = is.sides;
      image_is = IsOf-row layer.art image new_image (row + 1) is.image_is new_is;
      mask_is = is.mask_is ∙ mask_stays layer.art layer.mask image.next new_image.next bare;
      wide = is.wide;
      fixed = is.fixed;
      admitted_long = is.admitted_long;
      marks_long = is.marks_long;
      columns = is.columns;
      bare = is.bare;
      expanded = λ read. record {
        paint_is = record {
          each = λ j below.
              let front : layer.scale * (j / layer.scale) ≤ j = mul-div-le j layer.scale in
              let column : j / layer.scale < layer.crop.width = span_columns layer width span refl (j / layer.scale) (omega arith) in
              old.paint_is.each j below
              ∙ ap (λ y. only (painted_inks inks) (paint_at layer.art (layer.crop.x + j / layer.scale) y)) (ap (λ n. n - 1) at)
              ∙ again_paint inks layer.art image (layer.crop.x + j / layer.scale) row paints is.image_is again (omega (arith, is.layer_is.columns))
              ∙ ap (λ y. only (painted_inks inks) (paint_at layer.art (layer.crop.x + j / layer.scale) y)) (sym here);
        };
        admits_is = IsAdmitted-bare layer (new_image.next - 1) span admitted bare (is.bare bare);
      };
      marks_wide = is.marks_wide;
      admitted_wide = is.admitted_wide;
    }
