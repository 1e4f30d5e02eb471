-- What a layer's rows keep, from the first row on.
use Rattle.std.proofs.Common.{◌≡◌, ℕ, Bool, true, false, if◌then◌else◌, ◌+◌, ◌-◌, ◌*◌, ◌/◌, ◌%◌, ◌<◌, ◌≤◌, ◌++◌, IsTrue, List, length, map, take, drop, get_or, replicate, slice_index, Option, Some, None, option_map, refl, sym, ap, subst, inl, inr, ◌∙◌, arith}
use Rattle.std.proofs.Math.Nat.{mul-div-le, mul-le-mul_right}
use Rattle.std.specs.List.{range_with_len}
use Rattle.std.proofs.lemmas.List.{get_or-drop, get_or-replicate, get_or-take, length-replicate, take_at}
use Rattle.std.proofs.lemmas.List.FromFn.{get_or-map-range_with_len}
use Rattle.std.specs.Prelude.{◌==◌, ◌&&◌}
use Rattle.std.specs.Option.{ForSome}
use Rattle.std.proofs.lemmas.Bool.{cases_lt}
use Rattle.std.proofs.lemmas.Option.{same_Some}
use Rattle.tif_image.specs.Image.{BilevelImage}
use Rattle.pr_base.specs.Row.{row_size}
use Rattle.tif_strips.specs.declared.shape.Shape.{Shape}
use Rattle.tif_strips.specs.Strips.{Cursor, Image, image_part, image_row, ink_part, row_length}
use Rattle.page_layers.specs.declared.layer.Art.{Art}
use Rattle.page_layers.specs.declared.layer.Art.TheVariants.{Contone, Line}
use Rattle.page_layers.specs.declared.layer.Layer.{Layer}
use Rattle.page_paint.specs.declared.lay.Painting.{Painting}
use Rattle.page_layers.specs.declared.page_inks.PageInks.{PageInks}
use Rattle.page_layers.specs.Inks.{HasWidth, Planes, inks_at, only, painted_inks}
use Rattle.page_layers.specs.Layer.{IsLayer, admits, bytes_of, paint_at, paints_at, shape_of, shows_through}
use Rattle.page_layers.specs.Reader.{IsOf, at_row, mask_cursor}
use Rattle.page_layers.specs.Rows.{HasSamples, IsAdmitted, IsInkOf, IsLayerRows, IsMarked, IsPaint, IsStretched, bare_art, fixed_of, is_bare, no_mask, painting_of, span_of, with_fixed}
use Rattle.page_layers.proofs.Only.{only-five}

-- a row of an image has at most four bytes for each of its pixels
pub row_most : (shape : Shape) → shape.width ≤ 65535 → row_length shape ≤ 262140
row_most shape wide = cases (shape.samples == 4) shape.width wide
  where
    cases : (four : Bool) (width : ℕ) → width ≤ 65535 → (if four then 4 * width else row_size width) ≤ 262140
    cases true width wide = omega arith
    cases false width wide = omega arith

-- a mask is as wide as the image
mask_wide : (layer : Layer) (next : ℕ) (mask : Option Cursor) (reader : Cursor) → mask ≡ option_map (mask_cursor next) layer.mask → IsLayer layer → mask ≡ Some reader → reader.shape.width ≡ (shape_of layer.art).width
mask_wide layer next mask reader is fits there = cases layer.mask fits.mask_width (sym is ∙ there)
  where
    cases : (mask : Option BilevelImage) → ForSome mask (λ m. m.shape.width ≡ (shape_of layer.art).width) → option_map (mask_cursor next) mask ≡ Some reader → reader.shape.width ≡ (shape_of layer.art).width
    cases None same none = absurd (cc)
    cases (Some m) same some = sym (ap (λ (r : Cursor). r.shape.width) (same_Some (mask_cursor next m) reader some)) ∙ same m refl

-- so its rows are no longer than those of the image
pub mask_most : (layer : Layer) (next : ℕ) (mask : Option Cursor) (reader : Cursor) → mask ≡ option_map (mask_cursor next) layer.mask → IsLayer layer → (shape_of layer.art).width ≤ 65535
    → mask ≡ Some reader → row_length reader.shape ≤ 262140
mask_most layer next mask reader is fits wide there = row_most reader.shape (omega (arith, mask_wide layer next mask reader is fits there))

-- and the crop's columns are inside it
pub mask_columns : (layer : Layer) (next : ℕ) (mask : Option Cursor) (reader : Cursor) → mask ≡ option_map (mask_cursor next) layer.mask → IsLayer layer → mask ≡ Some reader
    → layer.crop.x + layer.crop.width ≤ reader.shape.width
mask_columns layer next mask reader is fits there = omega (arith, fits.columns, mask_wide layer next mask reader is fits there)

-- paint of the fixed inks has the inks that are the same in every row
fixed_paint : (art : Art) (span : ℕ) (paint : Planes) → paint.cyan ≡ replicate span (slice_index (fixed_of art) 0) → paint.magenta ≡ replicate span (slice_index (fixed_of art) 1)
    → paint.yellow ≡ replicate span (slice_index (fixed_of art) 2) → paint.black ≡ replicate span (slice_index (fixed_of art) 3) → paint.spot ≡ replicate span (slice_index (fixed_of art) 4)
    → paint ≡ with_fixed art span paint
fixed_paint (Contone image) span paint c m y k s = ap (λ spot. record paint { spot = spot }) s
fixed_paint (Line image inks) span paint c m y k s = λ i. record { cyan = c i; magenta = m i; yellow = y i; black = k i; spot = s i }

-- a row of one ink, from the known inks and width
pub inks_from : (plane inks fixed : List ℕ) (width i : ℕ) {span : ℕ} → plane ≡ replicate width (slice_index inks i) → width ≡ span → inks ≡ fixed → plane ≡ replicate span (slice_index fixed i)
inks_from plane inks fixed width i is wide same = rw (is, wide, same) refl

-- before the first row
pub IsLayerRows-open : (layer : Layer) (width columns : ℕ) (painting : Painting) (image : Cursor) (mask : Option Cursor) (paint : Planes) (inks : PageInks) (marks admitted : List ℕ) (marks_room admitted_room : ℕ)
    → IsLayer layer → painting ≡ painting_of layer → (shape_of layer.art).width ≤ 65535 → (shape_of layer.art).length ≤ 65535 → width ≤ 65535
    → image ≡ record { shape = shape_of layer.art; bytes = bytes_of layer.art; next = 0 } → mask ≡ option_map (mask_cursor 0) layer.mask
    → paint.cyan ≡ replicate (span_of width layer) (slice_index (fixed_of layer.art) 0) → paint.magenta ≡ replicate (span_of width layer) (slice_index (fixed_of layer.art) 1)
    → paint.yellow ≡ replicate (span_of width layer) (slice_index (fixed_of layer.art) 2) → paint.black ≡ replicate (span_of width layer) (slice_index (fixed_of layer.art) 3)
    → paint.spot ≡ replicate (span_of width layer) (slice_index (fixed_of layer.art) 4)
    → length marks ≡ columns → span_of width layer ≤ columns * layer.scale → columns ≤ layer.crop.width → admitted ≡ replicate (span_of width layer) 255
    → 65535 ≤ marks_room → 65535 ≤ admitted_room → IsLayerRows layer width painting image mask paint inks marks admitted marks_room admitted_room
IsLayerRows-open layer width columns painting image mask paint inks marks admitted marks_room admitted_room is painting_is wide long page image_is mask_is c m y k s marks_are enough within admitted_is marks_wide admitted_wide =
    let next : image.next ≡ 0 = ap (λ (cursor : Cursor). cursor.next) image_is in
    record {
      layer_is = is;
      painting_is = painting_is;
      sides = (wide, long, page);
      image_is = image_is ∙ ap (λ n. record { shape = shape_of layer.art; bytes = bytes_of layer.art; next = n }) (sym next);
      mask_is = mask_is ∙ ap (λ n. option_map (mask_cursor n) layer.mask) (sym next);
      wide = record {
        cyan = ap length c ∙ length-replicate (span_of width layer) (slice_index (fixed_of layer.art) 0);
        magenta = ap length m ∙ length-replicate (span_of width layer) (slice_index (fixed_of layer.art) 1);
        yellow = ap length y ∙ length-replicate (span_of width layer) (slice_index (fixed_of layer.art) 2);
        black = ap length k ∙ length-replicate (span_of width layer) (slice_index (fixed_of layer.art) 3);
        spot = ap length s ∙ length-replicate (span_of width layer) (slice_index (fixed_of layer.art) 4);
      };
      fixed = fixed_paint layer.art (span_of width layer) paint c m y k s;
      admitted_long = ap length admitted_is ∙ length-replicate (span_of width layer) 255;
      marks_long = rw marks_are enough;
      columns = omega arith;
      bare = λ bare. admitted_is;
      expanded = λ read. absurd (omega arith);
      marks_wide = marks_wide;
      admitted_wide = admitted_wide;
    }

-- a mask's cursor at another row
at_row-mask : (n next : ℕ) (mask : Option BilevelImage) → option_map (at_row n) (option_map (mask_cursor next) mask) ≡ option_map (mask_cursor n) mask
at_row-mask n next None = refl
at_row-mask n next (Some mask) = refl

-- a cursor over the image at another row
pub IsOf-row : (art : Art) (image new_image : Cursor) (n : ℕ) → IsOf art image → new_image ≡ record image { next = n } → IsOf art new_image
IsOf-row art image new_image n is image_is =
    image_is ∙ ap (λ (cursor : Cursor). record cursor { next = n }) is
    ∙ ap (λ n. record { shape = shape_of art; bytes = bytes_of art; next = n }) (sym (ap (λ (cursor : Cursor). cursor.next) image_is))

-- and one over the mask
pub mask_row : (layer : Layer) (image new_image : Cursor) (mask new_mask : Option Cursor) (n : ℕ) → mask ≡ option_map (mask_cursor image.next) layer.mask → new_image ≡ record image { next = n }
    → new_mask ≡ option_map (at_row n) mask → new_mask ≡ option_map (mask_cursor new_image.next) layer.mask
mask_row layer image new_image mask new_mask n is image_is mask_is =
    mask_is ∙ ap (option_map (at_row n)) is ∙ at_row-mask n image.next layer.mask
    ∙ ap (λ next. option_map (mask_cursor next) layer.mask) (sym (ap (λ (cursor : Cursor). cursor.next) image_is))

-- rows up to one that is not the row read last
pub rows_before : (next row read : ℕ) → read ≡ next → next ≤ row + 1 → (read ≡ row + 1 → ⊥) → next ≤ row
rows_before next row read same before other = omega (arith, other)

-- a row of the crop, and its columns, are in the image
pub crop_rows : (layer : Layer) (image : Cursor) (row : ℕ) → IsLayer layer → IsOf layer.art image → (shape_of layer.art).width ≤ 65535 → (shape_of layer.art).length ≤ 65535
    → row < layer.crop.y + layer.crop.height
    → (row < 65535) × (row < image.shape.length) × (layer.crop.x + layer.crop.width ≤ image.shape.width) × (row_length image.shape ≤ 262140)
crop_rows layer image row fits is wide long below =
    let shape : shape_of layer.art ≡ image.shape = sym (ap (λ (cursor : Cursor). cursor.shape) is) in
    let inside : row < (shape_of layer.art).length = omega (arith, fits.rows) in (
      omega arith,
      subst (λ (s : Shape). row < s.length) shape inside,
      subst (λ (s : Shape). layer.crop.x + layer.crop.width ≤ s.width) shape fits.columns,
      subst (λ (s : Shape). row_length s ≤ 262140) shape (row_most (shape_of layer.art) wide),
    )

-- a layer covers no more columns than the widest page has
pub most_span : (layer : Layer) (width : ℕ) → width ≤ 65535 → span_of width layer ≤ 65535
most_span layer width wide = omega arith

-- a number that the scale takes below a multiple of it
below_scaled : (scale n count limit : ℕ) → limit ≤ count * scale → scale * n < limit → n < count
below_scaled scale n count limit most below =
    elim (cases_lt n count) [
      | inl less ↦ less
      | inr more ↦ absurd (let scaled = mul-le-mul_right scale more in omega arith)
    ]

-- the columns of the image that show are in the crop
pub span_columns : (layer : Layer) (width span : ℕ) → span ≡ span_of width layer → (n : ℕ) → layer.scale * n < span → n < layer.crop.width
span_columns layer width span is n below = below_scaled layer.scale n layer.crop.width span (omega arith) below

-- and each has its mark
pub scaled_below : (scale n span : ℕ) (marks old_marks admitted old_admitted : List ℕ) → span ≤ length marks * scale → length admitted ≡ span → old_marks ≡ marks → old_admitted ≡ admitted
    → scale * n < length old_admitted → n < length old_marks
scaled_below scale n span marks old_marks admitted old_admitted enough long marks_are admitted_are below =
    subst (λ (list : List ℕ). n < length list) (sym marks_are) (below_scaled scale n (length marks) span enough (subst (λ m. scale * n < m) (ap length admitted_are ∙ long) below))

-- after another row
pub IsLayerRows-next : (layer : Layer) (width row marks_len admitted_len : ℕ) (painting : Painting) (image new_image : Cursor) (mask new_mask : Option Cursor) (paint new_paint : Planes) (inks : PageInks)
    (marks old_marks new_marks admitted old_admitted new_admitted : List ℕ) (marks_room admitted_room : ℕ)
    → IsLayerRows layer width painting image mask paint inks marks admitted marks_room admitted_room → new_image ≡ record image { next = row + 1 } → new_mask ≡ option_map (at_row (row + 1)) mask
    → HasWidth new_paint (length paint.cyan) → new_paint ≡ with_fixed layer.art (length paint.cyan) new_paint
    → IsPaint (painted_inks inks) layer.art layer.crop.x layer.scale (new_image.next - 1) (length paint.cyan) new_paint
    → old_marks ≡ marks → length old_marks ≡ marks_len → length new_marks ≡ length old_marks → old_admitted ≡ admitted → length old_admitted ≡ admitted_len → length new_admitted ≡ length old_admitted
    → (IsTrue (is_bare layer) → new_admitted ≡ old_admitted) → IsAdmitted layer (new_image.next - 1) (length old_admitted) new_admitted
    → IsLayerRows layer width painting new_image new_mask new_paint inks (take marks_len (new_marks ++ drop (length new_marks) marks)) (take admitted_len (new_admitted ++ drop (length new_admitted) admitted))
    marks_room admitted_room
IsLayerRows-next layer width row marks_len admitted_len painting image new_image mask new_mask paint new_paint inks marks old_marks new_marks admitted old_admitted new_admitted marks_room admitted_room is image_is mask_is
    wide fixed paint_is marks_are marks_len_is marks_long admitted_are admitted_len_is admitted_long bare admits_is =
    let span = span_of width layer in
    let long : length paint.cyan ≡ span = is.wide.cyan in
    let new_marks_are : length (take marks_len (new_marks ++ drop (length new_marks) marks)) ≡ length marks =
    ap length (take_at new_marks (drop (length new_marks) marks) marks_len (marks_long ∙ marks_len_is)) ∙ marks_long ∙ ap length marks_are in
    let written : take admitted_len (new_admitted ++ drop (length new_admitted) admitted) ≡ new_admitted =
    take_at new_admitted (drop (length new_admitted) admitted) admitted_len (admitted_long ∙ admitted_len_is) in
    let old_long : length old_admitted ≡ span = ap length admitted_are ∙ is.admitted_long in
    record {
      layer_is = is.layer_is;
      painting_is = is.painting_is;
      sides = is.sides;
      image_is = IsOf-row layer.art image new_image (row + 1) is.image_is image_is;
      mask_is = mask_row layer image new_image mask new_mask (row + 1) is.mask_is image_is mask_is;
      wide = subst (HasWidth new_paint) long wide;
      fixed = subst (λ n. new_paint ≡ with_fixed layer.art n new_paint) long fixed;
      admitted_long = ap length written ∙ admitted_long ∙ old_long;
      marks_long = subst (λ n. span ≤ n * layer.scale) (sym new_marks_are) is.marks_long;
      columns = subst (λ n. n ≤ layer.crop.width) (sym new_marks_are) is.columns;
      bare = λ is_bare. written ∙ bare is_bare ∙ admitted_are ∙ is.bare is_bare;
      expanded = λ read. record {
        paint_is = subst (λ n. IsPaint (painted_inks inks) layer.art layer.crop.x layer.scale (new_image.next - 1) n new_paint) long paint_is;
        admits_is = subst (IsAdmitted layer (new_image.next - 1) span) (sym written) (subst (λ n. IsAdmitted layer (new_image.next - 1) n new_admitted) old_long admits_is);
      };
      marks_wide = is.marks_wide;
      admitted_wide = is.admitted_wide;
    }

-- every pixel of a contone image without a mask shows
pub IsAdmitted-bare : (layer : Layer) (row span : ℕ) (admitted : List ℕ) → is_bare layer ≡ true → admitted ≡ replicate span 255 → IsAdmitted layer row span admitted
IsAdmitted-bare layer row span admitted bare is = record {
  each = λ j below.
      ap (λ list. get_or list j 0) is ∙ get_or-replicate span j 255 0 below ∙ sym (ap (λ test. if test then 255 else 0) (cases layer.art layer.mask (layer.crop.x + j / layer.scale) bare));
}
  where
    cases : (art : Art) (mask : Option BilevelImage) (column : ℕ) → (if no_mask mask then bare_art art else false) ≡ true → (paints_at art column row && shows_through mask column row) ≡ true
    cases (Contone image) None column is = refl
    cases (Line image inks) None column is = absurd (cc)
    cases art (Some mask) column is = absurd (cc)

-- at scale 1 the marks of the image's columns are those of the page's
pub IsAdmitted-once : (layer : Layer) (row span : ℕ) (marks : List ℕ) → layer.scale ≡ 1 → IsMarked (λ n. admits layer (layer.crop.x + n) row) (λ n. 255) span marks → IsAdmitted layer row span marks
IsAdmitted-once layer row span marks one marked = record {
  each = λ j below.
      let same : j ≡ j / layer.scale = rw one (omega arith) in
      marked.each j below ∙ ap (λ n. if admits layer (layer.crop.x + n) row then 255 else 0) same;
}

-- and else each is repeated
pub IsAdmitted-stretched : (layer : Layer) (row span count : ℕ) (marks admitted : List ℕ) → IsMarked (λ n. admits layer (layer.crop.x + n) row) (λ n. 255) count marks
    → IsStretched marks 1 layer.scale span admitted → ((n : ℕ) → layer.scale * n < span → n < count) → IsAdmitted layer row span admitted
IsAdmitted-stretched layer row span count marks admitted marked stretched enough = record {
  each = λ j below.
      let same : 1 * (j / layer.scale) ≡ j / layer.scale = omega arith in
      stretched.each j below ∙ ap (λ n. get_or marks n 0) same ∙ marked.each (j / layer.scale) (enough (j / layer.scale) (omega (arith, mul-div-le j layer.scale)));
}

-- paint of linework has its inks at each column
pub line_paint : (inks : List Bool) (image : BilevelImage) (values : List ℕ) (first scale row span : ℕ) (paint : Planes) → paint ≡ with_fixed (Line image values) span paint → IsPaint inks (Line image values) first scale row span paint
line_paint inks image values first scale row span paint fixed = record {
  each = λ j below.
      let c = get_or-replicate span j (slice_index values 0) 0 below in
      let m = get_or-replicate span j (slice_index values 1) 0 below in
      let y = get_or-replicate span j (slice_index values 2) 0 below in
      let k = get_or-replicate span j (slice_index values 3) 0 below in
      let s = get_or-replicate span j (slice_index values 4) 0 below in
      ap (λ (p : Planes). only inks (inks_at p j)) fixed ∙ (rw (c, m, y, k, s) refl);
}

-- a part of a row of four samples has four bytes for each column
pub part_of_four : (shape : Shape) (bytes : List ℕ) (y first count : ℕ) → shape.samples ≡ 4 → image_part shape bytes y first count ≡ take (4 * count) (drop (4 * first) (image_row shape bytes y))
part_of_four shape bytes y first count four = cases (shape.samples == 4) (ap (λ n. n == 4) four)
  where
    cases : (test : Bool) → test ≡ true
        → take (if test then 4 * count else row_size (first % 8 + count)) (drop (if test then 4 * first else first / 8) (image_row shape bytes y)) ≡ take (4 * count) (drop (4 * first) (image_row shape bytes y))
    cases true is = refl
    cases false is = absurd (cc)

-- the samples of a pixel of a contone image are its paint
contone_pixel : (inks : PageInks) (image : Image) (first count scale row : ℕ) (pixels : List ℕ) (old new : Planes) → pixels ≡ take (4 * count) (drop (4 * first) (image_row image.shape image.bytes row))
    → ((n : ℕ) → scale * n < length old.cyan → n < count) → length old.magenta ≡ length old.cyan → length old.yellow ≡ length old.cyan → length old.black ≡ length old.cyan
    → HasSamples inks.colour pixels 0 scale old.cyan new.cyan → HasSamples inks.colour pixels 1 scale old.magenta new.magenta → HasSamples inks.colour pixels 2 scale old.yellow new.yellow
    → HasSamples true pixels 3 scale old.black new.black → new.spot ≡ replicate (length old.cyan) 0 → (j : ℕ) → j < length old.cyan
    → only (painted_inks inks) (inks_at new j) ≡ only (painted_inks inks) (paint_at (Contone image) (first + j / scale) row)
contone_pixel inks image first count scale row pixels old new is enough long_m long_y long_k c m y k s j below =
    only-five inks _ _ _ _ _ _ _ _ _ _ (λ on. c.each on j below ∙ at 0 (omega arith)) (λ on. m.each on j (omega arith) ∙ at 1 (omega arith)) (λ on. y.each on j (omega arith) ∙ at 2 (omega arith))
    (k.each refl j (omega arith) ∙ at 3 (omega arith)) (λ on. ap (λ list. get_or list j 0) s ∙ get_or-replicate (length old.cyan) j 0 0 below)
  where
    at : (i : ℕ) → i < 4 → get_or pixels (i + 4 * (j / scale)) 0 ≡ get_or (image_row image.shape image.bytes row) (4 * (first + j / scale) + i) 0
    at i small =
        let all = image_row image.shape image.bytes row in
        let column : j / scale < count = enough (j / scale) (omega (arith, mul-div-le j scale)) in
        let place : 4 * first + (i + 4 * (j / scale)) ≡ 4 * (first + j / scale) + i = omega arith in
        ap (λ list. get_or list (i + 4 * (j / scale)) 0) is ∙ get_or-take (4 * count) (drop (4 * first) all) (i + 4 * (j / scale)) 0 (omega arith)
        ∙ get_or-drop (4 * first) all (i + 4 * (j / scale)) 0 ∙ ap (λ n. get_or all n 0) place

-- the samples of an image whose inks have their own planes are its paint
pub planes_paint : (inks : PageInks) (art : Art) (cursor : Cursor) (first scale row span : ℕ) (old new : Planes) → IsOf art cursor → bare_art art ≡ true → scale ≡ 1 → HasWidth old span
    → IsInkOf inks.colour cursor row 0 first old.cyan new.cyan → IsInkOf inks.colour cursor row 1 first old.magenta new.magenta → IsInkOf inks.colour cursor row 2 first old.yellow new.yellow
    → IsInkOf true cursor row 3 first old.black new.black → new.spot ≡ replicate span 0 → IsPaint (painted_inks inks) art first scale row span new
unfolding ink_part
planes_paint inks (Line image values) cursor first scale row span old new is bare one wide c m y k s = absurd (cc)
planes_paint inks (Contone image) cursor first scale row span old new is bare one wide c m y k s = record {
  each = λ j below.
      only-five inks _ _ _ _ _ _ _ _ _ _ (λ on. at j below 0 new.cyan (length old.cyan) wide.cyan (c.samples on)) (λ on. at j below 1 new.magenta (length old.magenta) wide.magenta (m.samples on))
      (λ on. at j below 2 new.yellow (length old.yellow) wide.yellow (y.samples on)) (at j below 3 new.black (length old.black) wide.black (k.samples refl))
      (λ on. ap (λ list. get_or list j 0) s ∙ get_or-replicate span j 0 0 below);
}
  where
    at : (j : ℕ) → j < span → (ink : ℕ) (plane : List ℕ) (count : ℕ) → count ≡ span → plane ≡ map (λ x. slice_index (image_row cursor.shape cursor.bytes row) (4 * x + ink)) (range_with_len first count)
        → get_or plane j 0 ≡ get_or (image_row image.shape image.bytes row) (4 * (first + j / scale) + ink) 0
    at j below ink plane count long plane_is =
        let sample = λ (x : ℕ). slice_index (image_row cursor.shape cursor.bytes row) (4 * x + ink) in
        let shape : cursor.shape ≡ image.shape = ap (λ (cursor : Cursor). cursor.shape) is in
        let bytes : cursor.bytes ≡ image.bytes = ap (λ (cursor : Cursor). cursor.bytes) is in
        let column : first + j ≡ first + j / scale = rw one (omega arith) in
        ap (λ list. get_or list j 0) plane_is
        ∙ get_or-map-range_with_len sample first count j (first + j) 0 (omega arith) refl
        ∙ ap sample column
        ∙ rw (shape, bytes) refl

-- and those of a row are the row's paint
pub contone_paint : (inks : PageInks) (image : Image) (first count scale row : ℕ) (pixels : List ℕ) (old new : Planes) → pixels ≡ take (4 * count) (drop (4 * first) (image_row image.shape image.bytes row))
    → ((n : ℕ) → scale * n < length old.cyan → n < count) → length old.magenta ≡ length old.cyan → length old.yellow ≡ length old.cyan → length old.black ≡ length old.cyan
    → HasSamples inks.colour pixels 0 scale old.cyan new.cyan → HasSamples inks.colour pixels 1 scale old.magenta new.magenta → HasSamples inks.colour pixels 2 scale old.yellow new.yellow
    → HasSamples true pixels 3 scale old.black new.black → new.spot ≡ replicate (length old.cyan) 0 → IsPaint (painted_inks inks) (Contone image) first scale row (length old.cyan) new
contone_paint inks image first count scale row pixels old new is enough long_m long_y long_k c m y k s =
    record { each = contone_pixel inks image first count scale row pixels old new is enough long_m long_y long_k c m y k s }
