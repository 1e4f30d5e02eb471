-- A generated image reads back: it passes the tests of its use, and its rows are the given ones.
use Rattle.std.proofs.Common.{◌≡◌, ℕ, ◌+◌, ◌*◌, ◌<◌, ◌≤◌, ◌==◌, if◌then◌else◌, List, length, Some, Ok, refl, sym, ap, ◌∙◌, arith}
use Rattle.std.proofs.lemmas.List.{length-append}
use Rattle.tif_dir.specs.Directory.{header_of}
use Rattle.tif_strips.specs.declared.shape.Shape.{Shape}
use Rattle.tif_strips.specs.Strips.{image_row, plane_row_length as read_row_length, planes as read_planes}
use Rattle.tif_image.specs.declared.usage.BilevelUse.{BilevelUse}
use Rattle.tif_image.specs.Image.{bilevel_shape, contone_shape, photometric}
use Rattle.tif_make.specs.declared.form.ImageForm.{ImageForm}
use Rattle.tif_make.specs.declared.form.Kind.TheVariants.{Contone}
use Rattle.tif_make.specs.declared.form.Planar.{Planar}
use Rattle.tif_make.specs.declared.form.Planar.TheVariants.{Chunky, Separate}
use Rattle.tif_make.specs.Fields.{front}
use Rattle.tif_make.specs.Form.{IsForm, photometric_of, plane_row_bytes, planes_of, row_length}
use Rattle.tif_make.specs.Image.{image_fields, image_file}
use Rattle.tif_make.specs.Made.{HasRows}
use Rattle.tif_make.specs.Strips.{begins, joined, row_at, strips}
use Rattle.job_gen.proofs.Made.{planar_number, shape_for}
use Rattle.tif_make.proofs.Bounds.{strips-twice}
use Rattle.job_gen.proofs.MadeDirectory.{header-back}
use Rattle.job_gen.proofs.MadeFields.{directory-found, first-within, front-length, looks, made_counts, made_places}
use Rattle.job_gen.proofs.MadeStrips.{HasStrips, IsShapeOf, image-row-is, strips-pass}
use Rattle.job_gen.proofs.MadeTests.{IsBilevelKind, bilevel-passes, contone-passes, photometric-back}

-- the conditions under which an image can be made
pub record IsMakeable (form : ImageForm) (rows : List ℕ) : Type 0 where
  pub form_is : IsForm form
  pub has : HasRows form rows
  pub small : form.rows_per_strip ≤ 4294967295

made-strips : (form : ImageForm) (rows : List ℕ) (shape : Shape) → IsMakeable form rows → IsShapeOf form shape → HasStrips form rows (image_file form rows) shape
unfolding image_file
made-strips form rows shape can same =
    let before = front form.order (image_fields form (made_places form rows) (made_counts form rows)) in
    let seen = looks form rows can.form_is can.has (omega (arith, can.small)) in
    record {
      form_is = can.form_is;
      has = can.has;
      same = same;
      front = before;
      file_is = refl;
      places = seen.offsets ∙ ap (λ n. Ok (Some (begins n (strips form rows)))) (sym (front-length form rows));
      counts = seen.byte_counts;
    }

-- ---- shapes

contone-planes : (planar : Planar) → (if planar_number planar == 2 then 4 else 1) ≡ planes_of Contone planar
contone-planes Chunky = refl
contone-planes Separate = refl

contone-row : (planar : Planar) (width : ℕ) → (if planar_number planar == 2 then width else 4 * width) ≡ plane_row_bytes Contone planar width
contone-row Chunky width = refl
contone-row Separate width = refl

contone-same : (form : ImageForm) → form.kind ≡ Contone → IsShapeOf form (shape_for 4 8 form)
unfolding read_planes read_row_length
contone-same form is = record {
  planes_are = contone-planes form.planar ∙ ap (λ kind. planes_of kind form.planar) (sym is);
  row_is = contone-row form.planar form.width ∙ ap (λ kind. plane_row_bytes kind form.planar form.width) (sym is);
  width_is = refl;
  length_is = refl;
  rows_are = refl;
  packed_is = refl;
}

bilevel-same : (usage : BilevelUse) (form : ImageForm) → IsBilevelKind usage form.kind → IsShapeOf form (shape_for 1 1 form)
unfolding read_planes read_row_length
bilevel-same usage form kind = record {
  planes_are = sym (kind.planes form.planar);
  row_is = sym (kind.row form.planar form.width);
  width_is = refl;
  length_is = refl;
  rows_are = refl;
  packed_is = refl;
}

-- ---- images

pub contone-back : (form : ImageForm) (rows : List ℕ) → form.kind ≡ Contone → IsMakeable form rows → contone_shape (image_file form rows) ≡ Ok (shape_for 4 8 form)
contone-back form rows is can =
    contone-passes form (made_places form rows) (made_counts form rows) (image_file form rows) is can.form_is can.small
    (looks form rows can.form_is can.has (omega (arith, can.small))) (directory-found form rows can.form_is)
    (strips-pass form rows (image_file form rows) (shape_for 4 8 form) (made-strips form rows (shape_for 4 8 form) can (contone-same form is)))

pub contone-row-back : (form : ImageForm) (rows : List ℕ) (y : ℕ) → form.kind ≡ Contone → IsMakeable form rows → y < form.length
    → image_row (shape_for 4 8 form) (image_file form rows) y ≡ row_at (row_length form) rows y
contone-row-back form rows y is can below =
    image-row-is form rows (image_file form rows) (shape_for 4 8 form) (made-strips form rows (shape_for 4 8 form) can (contone-same form is)) y below

pub bilevel-back : (usage : BilevelUse) (form : ImageForm) (rows : List ℕ) → IsBilevelKind usage form.kind → IsMakeable form rows
    → bilevel_shape usage (image_file form rows) ≡ Ok (shape_for 1 1 form)
bilevel-back usage form rows kind can =
    bilevel-passes usage form (made_places form rows) (made_counts form rows) (image_file form rows) kind can.form_is can.small
    (looks form rows can.form_is can.has (omega (arith, can.small))) (directory-found form rows can.form_is)
    (strips-pass form rows (image_file form rows) (shape_for 1 1 form) (made-strips form rows (shape_for 1 1 form) can (bilevel-same usage form kind)))

pub bilevel-row-back : (usage : BilevelUse) (form : ImageForm) (rows : List ℕ) (y : ℕ) → IsBilevelKind usage form.kind → IsMakeable form rows → y < form.length
    → image_row (shape_for 1 1 form) (image_file form rows) y ≡ row_at (row_length form) rows y
bilevel-row-back usage form rows y kind can below =
    image-row-is form rows (image_file form rows) (shape_for 1 1 form) (made-strips form rows (shape_for 1 1 form) can (bilevel-same usage form kind)) y below

-- PhotometricInterpretation and the byte order
pub photometric-of : (form : ImageForm) (rows : List ℕ) → IsMakeable form rows → photometric (image_file form rows) ≡ photometric_of form.kind
photometric-of form rows can =
    photometric-back form (made_places form rows) (made_counts form rows) (image_file form rows) (looks form rows can.form_is can.has (omega (arith, can.small)))

pub order-of : (form : ImageForm) (rows : List ℕ) → header_of (image_file form rows) ≡ Some form.order
unfolding image_file
order-of form rows = header-back form.order (image_fields form (made_places form rows) (made_counts form rows)) (joined (strips form rows))

-- the length of the file
pub file-within : (form : ImageForm) (rows : List ℕ) → IsMakeable form rows → length (image_file form rows) ≤ 3000000 + 2 * length rows
unfolding image_file
file-within form rows can =
    omega (
      arith,
      length-append (front form.order (image_fields form (made_places form rows) (made_counts form rows))) (joined (strips form rows)),
      front-length form rows,
      first-within form can.form_is,
      strips-twice form rows can.form_is can.has,
    )
