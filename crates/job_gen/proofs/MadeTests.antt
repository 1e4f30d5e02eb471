-- A generated image passes the tests of its fields.
use Rattle.std.proofs.Common.{◌≡◌, ℕ, ◌≤◌, true, nat_le, ◌==◌, List, [], ◌∷◌, Some, None, Ok, refl, ap, ◌∙◌, arith}
use Rattle.std.specs.List.{list_any}
use Rattle.std.specs.Result.{result_unwrap_or}
use Rattle.std.proofs.lemmas.Bool.Decides.{nat_tests}
use Rattle.pr_base.specs.declared.fault.FaultKind.{FaultKind}
use Rattle.pr_base.specs.declared.fault.FaultKind.TheVariants.{Planar as PlanarFault}
use Rattle.tif_dir.specs.Directory.{dir_fault, field_of, number_at}
use Rattle.tif_dir.specs.Table.{default_of}
use Rattle.tif_dir.proofs.Fields.{number_at-absent, number_at-present}
use Rattle.tif_strips.specs.Strips.{strip_fault}
use Rattle.pr_base.specs.Row.{row_size}
use Rattle.tif_image.specs.declared.usage.BilevelUse.{BilevelUse}
use Rattle.tif_image.specs.declared.usage.BilevelUse.TheVariants.{Line as LineUse, Mask as MaskUse}
use Rattle.tif_image.specs.declared.usage.Usage.TheVariants.{Bilevel}
use Rattle.tif_image.specs.Fields.{bits_each, full_dot_range, no_tiles, number_among, number_within}
use Rattle.tif_image.specs.Image.{bilevel_shape, contone_shape, image_fields, photometric, shape_of}
use Rattle.tif_image.specs.Usage.{photometrics_of}
use Rattle.tif_make.specs.declared.form.ImageForm.{ImageForm}
use Rattle.tif_make.specs.declared.form.Kind.{Kind}
use Rattle.tif_make.specs.declared.form.Kind.TheVariants.{Contone, Line, Mask}
use Rattle.tif_make.specs.declared.form.Planar.{Planar}
use Rattle.tif_make.specs.declared.form.Planar.TheVariants.{Chunky, Separate}
use Rattle.tif_make.specs.declared.form.Compression.{Compression}
use Rattle.tif_make.specs.declared.form.Compression.TheVariants.{Uncompressed, PackBits}
use Rattle.tif_make.specs.Form.{IsForm, bits_of, compression_of, photometric_of, plane_row_bytes, planes_of, samples_of}
use Rattle.job_gen.proofs.Made.{planar_number, shape_for}
use Rattle.job_gen.proofs.MadeFields.{Looks, planar_values}

-- ---- one field

within-back : (file : List ℕ) (tag least most : ℕ) (kind : FaultKind) (value : ℕ) → field_of file tag ≡ Ok (Some (value ∷ [])) → least ≤ value → value ≤ most
    → number_within file tag least most kind ≡ Ok value
unfolding number_within
within-back file tag least most kind value h low high =
    let n : number_at file tag 0 1 ≡ Ok value = number_at-present file tag 0 1 (value ∷ []) h (omega arith) in
    let a : nat_le least value ≡ true = grind (arith, nat_tests) in
    let b : nat_le value most ≡ true = grind (arith, nat_tests) in
    rw (n, a, b) refl

among-back : (file : List ℕ) (tag : ℕ) (accepted : List ℕ) (kind : FaultKind) (value : ℕ) → field_of file tag ≡ Ok (Some (value ∷ []))
    → list_any (λ number. number == value) accepted ≡ true → number_among file tag accepted kind ≡ Ok value
unfolding number_among
among-back file tag accepted kind value h is =
    let n : number_at file tag 0 1 ≡ Ok value = number_at-present file tag 0 1 (value ∷ []) h (omega arith) in
    rw (n, is) refl

absent-back : (file : List ℕ) (tag : ℕ) (accepted : List ℕ) (kind : FaultKind) (value : ℕ) → field_of file tag ≡ Ok None → default_of tag 0 ≡ Some value
    → list_any (λ number. number == value) accepted ≡ true → number_among file tag accepted kind ≡ Ok value
unfolding number_among
absent-back file tag accepted kind value h default is =
    let n = number_at-absent file tag 0 1 h in
    rw (n, default, is) refl

compression-known : (compression : Compression) → list_any (λ number. number == compression_of compression) (1 ∷ 32773 ∷ []) ≡ true
compression-known Uncompressed = refl
compression-known PackBits = refl

planar-back : (planar : Planar) (file : List ℕ) → field_of file 284 ≡ Ok (planar_values planar)
    → number_among file 284 (1 ∷ 2 ∷ []) PlanarFault ≡ Ok (planar_number planar)
planar-back Chunky file h = absent-back file 284 (1 ∷ 2 ∷ []) PlanarFault 1 h refl refl
planar-back Separate file h = among-back file 284 (1 ∷ 2 ∷ []) PlanarFault 2 h refl

tiles-none : (form : ImageForm) (places counts : List ℕ) (file : List ℕ) → Looks form places counts form.planar file → no_tiles file ≡ Ok tt
unfolding no_tiles
tiles-none form places counts file looks = rw (looks.tile_width, looks.tile_length, looks.tile_offsets, looks.tile_byte_counts) refl

-- ---- all tests

pub contone-passes : (form : ImageForm) (places counts : List ℕ) (file : List ℕ) → form.kind ≡ Contone → IsForm form → form.rows_per_strip ≤ 4294967295
    → Looks form places counts form.planar file → dir_fault file ≡ None → strip_fault (shape_for 4 8 form) file ≡ None
    → contone_shape file ≡ Ok (shape_for 4 8 form)
unfolding shape_of image_fields bits_each full_dot_range
contone-passes form places counts file is_kind is small looks directory strips =
    let tiles = tiles-none form places counts file looks in
    let wide = is.width in
    let long = is.length in
    let bits = looks.bits ∙ ap (λ kind. Ok (Some (bits_of kind))) is_kind in
    rw (
      directory,
      tiles,
      within-back file 256 1 65535 _ form.width looks.width (omega arith) (omega arith),
      within-back file 257 1 65535 _ form.length looks.length_is (omega arith) (omega arith),
      among-back file 277 (4 ∷ []) _ 4 (looks.samples ∙ ap (λ kind. Ok (Some (samples_of kind ∷ []))) is_kind) refl,
      bits,
      among-back file 259 (1 ∷ 32773 ∷ []) _ (compression_of form.compression) looks.compression (compression-known form.compression),
      among-back file 262 (5 ∷ []) _ 5 (looks.photometric ∙ ap (λ kind. Ok (Some (photometric_of kind ∷ []))) is_kind) refl,
      absent-back file 266 (1 ∷ []) _ 1 looks.fill_order refl refl,
      absent-back file 274 (1 ∷ []) _ 1 looks.orientation refl refl,
      planar-back form.planar file looks.planar_is,
      absent-back file 332 (1 ∷ []) _ 1 looks.ink_set refl refl,
      looks.dot_range,
      within-back file 278 1 4294967295 _ form.rows_per_strip looks.rows is.rows_per_strip small,
      strips,
    )
    refl

-- images of a kind with one bit per pixel, and a PhotometricInterpretation that the use accepts
pub record IsBilevelKind (usage : BilevelUse) (kind : Kind) : Type 0 where
  pub samples : samples_of kind ≡ 1
  pub bits : bits_of kind ≡ 1 ∷ []
  pub photometric : list_any (λ number. number == photometric_of kind) (photometrics_of (Bilevel usage)) ≡ true
  pub planes : (planar : Planar) → planes_of kind planar ≡ 1
  pub row : (planar : Planar) (width : ℕ) → plane_row_bytes kind planar width ≡ row_size width

pub line_is_bilevel : IsBilevelKind LineUse Line
line_is_bilevel = record { samples = refl; bits = refl; photometric = refl; planes = λ planar. refl; row = λ planar width. refl }

pub mask_is_bilevel : IsBilevelKind MaskUse Mask
mask_is_bilevel = record { samples = refl; bits = refl; photometric = refl; planes = λ planar. refl; row = λ planar width. refl }

pub bilevel-passes : (usage : BilevelUse) (form : ImageForm) (places counts : List ℕ) (file : List ℕ) → IsBilevelKind usage form.kind → IsForm form → form.rows_per_strip ≤ 4294967295
    → Looks form places counts form.planar file → dir_fault file ≡ None → strip_fault (shape_for 1 1 form) file ≡ None
    → bilevel_shape usage file ≡ Ok (shape_for 1 1 form)
unfolding shape_of image_fields bits_each
bilevel-passes usage form places counts file kind is small looks directory strips =
    let tiles = tiles-none form places counts file looks in
    let wide = is.width in
    let long = is.length in
    let bits = looks.bits ∙ ap {A = List ℕ} (λ values. Ok (Some values)) kind.bits in
    rw (
      directory,
      tiles,
      within-back file 256 1 65535 _ form.width looks.width (omega arith) (omega arith),
      within-back file 257 1 65535 _ form.length looks.length_is (omega arith) (omega arith),
      among-back file 277 (1 ∷ []) _ 1 (looks.samples ∙ ap {A = ℕ} (λ count. Ok (Some (count ∷ []))) kind.samples) refl,
      bits,
      among-back file 259 (1 ∷ 32773 ∷ []) _ (compression_of form.compression) looks.compression (compression-known form.compression),
      among-back file 262 (photometrics_of (Bilevel usage)) _ (photometric_of form.kind) looks.photometric kind.photometric,
      absent-back file 266 (1 ∷ []) _ 1 looks.fill_order refl refl,
      absent-back file 274 (1 ∷ []) _ 1 looks.orientation refl refl,
      planar-back form.planar file looks.planar_is,
      within-back file 278 1 4294967295 _ form.rows_per_strip looks.rows is.rows_per_strip small,
      strips,
    )
    refl

-- PhotometricInterpretation of the file
pub photometric-back : (form : ImageForm) (places counts : List ℕ) (file : List ℕ) → Looks form places counts form.planar file
    → photometric file ≡ photometric_of form.kind
photometric-back form places counts file looks =
    ap (λ r. result_unwrap_or r 0) (number_at-present file 262 0 1 (photometric_of form.kind ∷ []) looks.photometric (omega arith))
