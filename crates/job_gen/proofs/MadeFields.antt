-- The fields of a generated image read back, and pass the tests of its use.
use Rattle.std.proofs.Common.{◌≡◌, ℕ, zero, suc, ◌+◌, ◌*◌, ◌<◌, ◌≤◌, List, [], ◌∷◌, ◌++◌, length, take, get_or, Option, Some, None, Ok, refl, ap, ◌∙◌, arith}
use Rattle.std.specs.List.{All}
use Rattle.std.proofs.lemmas.Bool.Decides.{nat_tests}
use Rattle.std.proofs.lemmas.List.{length-append, length-map, length-take}
use Rattle.std.proofs.lemmas.List.Elements.{All-from_recursion, All-take}
use Rattle.tif_dir.specs.declared.value_type.ValueType.TheVariants.{Short, Long}
use Rattle.tif_dir.specs.Directory.{dir_fault, field_of}
use Rattle.tif_make.specs.declared.form.ImageForm.{ImageForm}
use Rattle.tif_make.specs.declared.form.Kind.{Kind}
use Rattle.tif_make.specs.declared.form.Kind.TheVariants.{Contone, Line, Mask}
use Rattle.tif_make.specs.declared.form.Planar.{Planar}
use Rattle.tif_make.specs.declared.form.Planar.TheVariants.{Chunky, Separate}
use Rattle.tif_make.specs.declared.form.Compression.{Compression}
use Rattle.tif_make.specs.declared.form.Compression.TheVariants.{Uncompressed, PackBits}
use Rattle.tif_make.specs.Fields.{directory_end, front, longs, outside_size, outside_total, shorts}
use Rattle.tif_make.specs.Form.{IsForm, bits_of, compression_of, field_count, photometric_of, planes, samples_of, strip_count}
use Rattle.tif_make.specs.Image.{all_fields, bits_outside, first_strip, image_fields, image_file, table_outside}
use Rattle.tif_make.specs.Made.{HasRows}
use Rattle.tif_make.specs.Strips.{begins, joined, sizes, strips}
use Rattle.tif_make.proofs.Bounds.{planes-within}
use Rattle.tif_make.proofs.ImageFields.{all_fields-length, fields_are, strips-within}
use Rattle.tif_make.proofs.Pieces.{length-begins, length-strips}
use Rattle.job_gen.proofs.MadeDirectory.{IsWritten, directory-back, field-back, length-front, lookup}

-- ---- the values fit

written-shorts : (tag : ℕ) (values : List ℕ) → tag < 65536 → length values < 4294967296 → All (λ value. value < 65536) values → IsWritten (shorts tag values)
written-shorts tag values tag_fits few fit = record {
  kind = Short;
  type_is = refl;
  size_is = refl;
  kind_fits = omega arith;
  tag_fits = tag_fits;
  count_fits = few;
  values_fit = fit;
}

written-longs : (tag : ℕ) (values : List ℕ) → tag < 65536 → length values < 4294967296 → All (λ value. value < 4294967296) values → IsWritten (longs tag values)
written-longs tag values tag_fits few fit = record {
  kind = Long;
  type_is = refl;
  size_is = refl;
  kind_fits = omega arith;
  tag_fits = tag_fits;
  count_fits = few;
  values_fit = fit;
}

one-within : (most value : ℕ) → value < most → All (λ n. n < most) (value ∷ [])
one-within most value h = All-from_recursion (λ n. n < most) (value ∷ []) (h, tt)

bits-fit : (kind : Kind) → All (λ n. n < 65536) (bits_of kind)
bits-fit Contone = let h : 8 < 65536 = omega arith in All-from_recursion (λ n. n < 65536) (8 ∷ 8 ∷ 8 ∷ 8 ∷ []) (h, (h, (h, (h, tt))))
bits-fit Line = one-within 65536 1 (omega arith)
bits-fit Mask = one-within 65536 1 (omega arith)

bits-few : (kind : Kind) → length (bits_of kind) ≤ 4
bits-few Contone = omega arith
bits-few Line = omega arith
bits-few Mask = omega arith

compression-fits : (compression : Compression) → compression_of compression < 65536
compression-fits Uncompressed = omega arith
compression-fits PackBits = omega arith

photometric-fits : (kind : Kind) → photometric_of kind < 65536
photometric-fits Contone = omega arith
photometric-fits Line = omega arith
photometric-fits Mask = omega arith

samples-fit : (kind : Kind) → samples_of kind < 65536
samples-fit Contone = omega arith
samples-fit Line = omega arith
samples-fit Mask = omega arith

-- the numbers of an image fit their fields
pub record Fits (form : ImageForm) (places counts : List ℕ) : Type 0 where
  pub form_is : IsForm form
  pub rows_fit : form.rows_per_strip < 4294967296
  pub place_count : length places ≡ strip_count form
  pub count_count : length counts ≡ strip_count form
  pub few : strip_count form ≤ 262140
  pub places_fit : All (λ n. n < 4294967296) places
  pub counts_fit : All (λ n. n < 4294967296) counts

all-written : (form : ImageForm) (places counts : List ℕ) → Fits form places counts → All IsWritten (all_fields form places counts)
unfolding all_fields
all-written form places counts fits =
    let wide = fits.form_is.width in
    let long = fits.form_is.length in
    let few = fits.few in
    let p = fits.place_count in
    let c = fits.count_count in
    let one : 1 < 4294967296 = omega arith in
    All-from_recursion IsWritten (all_fields form places counts) (
      written-longs 256 (form.width ∷ []) (omega arith) one (one-within 4294967296 form.width (omega arith)),
      (
        written-longs 257 (form.length ∷ []) (omega arith) one (one-within 4294967296 form.length (omega arith)),
        (
          written-shorts 258 (bits_of form.kind) (omega arith) (omega (arith, bits-few form.kind)) (bits-fit form.kind),
          (
            written-shorts 259 (compression_of form.compression ∷ []) (omega arith) one (one-within 65536 _ (compression-fits form.compression)),
            (
              written-shorts 262 (photometric_of form.kind ∷ []) (omega arith) one (one-within 65536 _ (photometric-fits form.kind)),
              (
                written-longs 273 places (omega arith) (omega arith) fits.places_fit,
                (
                  written-shorts 277 (samples_of form.kind ∷ []) (omega arith) one (one-within 65536 _ (samples-fit form.kind)),
                  (
                    written-longs 278 (form.rows_per_strip ∷ []) (omega arith) one (one-within 4294967296 form.rows_per_strip fits.rows_fit),
                    (
                      written-longs 279 counts (omega arith) (omega arith) fits.counts_fit,
                      (written-shorts 284 (2 ∷ []) (omega arith) one (one-within 65536 2 (omega arith)), tt),
                    ),
                  ),
                ),
              ),
            ),
          ),
        ),
      ),
    )

-- ---- the offset of the first strip

bits-out : (kind : Kind) → outside_size (shorts 258 (bits_of kind)) ≡ bits_outside kind
bits-out Contone = refl
bits-out Line = refl
bits-out Mask = refl

front-place-by : (form : ImageForm) (places counts : List ℕ) (planar : Planar) → length places ≡ strip_count form → length counts ≡ strip_count form
    → directory_end (length (take (field_count planar) (all_fields form places counts))) + outside_total (take (field_count planar) (all_fields form places counts))
    ≡ directory_end (field_count planar) + bits_outside form.kind + 2 * table_outside (strip_count form)
unfolding all_fields
front-place-by form places counts Chunky p c =
    omega (arith, bits-out form.kind, ap table_outside p, ap table_outside c)
front-place-by form places counts Separate p c =
    omega (arith, bits-out form.kind, ap table_outside p, ap table_outside c)

front-place : (form : ImageForm) (places counts : List ℕ) → length places ≡ strip_count form → length counts ≡ strip_count form
    → directory_end (length (image_fields form places counts)) + outside_total (image_fields form places counts) ≡ first_strip form
unfolding image_fields first_strip
front-place form places counts p c = front-place-by form places counts form.planar p c

-- ---- offsets and byte counts fit

begins-within : (place : ℕ) (pieces : List (List ℕ)) (k d : ℕ) → k < length pieces → get_or (begins place pieces) k d ≤ place + length (joined pieces)
unfolding begins
begins-within place [] k d below = absurd (omega arith)
begins-within place (piece ∷ pieces) zero d below = omega arith
begins-within place (piece ∷ pieces) (suc k) d below =
    omega (arith, begins-within (place + length piece) pieces k d (omega arith), length-append piece (joined pieces))

sizes-within : (pieces : List (List ℕ)) (k d : ℕ) → k < length pieces → get_or (sizes pieces) k d ≤ length (joined pieces)
sizes-within [] k d below = absurd (omega arith)
sizes-within (piece ∷ pieces) zero d below = omega (arith, length-append piece (joined pieces))
sizes-within (piece ∷ pieces) (suc k) d below =
    omega (arith, sizes-within pieces k d (omega arith), length-append piece (joined pieces))

field_count-within : (planar : Planar) → (1 ≤ field_count planar) × (field_count planar ≤ 10)
field_count-within Chunky = (omega arith, omega arith)
field_count-within Separate = (omega arith, omega arith)

-- the offsets and byte counts of a generated image
abbrev pub made_places : ImageForm → List ℕ → List ℕ
made_places form rows = begins (first_strip form) (strips form rows)

abbrev pub made_counts : ImageForm → List ℕ → List ℕ
made_counts form rows = sizes (strips form rows)

pub joined-within : (form : ImageForm) (rows : List ℕ) → IsForm form → HasRows form rows → length (joined (strips form rows)) ≤ 4000000000
unfolding strips
joined-within form rows is has = planes-within form rows (planes form) is has (omega arith)

pub first-within : (form : ImageForm) → IsForm form → first_strip form ≤ 3000000
unfolding first_strip
first-within form is =
    omega (arith, strips-within form is, bits-few-outside form.kind, field_count-within form.planar, table-within (strip_count form))
  where
    bits-few-outside : (kind : Kind) → bits_outside kind ≤ 8
    bits-few-outside Contone = omega arith
    bits-few-outside Line = omega arith
    bits-few-outside Mask = omega arith

    table-within : (n : ℕ) → table_outside n ≤ 4 * n
    table-within n = grind (arith, nat_tests)

made-fits : (form : ImageForm) (rows : List ℕ) → IsForm form → HasRows form rows → form.rows_per_strip < 4294967296
    → Fits form (made_places form rows) (made_counts form rows)
made-fits form rows is has small =
    let all = strips form rows in
    let bytes = joined-within form rows is has in
    let first = first-within form is in
    let places = length-begins (first_strip form) all in
    let counts = length-map all length in
    let number = length-strips form rows in
    record {
      form_is = is;
      rows_fit = small;
      place_count = places ∙ number;
      count_count = counts ∙ number;
      few = strips-within form is;
      places_fit = λ k d below. let h = begins-within (first_strip form) all k d (omega arith) in omega arith;
      counts_fit = λ k d below. let h = sizes-within all k d (omega arith) in omega arith;
    }

-- ---- the fields of a generated image

-- PlanarConfiguration, if present
abbrev pub planar_values : Planar → Option (List ℕ)
planar_values Chunky = None
planar_values Separate = Some (2 ∷ [])

-- each field is as the image has it, and no others are present
pub record Looks (form : ImageForm) (places counts : List ℕ) (planar : Planar) (file : List ℕ) : Type 0 where
  pub width : field_of file 256 ≡ Ok (Some (form.width ∷ []))
  pub length_is : field_of file 257 ≡ Ok (Some (form.length ∷ []))
  pub bits : field_of file 258 ≡ Ok (Some (bits_of form.kind))
  pub compression : field_of file 259 ≡ Ok (Some (compression_of form.compression ∷ []))
  pub photometric : field_of file 262 ≡ Ok (Some (photometric_of form.kind ∷ []))
  pub fill_order : field_of file 266 ≡ Ok None
  pub offsets : field_of file 273 ≡ Ok (Some places)
  pub orientation : field_of file 274 ≡ Ok None
  pub samples : field_of file 277 ≡ Ok (Some (samples_of form.kind ∷ []))
  pub rows : field_of file 278 ≡ Ok (Some (form.rows_per_strip ∷ []))
  pub byte_counts : field_of file 279 ≡ Ok (Some counts)
  pub planar_is : field_of file 284 ≡ Ok (planar_values planar)
  pub tile_width : field_of file 322 ≡ Ok None
  pub tile_length : field_of file 323 ≡ Ok None
  pub tile_offsets : field_of file 324 ≡ Ok None
  pub tile_byte_counts : field_of file 325 ≡ Ok None
  pub ink_set : field_of file 332 ≡ Ok None
  pub dot_range : field_of file 336 ≡ Ok None

-- a field that chunky and separate samples have alike
known-either : (form : ImageForm) (places counts : List ℕ) (planar : Planar) (file : List ℕ) (tag : ℕ) (values : Option (List ℕ))
    → ((tag : ℕ) → field_of file tag ≡ Ok (lookup tag (take (field_count planar) (all_fields form places counts))))
    → lookup tag (take (field_count Chunky) (all_fields form places counts)) ≡ values → lookup tag (take (field_count Separate) (all_fields form places counts)) ≡ values → field_of file tag ≡ Ok values
known-either form places counts Chunky file tag values known chunky separate = known tag ∙ ap Ok chunky
known-either form places counts Separate file tag values known chunky separate = known tag ∙ ap Ok separate

known-planar : (form : ImageForm) (places counts : List ℕ) (planar : Planar) (file : List ℕ)
    → ((tag : ℕ) → field_of file tag ≡ Ok (lookup tag (take (field_count planar) (all_fields form places counts)))) → field_of file 284 ≡ Ok (planar_values planar)
unfolding all_fields
known-planar form places counts Chunky file known = known 284
known-planar form places counts Separate file known = known 284

looks-by : (form : ImageForm) (places counts : List ℕ) (planar : Planar) (file : List ℕ)
    → ((tag : ℕ) → field_of file tag ≡ Ok (lookup tag (take (field_count planar) (all_fields form places counts)))) → Looks form places counts planar file
unfolding all_fields
looks-by form places counts planar file known = record {
  width = known-either form places counts planar file 256 _ known refl refl;
  length_is = known-either form places counts planar file 257 _ known refl refl;
  bits = known-either form places counts planar file 258 _ known refl refl;
  compression = known-either form places counts planar file 259 _ known refl refl;
  photometric = known-either form places counts planar file 262 _ known refl refl;
  fill_order = known-either form places counts planar file 266 _ known refl refl;
  offsets = known-either form places counts planar file 273 _ known refl refl;
  orientation = known-either form places counts planar file 274 _ known refl refl;
  samples = known-either form places counts planar file 277 _ known refl refl;
  rows = known-either form places counts planar file 278 _ known refl refl;
  byte_counts = known-either form places counts planar file 279 _ known refl refl;
  planar_is = known-planar form places counts planar file known;
  tile_width = known-either form places counts planar file 322 _ known refl refl;
  tile_length = known-either form places counts planar file 323 _ known refl refl;
  tile_offsets = known-either form places counts planar file 324 _ known refl refl;
  tile_byte_counts = known-either form places counts planar file 325 _ known refl refl;
  ink_set = known-either form places counts planar file 332 _ known refl refl;
  dot_range = known-either form places counts planar file 336 _ known refl refl;
}

image-known : (form : ImageForm) (places counts more : List ℕ) (tag : ℕ) → Fits form places counts
    → field_of (front form.order (image_fields form places counts) ++ more) tag ≡ Ok (lookup tag (image_fields form places counts))
unfolding image_fields
image-known form places counts more tag fits =
    let all = all_fields form places counts in
    let n = field_count form.planar in
    let count = field_count-within form.planar in
    let number : length (take n all) ≡ n = length-take n all ∙ omega (arith, all_fields-length form places counts) in
    let are = fields_are form places counts n fits.form_is fits.place_count fits.count_count count.1 in
    field-back form.order (take n all) more tag (omega arith) (omega arith) (All-take IsWritten n all (all-written form places counts fits))
    (omega (arith, are.places))

pub looks : (form : ImageForm) (rows : List ℕ) → IsForm form → HasRows form rows → form.rows_per_strip < 4294967296
    → Looks form (made_places form rows) (made_counts form rows) form.planar (image_file form rows)
unfolding image_file image_fields
looks form rows is has small =
    looks-by form (made_places form rows) (made_counts form rows) form.planar (image_file form rows)
    (λ tag. image-known form (made_places form rows) (made_counts form rows) (joined (strips form rows)) tag (made-fits form rows is has small))

-- the file has a directory
pub directory-found : (form : ImageForm) (rows : List ℕ) → IsForm form → dir_fault (image_file form rows) ≡ None
unfolding image_file image_fields
directory-found form rows is =
    let places = made_places form rows in
    let counts = made_counts form rows in
    let n = field_count form.planar in
    let count = field_count-within form.planar in
    let number : length (take n (all_fields form places counts)) ≡ n =
    length-take n (all_fields form places counts) ∙ omega (arith, all_fields-length form places counts) in
    rw (directory-back form.order (take n (all_fields form places counts)) (joined (strips form rows)) (omega arith) (omega arith)) refl

-- the offset of the strips
pub front-length : (form : ImageForm) (rows : List ℕ)
    → length (front form.order (image_fields form (made_places form rows) (made_counts form rows))) ≡ first_strip form
front-length form rows =
    let all = strips form rows in
    length-front form.order (image_fields form (made_places form rows) (made_counts form rows))
    ∙ front-place form (made_places form rows) (made_counts form rows)
    (length-begins (first_strip form) all ∙ length-strips form rows) (length-map all length ∙ length-strips form rows)
