-- The images of a job pass the tests of their uses, and contain the job's pixels.
use Rattle.std.proofs.Common.{◌≡◌, ℕ, zero, suc, ◌+◌, ◌*◌, ◌/◌, ◌%◌, ◌<◌, ◌≤◌, Bool, true, false, ◌&&◌, ◌==◌, nat_lt, if◌then◌else◌, List, length, map, slice_index, Ok, Result, IfOk, refl, sym, ap, subst, ◌∙◌, arith}
use Rattle.std.specs.Global.{Vec}
use Rattle.std.specs.List.{flat_map, range_with_len}
use Rattle.pr_base.specs.declared.memory.NoMemory.{NoMemory}
use Rattle.std.proofs.lemmas.Bool.Decides.{nat_tests}
use Rattle.std.proofs.lemmas.List.FromFn.{get_or-map-range_with_len}
use Rattle.std.proofs.Math.Nat.{mul-le-mul}
use Rattle.pr_base.specs.Bits.{bit_at, bit_number, byte_bit, packed_byte, packed_row}
use Rattle.pr_base.specs.Row.{row_size}
use Rattle.pr_base.proofs.Bits.{length-packed_row}
use Rattle.tif_strips.specs.Strips.{image_row}
use Rattle.tif_image.specs.declared.usage.BilevelUse.{BilevelUse}
use Rattle.tif_image.specs.declared.usage.BilevelUse.TheVariants.{Line as LineUse, Mask as MaskUse}
use Rattle.tif_image.specs.Image.{is_marked}
use Rattle.tif_make.specs.declared.form.ImageForm.{ImageForm}
use Rattle.tif_make.specs.declared.form.Kind.{Kind}
use Rattle.tif_make.specs.declared.form.Kind.TheVariants.{Line, Mask}
use Rattle.tif_make.specs.declared.form.Compression.{Compression}
use Rattle.tif_make.specs.declared.form.Compression.TheVariants.{Uncompressed, PackBits}
use Rattle.tif_make.specs.declared.form.Planar.TheVariants.{Chunky, Separate}
use Rattle.tif_make.specs.Form.{photometric_of, row_length}
use Rattle.tif_make.specs.Image.{image_file}
use Rattle.tif_make.specs.Made.{HasRows}
use Rattle.tif_make.specs.Strips.{row_at}
use Rattle.job_gen.specs.Images.{bilevel_form, contone_bytes, contone_form, contone_pixel, contone_row, contone_rows, line_bytes, line_form, line_marked, line_row, line_rows, mask_bytes, mask_form, mask_marked, mask_row, mask_rows, rows_of, sample}
use Rattle.job_gen.specs.Numbers.{image_length, image_width, size_of}
use Rattle.job_gen.specs.Passes.{ArePassing, IsBilevelFile, IsContoneFile, IsLineFile, IsMaskFile, contone_shape_of}
use Rattle.job_gen.proofs.Made.{planar_number, shape_for}
use Rattle.job_gen.proofs.MadeImage.{IsMakeable, bilevel-back, bilevel-row-back, contone-back, contone-row-back, file-within, order-of, photometric-of}
use Rattle.job_gen.proofs.MadeStrips.{item-at, row-cut}
use Rattle.job_gen.proofs.MadeTests.{IsBilevelKind, line_is_bilevel, mask_is_bilevel}
use Rattle.job_gen.proofs.ImageRows.{contone_row-length, rows-length}

-- ---- the bits of a packed row

bit-few : (b : Bool) → bit_number b ≤ 1
bit-few true = omega arith
bit-few false = omega arith

bit-told : (b : Bool) → (bit_number b == 1) ≡ b
bit-told true = refl
bit-told false = refl

byte_bit-packed : (f : ℕ → Bool) (k : ℕ) → k < 8 → byte_bit (packed_byte f) k ≡ f k
byte_bit-packed f zero h =
    ap (λ n. n == 1) (omega (arith, bit-few (f 0), bit-few (f 1), bit-few (f 2), bit-few (f 3), bit-few (f 4), bit-few (f 5), bit-few (f 6), bit-few (f 7))) ∙ bit-told (f 0)
byte_bit-packed f (suc zero) h =
    ap (λ n. n == 1) (omega (arith, bit-few (f 0), bit-few (f 1), bit-few (f 2), bit-few (f 3), bit-few (f 4), bit-few (f 5), bit-few (f 6), bit-few (f 7))) ∙ bit-told (f 1)
byte_bit-packed f (suc (suc zero)) h =
    ap (λ n. n == 1) (omega (arith, bit-few (f 0), bit-few (f 1), bit-few (f 2), bit-few (f 3), bit-few (f 4), bit-few (f 5), bit-few (f 6), bit-few (f 7))) ∙ bit-told (f 2)
byte_bit-packed f (suc (suc (suc zero))) h =
    ap (λ n. n == 1) (omega (arith, bit-few (f 0), bit-few (f 1), bit-few (f 2), bit-few (f 3), bit-few (f 4), bit-few (f 5), bit-few (f 6), bit-few (f 7))) ∙ bit-told (f 3)
byte_bit-packed f (suc (suc (suc (suc zero)))) h =
    ap (λ n. n == 1) (omega (arith, bit-few (f 0), bit-few (f 1), bit-few (f 2), bit-few (f 3), bit-few (f 4), bit-few (f 5), bit-few (f 6), bit-few (f 7))) ∙ bit-told (f 4)
byte_bit-packed f (suc (suc (suc (suc (suc zero))))) h =
    ap (λ n. n == 1) (omega (arith, bit-few (f 0), bit-few (f 1), bit-few (f 2), bit-few (f 3), bit-few (f 4), bit-few (f 5), bit-few (f 6), bit-few (f 7))) ∙ bit-told (f 5)
byte_bit-packed f (suc (suc (suc (suc (suc (suc zero)))))) h =
    ap (λ n. n == 1) (omega (arith, bit-few (f 0), bit-few (f 1), bit-few (f 2), bit-few (f 3), bit-few (f 4), bit-few (f 5), bit-few (f 6), bit-few (f 7))) ∙ bit-told (f 6)
byte_bit-packed f (suc (suc (suc (suc (suc (suc (suc zero))))))) h =
    ap (λ n. n == 1) (omega (arith, bit-few (f 0), bit-few (f 1), bit-few (f 2), bit-few (f 3), bit-few (f 4), bit-few (f 5), bit-few (f 6), bit-few (f 7))) ∙ bit-told (f 7)
byte_bit-packed f (suc (suc (suc (suc (suc (suc (suc (suc k)))))))) h = absurd (omega arith)

inside-yes : {a b : ℕ} → a < b → nat_lt a b ≡ true
inside-yes h = grind (arith, nat_tests)

bit_at-packed_row : (width : ℕ) (bit : ℕ → Bool) (x : ℕ) → x < width → bit_at (packed_row width bit) x ≡ bit x
unfolding packed_row
bit_at-packed_row width bit x below =
    let byte : ℕ → ℕ = λ j. packed_byte (λ k. nat_lt (8 * j + k) width && bit (8 * j + k)) in
    let here : slice_index (map byte (range_with_len 0 (row_size width))) (x / 8) ≡ byte (x / 8) =
    get_or-map-range_with_len byte 0 (row_size width) (x / 8) (x / 8) 0 (omega arith) (omega arith) in
    let place : 8 * (x / 8) + x % 8 ≡ x = omega arith in
    let inside : nat_lt x width ≡ true = inside-yes below in
    ap (λ b. byte_bit b (x % 8)) here
    ∙ byte_bit-packed (λ k. nat_lt (8 * (x / 8) + k) width && bit (8 * (x / 8) + k)) (x % 8) (omega arith)
    ∙ ap (λ n. nat_lt n width && bit n) place ∙ ap (λ b. b && bit x) inside

-- ---- concatenated rows

cut-row : (row : ℕ → List ℕ) (size length' y : ℕ) → ((k : ℕ) → length (row k) ≡ size) → y < length' → row_at size (rows_of row length') y ≡ row y
cut-row row size length' y same below = row-cut row size 0 length' y length' (omega arith) (λ k less. same k) below ∙ ap row (omega arith)

-- the pixels of a contone row
pixel-at : (n f width y x i : ℕ) → x < width → i < 4 → slice_index (contone_row n f width y) (4 * x + i) ≡ sample n f i x y
unfolding contone_row
pixel-at n f width y x i below within =
    let place : 4 * x + i ≡ x * 4 + i = omega arith in
    ap (slice_index (flat_map (contone_pixel n f y) (range_with_len 0 width))) place
    ∙ item-at (contone_pixel n f y) 4 0 width x i 0 (λ k. refl) below within
    ∙ ap (λ k. slice_index (contone_pixel n f y k) i) (omega arith) ∙ by i within
  where
    by : (j : ℕ) → j < 4 → slice_index (contone_pixel n f y x) j ≡ sample n f j x y
    by zero h = refl
    by (suc zero) h = refl
    by (suc (suc zero)) h = refl
    by (suc (suc (suc zero))) h = refl
    by (suc (suc (suc (suc j)))) h = absurd (omega arith)

-- ---- the images can be made

sides : (n : ℕ) → (16 ≤ image_width n) × (image_width n ≤ 256) × (12 ≤ image_length n) × (image_length n ≤ 192)
sides n = (omega arith, omega arith, omega arith, omega arith)

few-bytes : (length' size most : ℕ) → length' ≤ 192 → size ≤ most → length' * size ≤ 192 * most
few-bytes length' size most a b = mul-le-mul a b

pub contone-can : (n f : ℕ) → IsMakeable (contone_form n f) (contone_rows n f)
contone-can n f =
    let s = sides n in
    let total = rows-length (contone_row n f (image_width n)) (4 * image_width n) (image_length n) (λ y. contone_row-length n f (image_width n) y) in
    let few : image_length n * (4 * image_width n) ≤ 192 * 1024 = few-bytes (image_length n) (4 * image_width n) 1024 (omega arith) (omega arith) in
    record {
      form_is = record { width = (omega arith, omega arith); length = (omega arith, omega arith); rows_per_strip = omega arith };
      has = record { are = total; few = omega arith };
      small = omega arith;
    }

few-bits : (n : ℕ) → image_length n * row_size (image_width n) ≤ 192 * 1024
few-bits n = let s = sides n in few-bytes (image_length n) (row_size (image_width n)) 1024 (omega arith) (omega arith)

-- packed rows of the image's width, in a file of one bit a pixel
bilevel-can : (n rows_per_strip : ℕ) (kind : Kind) (compression : Compression) (row : ℕ → List ℕ) → ((y : ℕ) → length (row y) ≡ row_size (image_width n)) → 1 ≤ rows_per_strip → rows_per_strip ≤ 192
    → row_length (bilevel_form kind compression rows_per_strip n) ≡ row_size (image_width n) → IsMakeable (bilevel_form kind compression rows_per_strip n) (rows_of row (image_length n))
bilevel-can n rows_per_strip kind compression row long some few size =
    let s = sides n in
    let total = rows-length row (row_size (image_width n)) (image_length n) long in
    let small = few-bits n in
    record {
      form_is = record { width = (omega arith, omega arith); length = (omega arith, omega arith); rows_per_strip = some };
      has = record { are = total ∙ ap (λ k. image_length n * k) (sym size); few = omega arith };
      small = omega arith;
    }

line-row-length : (width y : ℕ) → length (line_row width y) ≡ row_size width
unfolding line_row
line-row-length width y = length-packed_row width (λ x. line_marked x y)

mask-row-length : (width y : ℕ) → length (mask_row width y) ≡ row_size width
unfolding mask_row
mask-row-length width y = length-packed_row width (mask_marked width)

pub line-can : (n : ℕ) → IsMakeable (line_form n) (line_rows n)
line-can n = bilevel-can n 4 Line PackBits (line_row (image_width n)) (line-row-length (image_width n)) (omega arith) (omega arith) refl

pub mask-can : (n : ℕ) → IsMakeable (mask_form n) (mask_rows n)
mask-can n =
    let s = sides n in
    bilevel-can n (image_length n) Mask Uncompressed (mask_row (image_width n)) (mask-row-length (image_width n)) (omega arith) (omega arith) refl

-- the file of rows of at most 192 times 1,024 bytes
few-all : (form : ImageForm) (rows : List ℕ) → IsMakeable form rows → form.length * row_length form ≤ 192 * 1024 → length (image_file form rows) ≤ 4000000
few-all form rows can few = omega (arith, file-within form rows can, can.has.are)

-- ---- the code's forms and rows

rows-same : (form other : ImageForm) (rows others : List ℕ) → form ≡ other → rows ≡ others → HasRows other others → HasRows form rows
rows-same form other rows others e r has = subst (λ f. HasRows f rows) (sym e) (subst (λ xs. HasRows other xs) (sym r) has)

files-same : (form other : ImageForm) (rows others : List ℕ) → form ≡ other → rows ≡ others → image_file form rows ≡ image_file other others
files-same form other rows others e r = ap (λ f. image_file f rows) e ∙ ap (image_file other) r

-- a file with equal bytes
ok-same : (result : Result (Vec ℕ) NoMemory) (a b : List ℕ) → a ≡ b → IfOk result (λ file. file.items ≡ a) → IfOk result (λ file. file.items ≡ b)
ok-same result a b e h = subst (λ bytes. IfOk result (λ file. file.items ≡ bytes)) e h

contone-is : (n f : ℕ) (form : ImageForm) (rows : List ℕ) → form ≡ contone_form n f → rows ≡ rows_of (contone_row n f form.width) form.length → rows ≡ contone_rows n f
contone-is n f form rows e is = is ∙ ap (λ g. rows_of (contone_row n f g.width) g.length) e

pub contone-has : (n f : ℕ) (form : ImageForm) (rows : List ℕ) → form ≡ contone_form n f → rows ≡ rows_of (contone_row n f form.width) form.length → HasRows form rows
contone-has n f form rows e is = rows-same form (contone_form n f) rows (contone_rows n f) e (contone-is n f form rows e is) (contone-can n f).has

pub contone-made : (n f : ℕ) (form : ImageForm) (rows : List ℕ) → form ≡ contone_form n f → rows ≡ rows_of (contone_row n f form.width) form.length
    → (result : Result (Vec ℕ) NoMemory) → IfOk result (λ file. file.items ≡ image_file form rows) → IfOk result (λ file. file.items ≡ contone_bytes n f)
unfolding contone_bytes
contone-made n f form rows e is result =
    ok-same result (image_file form rows) (contone_bytes n f) (files-same form (contone_form n f) rows (contone_rows n f) e (contone-is n f form rows e is))

line-is : (n size : ℕ) (form : ImageForm) (rows : List ℕ) → form ≡ line_form n → size ≡ size_of n → rows ≡ rows_of (line_row (8 * (2 * size))) form.length → rows ≡ line_rows n
line-is n size form rows e z is =
    is ∙ ap (λ w. rows_of (line_row w) form.length) (omega arith) ∙ ap (λ g. rows_of (line_row (image_width n)) g.length) e

pub line-has : (n size : ℕ) (form : ImageForm) (rows : List ℕ) → form ≡ line_form n → size ≡ size_of n → rows ≡ rows_of (line_row (8 * (2 * size))) form.length → HasRows form rows
line-has n size form rows e z is = rows-same form (line_form n) rows (line_rows n) e (line-is n size form rows e z is) (line-can n).has

pub line-made : (n size : ℕ) (form : ImageForm) (rows : List ℕ) → form ≡ line_form n → size ≡ size_of n → rows ≡ rows_of (line_row (8 * (2 * size))) form.length
    → (result : Result (Vec ℕ) NoMemory) → IfOk result (λ file. file.items ≡ image_file form rows) → IfOk result (λ file. file.items ≡ line_bytes n)
unfolding line_bytes
line-made n size form rows e z is result =
    ok-same result (image_file form rows) (line_bytes n) (files-same form (line_form n) rows (line_rows n) e (line-is n size form rows e z is))

mask-is : (n size : ℕ) (form : ImageForm) (rows : List ℕ) → form ≡ mask_form n → size ≡ size_of n → rows ≡ rows_of (mask_row (16 * size)) form.length → rows ≡ mask_rows n
mask-is n size form rows e z is =
    is ∙ ap (λ w. rows_of (mask_row w) form.length) (ap (λ k. 16 * k) z) ∙ ap (λ g. rows_of (mask_row (image_width n)) g.length) e

pub mask-has : (n size : ℕ) (form : ImageForm) (rows : List ℕ) → form ≡ mask_form n → size ≡ size_of n → rows ≡ rows_of (mask_row (16 * size)) form.length → HasRows form rows
mask-has n size form rows e z is = rows-same form (mask_form n) rows (mask_rows n) e (mask-is n size form rows e z is) (mask-can n).has

pub mask-made : (n size : ℕ) (form : ImageForm) (rows : List ℕ) → form ≡ mask_form n → size ≡ size_of n → rows ≡ rows_of (mask_row (16 * size)) form.length
    → (result : Result (Vec ℕ) NoMemory) → IfOk result (λ file. file.items ≡ image_file form rows) → IfOk result (λ file. file.items ≡ mask_bytes n)
unfolding mask_bytes
mask-made n size form rows e z is result =
    ok-same result (image_file form rows) (mask_bytes n) (files-same form (mask_form n) rows (mask_rows n) e (mask-is n size form rows e z is))

-- ---- and they pass

planar-told : (b : Bool) → planar_number (if b then Chunky else Separate) ≡ (if b then 1 else 2)
planar-told true = refl
planar-told false = refl

contone-shape-is : (n f : ℕ) → shape_for 4 8 (contone_form n f) ≡ contone_shape_of n f
contone-shape-is n f = ap {A = ℕ} (λ p. record (contone_shape_of n f) { planar = p }) (planar-told (f % 2 == 1))

contone-file : (n f : ℕ) → IsContoneFile n f (contone_bytes n f)
unfolding contone_bytes
contone-file n f =
    let can = contone-can n f in
    let file = image_file (contone_form n f) (contone_rows n f) in
    let s = sides n in
    record {
      order = order-of (contone_form n f) (contone_rows n f);
      passes = contone-back (contone_form n f) (contone_rows n f) refl can ∙ ap Ok (contone-shape-is n f);
      pixels = λ x y i wide high ink.
          ap (λ shape. slice_index (image_row shape file y) (4 * x + i)) (sym (contone-shape-is n f))
          ∙ ap (λ row. slice_index row (4 * x + i))
          (contone-row-back (contone_form n f) (contone_rows n f) y refl can high
          ∙ cut-row (contone_row n f (image_width n)) (4 * image_width n) (image_length n) y (λ k. contone_row-length n f (image_width n) k) high)
          ∙ pixel-at n f (image_width n) y x i wide ink;
      small = few-all (contone_form n f) (contone_rows n f) can
          (few-bytes (image_length n) (4 * image_width n) 1024 (omega arith) (omega arith));
    }

line-bit : (width x y : ℕ) → x < width → bit_at (line_row width y) x ≡ line_marked x y
unfolding line_row
line-bit width x y below = bit_at-packed_row width (λ k. line_marked k y) x below

mask-bit : (width x y : ℕ) → x < width → bit_at (mask_row width y) x ≡ mask_marked width x
unfolding mask_row
mask-bit width x y below = bit_at-packed_row width (mask_marked width) x below

-- an image of one bit a pixel, made of rows with these marked pixels
bilevel-file : (usage : BilevelUse) (form : ImageForm) (row : ℕ → List ℕ) (marked : ℕ → ℕ → Bool) → IsBilevelKind usage form.kind → IsMakeable form (rows_of row form.length)
    → ((r : List ℕ) (x : ℕ) → is_marked (photometric_of form.kind) r x ≡ bit_at r x) → ((y : ℕ) → length (row y) ≡ row_length form) → ((x y : ℕ) → x < form.width → bit_at (row y) x ≡ marked x y)
    → form.length * row_length form ≤ 192 * 1024 → IsBilevelFile usage (shape_for 1 1 form) marked (image_file form (rows_of row form.length))
bilevel-file usage form row marked is can shows long bit few =
    let rows = rows_of row form.length in
    let file = image_file form rows in
    record {
      passes = bilevel-back usage form rows is can;
      pixels = λ x y wide high.
          ap (λ p. is_marked p (image_row (shape_for 1 1 form) file y) x) (photometric-of form rows can)
          ∙ shows (image_row (shape_for 1 1 form) file y) x
          ∙ ap (λ r. bit_at r x) (bilevel-row-back usage form rows y is can high ∙ cut-row row (row_length form) form.length y long high)
          ∙ bit x y wide;
      small = few-all form rows can few;
    }

line-file : (n : ℕ) → IsLineFile n (line_bytes n)
unfolding line_bytes
line-file n =
    bilevel-file LineUse (line_form n) (line_row (image_width n)) line_marked line_is_bilevel (line-can n) (λ r x. refl) (line-row-length (image_width n))
    (λ x y. line-bit (image_width n) x y) (few-bits n)

mask-file : (n : ℕ) → IsMaskFile n (mask_bytes n)
unfolding mask_bytes
mask-file n =
    bilevel-file MaskUse (mask_form n) (mask_row (image_width n)) (λ x y. mask_marked (image_width n) x) mask_is_bilevel (mask-can n) (λ r x. refl) (mask-row-length (image_width n))
    (λ x y. mask-bit (image_width n) x y) (few-bits n)

-- all images of a job
pub images_pass : (n : ℕ) → ArePassing n (contone_bytes n) (line_bytes n) (mask_bytes n)
images_pass n = record { contones = contone-file n; line_is = line-file n; mask_is = mask-file n }
