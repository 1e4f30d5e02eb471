-- The rows of a job's images, in terms of their bytes.
use Rattle.std.proofs.Common.{◌≡◌, ℕ, zero, suc, ◌+◌, ◌*◌, ◌%◌, ◌<◌, ◌≤◌, ◌⊎◌, inl, inr, Bool, true, false, ◌&&◌, ◌==◌, nat_lt, if◌then◌else◌, List, [], ◌∷◌, ◌++◌, length, map, replicate, get_or, refl, sym, ap, ◌∙◌, arith}
use Rattle.std.specs.List.{flat_map, range_with_len}
use Rattle.std.proofs.lemmas.Bool.{cases_lt}
use Rattle.std.proofs.lemmas.Bool.Decides.{nat_tests}
use Rattle.std.proofs.lemmas.List.{append_assoc, length-append}
use Rattle.std.proofs.lemmas.List.FromFn.{length-map-range_with_len, map-range_with_len_more}
use Rattle.pr_base.specs.Bits.{packed_byte, packed_row}
use Rattle.pr_base.specs.Row.{row_size}
use Rattle.tif_make.proofs.Growing.{rows-more}
use Rattle.job_gen.specs.Images.{contone_pixel, contone_row, line_marked, line_row, mask_marked, mask_row, rows_of}

-- one more row, for an image without rows
pub row_more : (f : ℕ → List ℕ) (k : ℕ) (old new : List ℕ) → old ≡ flat_map f (range_with_len 0 k) → new ≡ old ++ f k
    → new ≡ flat_map f (range_with_len 0 (k + 1))
row_more f k old new is next = rows-more f 0 k [] old new is (next ∙ ap (λ n. old ++ f n) (omega arith))

-- one more piece appended
pub rows-step : (f : ℕ → List ℕ) (k : ℕ) (old new next piece : List ℕ) → new ≡ old ++ flat_map f (range_with_len 0 k) → next ≡ new ++ piece → piece ≡ f k
    → next ≡ old ++ flat_map f (range_with_len 0 (k + 1))
rows-step f k old new next piece is is_next is_piece = rows-more f 0 k old new next is (is_next ∙ ap (λ xs. new ++ xs) (is_piece ∙ ap f (omega arith)))

-- ---- rows of bits

same_byte : (f g : ℕ → Bool) → ((k : ℕ) → k < 8 → f k ≡ g k) → packed_byte f ≡ packed_byte g
same_byte f g same =
    let e0 = same 0 (omega arith) in
    let e1 = same 1 (omega arith) in
    let e2 = same 2 (omega arith) in
    let e3 = same 3 (omega arith) in
    let e4 = same 4 (omega arith) in
    let e5 = same 5 (omega arith) in
    let e6 = same 6 (omega arith) in
    let e7 = same 7 (omega arith) in
    rw (e0, e1, e2, e3, e4, e5, e6, e7) refl

same_map : (f g : ℕ → ℕ) (from count : ℕ) → ((k : ℕ) → from ≤ k → k < from + count → f k ≡ g k) → map f (range_with_len from count) ≡ map g (range_with_len from count)
same_map f g from zero same = refl
same_map f g from (suc count) same =
    ap (λ x. x ∷ map f (range_with_len (from + 1) count)) (same from (omega arith) (omega arith))
    ∙ ap (λ xs. g from ∷ xs) (same_map f g (from + 1) count (λ k low high. same k (omega arith) (omega arith)))

map_one : (y from count : ℕ) → map (λ k. y) (range_with_len from count) ≡ replicate count y
map_one y from zero = refl
map_one y from (suc count) = ap (λ xs. y ∷ xs) (map_one y (from + 1) count)

-- the four bytes of the linework
abbrev pub line_table : List ℕ
line_table = 136 ∷ 17 ∷ 34 ∷ 68 ∷ []

remainder_byte : (r : ℕ) → r < 4 → packed_byte (λ k. (k + r) % 4 == 0) ≡ get_or line_table r 0
remainder_byte zero h = refl
remainder_byte (suc zero) h = refl
remainder_byte (suc (suc zero)) h = refl
remainder_byte (suc (suc (suc zero))) h = refl
remainder_byte (suc (suc (suc (suc r)))) h = absurd (omega arith)

line_test : (bytes y j k : ℕ) → j < bytes → k < 8 → (nat_lt (8 * j + k) (8 * bytes) && line_marked (8 * j + k) y) ≡ ((k + y % 4) % 4 == 0)
line_test bytes y j k below within =
    let inside : nat_lt (8 * j + k) (8 * bytes) ≡ true = yes (omega arith) in
    let e : (8 * j + k + y) % 4 ≡ (k + y % 4) % 4 = omega arith in
    rw (inside, e) refl
  where
    yes : {a b : ℕ} → a < b → nat_lt a b ≡ true
    yes h = grind (arith, nat_tests)

pub line_row_is : (bytes y : ℕ) → line_row (8 * bytes) y ≡ replicate bytes (get_or line_table (y % 4) 0)
unfolding line_row packed_row
line_row_is bytes y =
    let size : row_size (8 * bytes) ≡ bytes = omega arith in
    ap (λ n. map (λ j. packed_byte (λ k. nat_lt (8 * j + k) (8 * bytes) && line_marked (8 * j + k) y)) (range_with_len 0 n)) size
    ∙ same_map (λ j. packed_byte (λ k. nat_lt (8 * j + k) (8 * bytes) && line_marked (8 * j + k) y)) (λ j. get_or line_table (y % 4) 0) 0 bytes
    (λ j low high. same_byte (λ k. nat_lt (8 * j + k) (8 * bytes) && line_marked (8 * j + k) y) (λ k. (k + y % 4) % 4 == 0)
    (λ k within. line_test bytes y j k (omega arith) within)
    ∙ remainder_byte (y % 4) (omega arith))
    ∙ map_one (get_or line_table (y % 4) 0) 0 bytes

-- a byte of the mask
abbrev pub mask_byte : ℕ → ℕ → ℕ
mask_byte half j = if nat_lt j half then 255 else 0

mask_test : (half j k : ℕ) → j < 2 * half → k < 8 → (nat_lt (8 * j + k) (16 * half) && mask_marked (16 * half) (8 * j + k)) ≡ nat_lt j half
mask_test half j k below within = by (cases_lt j half)
  where
    yes : {a b : ℕ} → a < b → nat_lt a b ≡ true
    yes h = grind (arith, nat_tests)

    no : {a b : ℕ} → b ≤ a → nat_lt a b ≡ false
    no h = grind (arith, nat_tests)

    by : (j < half) ⊎ (half ≤ j) → (nat_lt (8 * j + k) (16 * half) && mask_marked (16 * half) (8 * j + k)) ≡ nat_lt j half
    by (inl left) =
        let a : nat_lt (8 * j + k) (16 * half) ≡ true = yes (omega arith) in
        let b : nat_lt (2 * (8 * j + k)) (16 * half) ≡ true = yes (omega arith) in
        let c : nat_lt j half ≡ true = yes left in
        rw (a, b, c) refl
    by (inr right) =
        let a : nat_lt (8 * j + k) (16 * half) ≡ true = yes (omega arith) in
        let b : nat_lt (2 * (8 * j + k)) (16 * half) ≡ false = no (omega arith) in
        let c : nat_lt j half ≡ false = no right in
        rw (a, b, c) refl

flat_byte : (b : Bool) → packed_byte (λ k. b) ≡ (if b then 255 else 0)
flat_byte true = refl
flat_byte false = refl

pub mask_row_is : (half y : ℕ) → mask_row (16 * half) y ≡ map (mask_byte half) (range_with_len 0 (2 * half))
unfolding mask_row packed_row
mask_row_is half y =
    let size : row_size (16 * half) ≡ 2 * half = omega arith in
    ap (λ n. map (λ j. packed_byte (λ k. nat_lt (8 * j + k) (16 * half) && mask_marked (16 * half) (8 * j + k))) (range_with_len 0 n)) size
    ∙ same_map (λ j. packed_byte (λ k. nat_lt (8 * j + k) (16 * half) && mask_marked (16 * half) (8 * j + k))) (mask_byte half) 0 (2 * half)
    (λ j low high. same_byte (λ k. nat_lt (8 * j + k) (16 * half) && mask_marked (16 * half) (8 * j + k)) (λ k. nat_lt j half)
    (λ k within. mask_test half j k (omega arith) within)
    ∙ flat_byte (nat_lt j half))

-- one more byte of the mask
pub mask_row_more : (half j : ℕ) (old new next : List ℕ) (byte : ℕ) → new ≡ old ++ map (mask_byte half) (range_with_len 0 j) → next ≡ new ++ byte ∷ []
    → byte ≡ mask_byte half j → next ≡ old ++ map (mask_byte half) (range_with_len 0 (j + 1))
mask_row_more half j old new next byte is is_next is_byte =
    is_next ∙ ap (λ xs. xs ++ byte ∷ []) is ∙ append_assoc old _ _
    ∙ ap (λ b. old ++ (map (mask_byte half) (range_with_len 0 j) ++ b ∷ [])) is_byte
    ∙ ap (λ xs. old ++ xs) (sym (map-range_with_len_more (mask_byte half) 0 j j (omega arith)))

-- a whole row
pub mask_row_end : (half y j : ℕ) (old new : List ℕ) → j ≡ 2 * half → new ≡ old ++ map (mask_byte half) (range_with_len 0 j) → new ≡ old ++ mask_row (16 * half) y
mask_row_end half y j old new e is =
    is ∙ ap (λ n. old ++ map (mask_byte half) (range_with_len 0 n)) e ∙ ap (λ xs. old ++ xs) (sym (mask_row_is half y))

pub line_row_end : (bytes y j byte : ℕ) (old new : List ℕ) → j ≡ bytes → byte ≡ get_or line_table (y % 4) 0 → new ≡ old ++ replicate j byte → new ≡ old ++ line_row (8 * bytes) y
line_row_end bytes y j byte old new e is_byte is =
    is ∙ ap (λ n. old ++ replicate n byte) e ∙ ap (λ b. old ++ replicate bytes b) is_byte ∙ ap (λ xs. old ++ xs) (sym (line_row_is bytes y))

-- ---- lengths

pub contone_row-length : (n f width y : ℕ) → length (contone_row n f width y) ≡ 4 * width
unfolding contone_row
contone_row-length n f width y = by 0 width
  where
    by : (from count : ℕ) → length (flat_map (contone_pixel n f y) (range_with_len from count)) ≡ 4 * count
    by from zero = omega arith
    by from (suc count) =
        length-append (contone_pixel n f y from) (flat_map (contone_pixel n f y) (range_with_len (from + 1) count)) ∙ omega (arith, by (from + 1) count)

pub packed_row-length : (width : ℕ) (bit : ℕ → Bool) → length (packed_row width bit) ≡ row_size width
unfolding packed_row
packed_row-length width bit = length-map-range_with_len (λ j. packed_byte (λ k. nat_lt (8 * j + k) width && bit (8 * j + k))) 0 (row_size width)

pub rows-length : (row : ℕ → List ℕ) (size length' : ℕ) → ((y : ℕ) → length (row y) ≡ size) → length (rows_of row length') ≡ length' * size
rows-length row size length' same = by 0 length'
  where
    by : (from count : ℕ) → length (flat_map row (range_with_len from count)) ≡ count * size
    by from zero = omega arith
    by from (suc count) =
        length-append (row from) (flat_map row (range_with_len (from + 1) count)) ∙ omega (arith, same from, by (from + 1) count)
