-- A row of bytes is determined by its bits.
use Rattle.std.proofs.Common.{◌≡◌, ℕ, ◌+◌, ◌-◌, ◌*◌, ◌/◌, ◌%◌, ◌^◌, ◌<◌, ◌≤◌, Bool, false, ◌&&◌, nat_eq, nat_lt, List, length, get_or, ap, sym, ◌∙◌, arith}
use Rattle.std.proofs.lemmas.List.FromFn.{fill_by_all, length-map-range_with_len}
use Rattle.std.proofs.lemmas.Bool.Decides.{nat_tests}
use Rattle.pr_base.specs.Row.{row_size}
use Rattle.pr_base.specs.Bits.{bit_at, bit_number, packed_byte, packed_row}

-- a bit converted to a boolean and back
bit_number-test : (n : ℕ) → bit_number (nat_eq (n % 2) 1) ≡ n % 2
bit_number-test n = grind (arith, nat_tests)

-- a byte equals its eight bits packed
byte_is : (b : ℕ) → b < 256 → b ≡ packed_byte (λ k. nat_eq (b / 2 ^ (7 - k) % 2) 1)
byte_is b small = omega (arith, bit_number-test (b / 128), bit_number-test (b / 64), bit_number-test (b / 32), bit_number-test (b / 16), bit_number-test (b / 8), bit_number-test (b / 4), bit_number-test (b / 2), bit_number-test (b / 1))

-- the bits of byte j, each by its column
bits_of-byte : (row : List ℕ) (j k : ℕ) → k < 8 → bit_at row (8 * j + k) ≡ nat_eq (get_or row j 0 / 2 ^ (7 - k) % 2) 1
bits_of-byte row j k small =
    let place : (8 * j + k) / 8 ≡ j = omega arith in
    let within : (8 * j + k) % 8 ≡ k = omega arith in
    ap (λ n. nat_eq (get_or row n 0 / 2 ^ (7 - (8 * j + k) % 8) % 2) 1) place ∙ ap (λ n. nat_eq (get_or row j 0 / 2 ^ (7 - n) % 2) 1) within

-- eight equal bits pack to equal bytes
packed_byte-same : (f g : ℕ → Bool) → ((k : ℕ) → k < 8 → f k ≡ g k) → packed_byte f ≡ packed_byte g
packed_byte-same f g same =
    let e0 : f 0 ≡ g 0 = same 0 (omega arith) in
    let e1 : f 1 ≡ g 1 = same 1 (omega arith) in
    let e2 : f 2 ≡ g 2 = same 2 (omega arith) in
    let e3 : f 3 ≡ g 3 = same 3 (omega arith) in
    let e4 : f 4 ≡ g 4 = same 4 (omega arith) in
    let e5 : f 5 ≡ g 5 = same 5 (omega arith) in
    let e6 : f 6 ≡ g 6 = same 6 (omega arith) in
    let e7 : f 7 ≡ g 7 = same 7 (omega arith) in
    cc

-- a pixel with the given value within the width, and clear past it
within : (width x : ℕ) (seen bit : Bool) → (x < width → seen ≡ bit) → (width ≤ x → seen ≡ false) → seen ≡ (nat_lt x width && bit)
within width x seen bit inside behind = grind (arith, nat_tests)

-- a row whose bits are these within the width, and 0 past it, is their packing
pub row_is_packed : (row : List ℕ) (width : ℕ) (bit : ℕ → Bool) → length row ≡ row_size width → ((j : ℕ) → get_or row j 0 < 256)
    → ((x : ℕ) → x < width → bit_at row x ≡ bit x) → ((x : ℕ) → width ≤ x → bit_at row x ≡ false) → row ≡ packed_row width bit
unfolding packed_row
row_is_packed row width bit size bytes inside behind =
    fill_by_all (λ j. packed_byte (λ k. nat_lt (8 * j + k) width && bit (8 * j + k))) row (row_size width) 0 size
    (λ j _. byte_is (get_or row j 0) (bytes j) ∙ packed_byte-same (λ k. nat_eq (get_or row j 0 / 2 ^ (7 - k) % 2) 1) (λ k. nat_lt (8 * j + k) width && bit (8 * j + k))
    (λ k small. sym (bits_of-byte row j k small) ∙ within width (8 * j + k) (bit_at row (8 * j + k)) (bit (8 * j + k)) (inside (8 * j + k)) (behind (8 * j + k))))

-- a packed row has the length of a row
pub length-packed_row : (width : ℕ) (bit : ℕ → Bool) → length (packed_row width bit) ≡ row_size width
unfolding packed_row
length-packed_row width bit = length-map-range_with_len (λ j. packed_byte (λ k. nat_lt (8 * j + k) width && bit (8 * j + k))) 0 (row_size width)
