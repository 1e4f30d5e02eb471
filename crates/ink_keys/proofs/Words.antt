-- The pixels of eight bytes read as one number, the first pixel in the highest bit.
use Rattle.std.proofs.Common.{◌≡◌, ℕ, zero, suc, ◌+◌, ◌-◌, ◌*◌, ◌/◌, ◌%◌, ◌^◌, ◌<◌, ◌≤◌, Bool, true, false, cond, List, [], length, take, drop, count_ones, eqb, get_or, refl, ap, sym, ◌∙◌, arith, w64, inl, inr}
use Rattle.std.specs.Int.{from_be_bytes}
use Rattle.std.specs.Prelude.{sum_by, count_by}
use Rattle.std.specs.List.{range_with_len}
use Rattle.std.specs.Simd.{first_chunks}
use Rattle.std.proofs.lemmas.Bool.{cases_lt}
use Rattle.std.proofs.lemmas.List.{drop-drop, get_or-drop, get_or-take}
use Rattle.std.proofs.lemmas.List.Sums.{sum_by-cons}
use Rattle.std.proofs.lemmas.Simd.{ones-mask_l_cons}
use Rattle.ink_keys.specs.Keys.{dots_between}
use Rattle.std.proofs.lemmas.Nat.{be_bytes_8, div-add-mod', ones_cat, ones_le_self, pow-add}
use Rattle.std.proofs.Math.Nat.{div-div-eq-div-mul, div-one}
use Rattle.pr_base.specs.Bits.{bit_at, byte_bit}
use Rattle.pr_base.proofs.Words.{byte_bit-number}
use Rattle.ink_keys.proofs.Ranges.{sum-more, sum-most, sum-moved, sum-parts}

-- a bit as a number, 0 or 1
abbrev pub number : Bool → ℕ
number bit = cond bit 1 0

-- pixel c of eight bytes is a bit of the number that they make
pub bit-word : (bytes : List ℕ) (n c : ℕ) → length bytes ≡ 8 → ((i : ℕ) → get_or bytes i 0 < 256) → n ≡ from_be_bytes w64 bytes → c < 64
    → bit_at bytes c ≡ eqb (n / 2 ^ (63 - c) % 2) 1
bit-word bytes n c eight small is within =
    let place : 8 * (c / 8) + c % 8 ≡ c = omega arith in
    ap (λ bs. byte_bit (get_or bs (c / 8) 0) (c % 8)) (sym (be_bytes_8 bytes n eight small is))
    ∙ byte_bit-number n (c / 8) (c % 8) (omega arith) (omega arith)
    ∙ ap (λ k. eqb (n / 2 ^ (63 - k) % 2) 1) place

-- ---- the number of 1 bits

none-are-one : count_ones 0 ≡ 0
none-are-one = omega (arith, ones_le_self 0)

one-is-one : count_ones 1 ≡ 1
one-is-one = ones-mask_l_cons true [] ∙ ap (λ k. 1 + k) none-are-one

ones-bit : (n : ℕ) → count_ones (n % 2) ≡ number (eqb (n % 2) 1)
ones-bit n = elim (cases_lt (n % 2) 1) [
  | inl none ↦ (let zero : n % 2 ≡ 0 = omega arith in ap count_ones zero ∙ none-are-one ∙ ap (λ k. number (eqb k 1)) (sym zero))
  | inr one ↦ (let same : n % 2 ≡ 1 = omega arith in ap count_ones same ∙ one-is-one ∙ ap (λ k. number (eqb k 1)) (sym same))
]

ones-step : (n : ℕ) → count_ones n ≡ count_ones (n / 2) + number (eqb (n % 2) 1)
ones-step n =
    ap count_ones (sym (div-add-mod' n 2)) ∙ ones_cat 1 (n / 2) (n % 2) (omega arith) ∙ ap (λ k. count_ones (n / 2) + k) (ones-bit n)

-- bit gives the bits of a 64-bit number from the highest on: its first count bits have as many 1 bits as bit
-- says
pub ones-front : (n : ℕ) (bit : ℕ → Bool) (count : ℕ) → n < 2 ^ 64 → ((c : ℕ) → c < 64 → bit c ≡ eqb (n / 2 ^ (63 - c) % 2) 1) → count ≤ 64
    → count_ones (n / 2 ^ (64 - count)) ≡ count_by bit (range_with_len 0 count)
ones-front n bit zero small bits within =
    let none : n / 2 ^ 64 ≡ 0 = omega arith in
    ap count_ones none ∙ none-are-one
ones-front n bit (suc count) small bits within =
    let before = ones-front n bit count small bits (omega arith) in
    let one : count + 1 ≡ suc count = omega arith in
    let shift : 64 - suc count ≡ 63 - count = omega arith in
    let wider : 63 - count + 1 ≡ 64 - count = omega arith in
    let m = n / 2 ^ (63 - count) in
    let half : m / 2 ≡ n / 2 ^ (64 - count) =
    div-div-eq-div-mul n (2 ^ (63 - count)) (2 ^ 1) ∙ ap (λ p. n / p) (sym (pow-add 2 (63 - count) 1)) ∙ ap (λ k. n / 2 ^ k) wider in
    ap (λ k. count_ones (n / 2 ^ k)) shift ∙ ones-step m
    ∙ ap (λ k. count_ones k + number (eqb (m % 2) 1)) half
    ∙ ap (λ k. k + number (eqb (m % 2) 1)) before
    ∙ ap (λ b. count_by bit (range_with_len 0 count) + number b) (sym (bits count (omega arith)))
    ∙ sym (sum-more (λ x. number (bit x)) 0 count count (omega arith))
    ∙ ap (λ k. count_by bit (range_with_len 0 k)) one

-- ---- a row in words

-- word i of a row of bytes
get_or-chunk : (n : ℕ) (row : List ℕ) (i : ℕ) (d : List ℕ) → i < n → get_or (first_chunks 8 n row) i d ≡ take 8 (drop (8 * i) row)
get_or-chunk zero row i d h = absurd (omega arith)
get_or-chunk (suc n) row zero d h = refl
get_or-chunk (suc n) row (suc i) d h =
    let next : 8 + 8 * i ≡ 8 * suc i = omega arith in
    get_or-chunk n (drop 8 row) i d (omega arith) ∙ ap (take 8) (drop-drop (8 * i) 8 row ∙ ap (λ k. drop k row) next)

-- a pixel of a word is a pixel of the row
bit-chunk : (row : List ℕ) (i x : ℕ) → x < 64 → bit_at (take 8 (drop (8 * i) row)) x ≡ bit_at row (x + 64 * i)
bit-chunk row i x within =
    let byte : 8 * i + x / 8 ≡ (x + 64 * i) / 8 = omega arith in
    let column : x % 8 ≡ (x + 64 * i) % 8 = omega arith in
    ap (λ b. byte_bit b (x % 8)) (get_or-take 8 (drop (8 * i) row) (x / 8) 0 (omega arith) ∙ get_or-drop (8 * i) row (x / 8) 0 ∙ ap (λ k. get_or row k 0) byte)
    ∙ ap (λ y. byte_bit (get_or row ((x + 64 * i) / 8) 0) y) column

-- the first pixels of a word of a row
pub front-of-word : (n : ℕ) (row : List ℕ) (i count : ℕ) (d : List ℕ) → i < n → count ≤ 64
    → dots_between (get_or (first_chunks 8 n row) i d) 0 count ≡ count_by (bit_at row) (range_with_len (64 * i) count)
unfolding dots_between
front-of-word n row i count d within few =
    let all : count - 0 ≡ count = omega arith in
    ap (λ bytes. dots_between bytes 0 count) (get_or-chunk n row i d within)
    ∙ ap (λ k. count_by (bit_at (take 8 (drop (8 * i) row))) (range_with_len 0 k)) all
    ∙ sum-moved (λ x. number (bit_at (take 8 (drop (8 * i) row)) x)) (λ x. number (bit_at row x)) 0 (64 * i) (64 * i) count (omega arith)
    (λ x _ below. ap number (bit-chunk row i x (omega arith)))

-- the pixels of the bytes after the first word
bits-behind : (row : List ℕ) (x : ℕ) → bit_at (drop 8 row) x ≡ bit_at row (x + 64)
bits-behind row x =
    let byte : 8 + x / 8 ≡ (x + 64) / 8 = omega arith in
    let column : x % 8 ≡ (x + 64) % 8 = omega arith in
    ap (λ b. byte_bit b (x % 8)) (get_or-drop 8 row (x / 8) 0 ∙ ap (λ k. get_or row k 0) byte)
    ∙ ap (λ y. byte_bit (get_or row ((x + 64) / 8) 0) y) column

-- the pixels of consecutive words of a row
pub whole-words : (n : ℕ) (row : List ℕ) (i m : ℕ) → i + m ≤ n
    → sum_by (λ word. dots_between word 0 64) (take m (drop i (first_chunks 8 n row))) ≡ count_by (bit_at row) (range_with_len (64 * i) (64 * m))
whole-words n row zero zero within = refl
whole-words n row (suc i) zero within = refl
whole-words zero row zero (suc m) within = absurd (omega arith)
whole-words (suc n) row zero (suc m) within =
    let each = λ (word : List ℕ). dots_between word 0 64 in
    let bit = λ (x : ℕ). number (bit_at row x) in
    let words = take m (first_chunks 8 n (drop 8 row)) in
    let rest = whole-words n (drop 8 row) zero m (omega arith) in
    let behind = sum-moved (λ x. number (bit_at (drop 8 row) x)) bit 0 64 64 (64 * m) (omega arith) (λ x _ _. ap number (bits-behind row x)) in
    let all : 64 + 64 * m ≡ 64 * suc m = omega arith in
    sum_by-cons each (take 8 row) words
    ∙ ap (λ k. k + sum_by each words) (front-of-word (suc n) row 0 64 [] (omega arith) (omega arith))
    ∙ ap (λ k. sum_by bit (range_with_len 0 64) + k) (rest ∙ behind)
    ∙ sym (sum-parts bit 0 64 (64 * m))
    ∙ ap (λ k. sum_by bit (range_with_len 0 k)) all
whole-words zero row (suc i) (suc m) within = absurd (omega arith)
whole-words (suc n) row (suc i) (suc m) within =
    let next : 64 * i + 64 ≡ 64 * suc i = omega arith in
    whole-words n (drop 8 row) i (suc m) (omega arith)
    ∙ sum-moved (λ x. number (bit_at (drop 8 row) x)) (λ x. number (bit_at row x)) (64 * i) 64 (64 * suc i) (64 * suc m) next (λ x _ _. ap number (bits-behind row x))

-- the 1 pixels of the whole words and of the front of the word after them are those of the front of the first
-- word and those in between
counted : (n : ℕ) (row : List ℕ) (from to : ℕ) (d e : List ℕ) → from ≤ to → to / 64 < n
    → sum_by (λ word. dots_between word 0 64) (take (to / 64 - from / 64) (drop (from / 64) (first_chunks 8 n row)))
    + dots_between (get_or (first_chunks 8 n row) (to / 64) d) 0 (to % 64)
    ≡ dots_between (get_or (first_chunks 8 n row) (from / 64) e) 0 (from % 64) + count_by (bit_at row) (range_with_len from (to - from))
counted n row from to d e order within =
    let bit = λ (x : ℕ). number (bit_at row x) in
    let a = from / 64 in
    let b = to / 64 in
    let whole = whole-words n row a (b - a) (omega arith) in
    let upper = front-of-word n row b (to % 64) d within (omega arith) in
    let lower = front-of-word n row a (from % 64) e (omega arith) (omega arith) in
    let behind : 64 * a + 64 * (b - a) ≡ 64 * b = omega arith in
    let inside : 64 * a + from % 64 ≡ from = omega arith in
    let span : 64 * (b - a) + to % 64 ≡ from % 64 + (to - from) = omega arith in
    let one = sum-parts bit (64 * a) (64 * (b - a)) (to % 64) in
    let two = sum-parts bit (64 * a) (from % 64) (to - from) in
    let one-place = ap (λ k. sum_by bit (range_with_len k (to % 64))) behind in
    let two-place = ap (λ k. sum_by bit (range_with_len k (to - from))) inside in
    let same = ap (λ k. sum_by bit (range_with_len (64 * a) k)) span in
    omega arith

pub counted-between : (n : ℕ) (row : List ℕ) (words : List (List ℕ)) (from to ones upper lower : ℕ) (d e : List ℕ) → words ≡ first_chunks 8 n row → from ≤ to → to / 64 < n
    → ones ≡ sum_by (λ word. dots_between word 0 64) (take (to / 64 - from / 64) (drop (from / 64) words))
    → upper ≡ dots_between (get_or words (to / 64) d) 0 (to % 64) → lower ≡ dots_between (get_or words (from / 64) e) 0 (from % 64)
    → ones + upper ≡ lower + dots_between row from to
unfolding dots_between
counted-between n row words from to ones upper lower d e are order within ones_are upper_is lower_is =
    let all = counted n row from to d e order within in
    let whole = ap (λ ws. sum_by (λ word. dots_between word 0 64) (take (to / 64 - from / 64) (drop (from / 64) ws))) are in
    let high = ap (λ ws. dots_between (get_or ws (to / 64) d) 0 (to % 64)) are in
    let low = ap (λ ws. dots_between (get_or ws (from / 64) e) 0 (from % 64)) are in
    omega arith

-- at most as many 1 pixels as pixels
pub dots-most : (row : List ℕ) (from to : ℕ) → dots_between row from to ≤ to - from
unfolding dots_between
dots-most row from to = sum-most (λ x. number (bit_at row x)) from (to - from) (λ x. most (bit_at row x))
  where
    most : (bit : Bool) → number bit ≤ 1
    most true = omega arith
    most false = omega arith

-- ---- the number of eight bytes

pub word-front : (bytes : List ℕ) (n count : ℕ) → length bytes ≡ 8 → ((i : ℕ) → get_or bytes i 0 < 256) → n < 2 ^ 64 → n ≡ from_be_bytes w64 bytes → count < 64
    → count_ones (n / 2 / 2 ^ (63 - count)) ≡ dots_between bytes 0 count
unfolding dots_between
word-front bytes n count eight small below is within =
    let wider : 1 + (63 - count) ≡ 64 - count = omega arith in
    let all : count ≡ count - 0 = omega arith in
    ap count_ones (div-div-eq-div-mul n 2 (2 ^ (63 - count)) ∙ ap (λ p. n / p) (sym (pow-add 2 1 (63 - count))) ∙ ap (λ k. n / 2 ^ k) wider)
    ∙ ones-front n (bit_at bytes) count below (λ c less. bit-word bytes n c eight small is less) (omega arith)
    ∙ ap (λ k. count_by (bit_at bytes) (range_with_len 0 k)) all

pub word-ones : (bytes : List ℕ) (n : ℕ) → length bytes ≡ 8 → ((i : ℕ) → get_or bytes i 0 < 256) → n < 2 ^ 64 → n ≡ from_be_bytes w64 bytes
    → count_ones n ≡ dots_between bytes 0 64
unfolding dots_between
word-ones bytes n eight small below is =
    ap count_ones (sym (div-one n)) ∙ ones-front n (bit_at bytes) 64 below (λ c less. bit-word bytes n c eight small is less) (omega arith)
