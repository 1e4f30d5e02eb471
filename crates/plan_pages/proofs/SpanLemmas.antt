-- Setting pixels in a row: by a mask over one byte, by whole bytes, and by both combined.
use Rattle.std.proofs.Common.{◌≡◌, ◌≢◌, ℕ, ◌+◌, ◌-◌, ◌*◌, ◌/◌, ◌%◌, ◌^◌, ◌<◌, ◌≤◌, Bool, true, false, ◌&&◌, ◌||◌, List, length, max, min, bit_and, refl, ap, sym, ◌∙◌, inl, inr, arith, eqb, leb, get_or, set, get_or-set_same, get_or-set_other}
use Rattle.std.specs.Prelude.{bit_or}
use Rattle.std.proofs.lemmas.Bool.{cases_eq, cases_lt, eq-eqb, ne_eqb, le-leb, lt-leb}
use Rattle.std.proofs.lemmas.Bool.Decides.{nat_tests}
use Rattle.std.proofs.lemmas.Nat.Bits.{bit_at_or, bit_at_and, bit_at-lt, bit_at_ones, bit_at_ones_above, ones_shr, ones_shl, bit_at_mask_inside, bit_at_mask_below}
use Rattle.pr_base.specs.Bits.{bit_at, byte_bit}
use Rattle.plan_pages.specs.Span.{AddsBits, in_byte, in_bytes, in_span}

-- ---- the pixels of a byte

max_is_one : (p q : ℕ) → p < 2 → q < 2 → eqb (max p q) 1 ≡ (eqb p 1 || eqb q 1)
max_is_one p q left right = grind (arith, nat_tests)

min_is_one : (p q : ℕ) → p < 2 → q < 2 → eqb (min p q) 1 ≡ (eqb p 1 && eqb q 1)
min_is_one p q left right = grind (arith, nat_tests)

byte_bit-or : (a b k : ℕ) → byte_bit (bit_or a b) k ≡ (byte_bit a k || byte_bit b k)
byte_bit-or a b k =
    ap (λ n. eqb n 1) (bit_at_or a b (7 - k)) ∙ max_is_one _ _ (bit_at-lt a (7 - k)) (bit_at-lt b (7 - k))

byte_bit-and : (a b k : ℕ) → byte_bit (bit_and a b) k ≡ (byte_bit a k && byte_bit b k)
byte_bit-and a b k =
    ap (λ n. eqb n 1) (bit_at_and a b (7 - k)) ∙ min_is_one _ _ (bit_at-lt a (7 - k)) (bit_at-lt b (7 - k))

-- `MAX >> k`: the pixels from k on
byte_bit-front : (k x : ℕ) → k < 8 → x < 8 → byte_bit (255 / 2 ^ k) x ≡ leb k x
byte_bit-front k x small within =
    ap (λ n. byte_bit n x) (ones_shr 8 k (omega arith)) ∙ elim (cases_lt x k) [
      | inl early ↦ ap (λ n. eqb n 1) (bit_at_ones_above (8 - k) (7 - x) (omega arith)) ∙ sym (lt-leb k x early)
      | inr late ↦ ap (λ n. eqb n 1) (bit_at_ones (8 - k) (7 - x) (omega arith)) ∙ sym (le-leb k x late)
    ]

-- `MAX << 7 - k`: the pixels up to k
byte_bit-back : (k x : ℕ) → k < 8 → x < 8 → byte_bit (255 * 2 ^ (7 - k) % 256) x ≡ leb x k
byte_bit-back k x small within =
    ap (λ n. byte_bit n x) (ones_shl 8 (7 - k) (omega arith)) ∙ elim (cases_lt k x) [
      | inl past ↦ ap (λ n. eqb n 1) (bit_at_mask_below (7 - k) 8 (7 - x) (omega arith)) ∙ sym (lt-leb x k past)
      | inr early ↦ ap (λ n. eqb n 1) (bit_at_mask_inside (7 - k) 8 (7 - x) (omega arith) (omega arith)) ∙ sym (le-leb x k early)
    ]

whole_byte : (k : ℕ) → k < 8 → byte_bit 255 k ≡ true
whole_byte k within = ap (λ n. eqb n 1) (bit_at_ones 8 (7 - k) (omega arith))

-- ---- one byte of a row

or_false : (b : Bool) → b ≡ (b || false)
or_false true = refl
or_false false = refl

or_true : (b : Bool) → true ≡ (b || true)
or_true true = refl
or_true false = refl

adds_at : (bits : List ℕ) (i byte : ℕ) (mask : ℕ → Bool) → i < length bits → ((k : ℕ) → k < 8 → byte_bit byte k ≡ (byte_bit (get_or bits i 0) k || mask k)) → AddsBits (λ x. eqb (x / 8) i && mask (x % 8)) bits (set bits i byte)
adds_at bits i byte mask within shows = record {
  each = λ x. elim (cases_eq (x / 8) i) [
    | inl here ↦ ap (λ j. byte_bit (get_or (set bits i byte) j 0) (x % 8)) here ∙ ap (λ b. byte_bit b (x % 8)) (get_or-set_same bits i byte 0 within)
        ∙ shows (x % 8) (omega arith) ∙ ap (λ j. byte_bit (get_or bits j 0) (x % 8) || mask (x % 8)) (sym here)
        ∙ ap (λ t. bit_at bits x || (t && mask (x % 8))) (sym (eq-eqb (x / 8) i here))
    | inr other ↦ ap (λ b. byte_bit b (x % 8)) (get_or-set_other bits i (x / 8) byte 0 other) ∙ or_false (bit_at bits x)
        ∙ ap (λ t. bit_at bits x || (t && mask (x % 8))) (sym (ne_eqb (x / 8) i other))
  ];
}

-- a mask combined with a byte by OR
pub adds_mask : (bits : List ℕ) (i mask : ℕ) → i < length bits → AddsBits (in_byte i mask) bits (set bits i (bit_or (get_or bits i 0) mask))
adds_mask bits i mask within = adds_at bits i _ (byte_bit mask) within (λ k _. byte_bit-or (get_or bits i 0) mask k)

-- ---- spans

pub adds_none : (test : ℕ → Bool) (bits : List ℕ) → ((x : ℕ) → test x ≡ false) → AddsBits test bits bits
adds_none test bits none = record { each = λ x. or_false (bit_at bits x) ∙ ap (λ t. bit_at bits x || t) (sym (none x)) }

or_assoc : (a b c : Bool) → ((a || b) || c) ≡ (a || (b || c))
or_assoc true b c = refl
or_assoc false b c = refl

pub adds_join : (first second test : ℕ → Bool) (old now new : List ℕ) → AddsBits first old now → AddsBits second now new → ((x : ℕ) → (first x || second x) ≡ test x) → AddsBits test old new
adds_join first second test old now new one two same = record {
  each = λ x. two.each x ∙ ap (λ b. b || second x) (one.each x) ∙ or_assoc (bit_at old x) (first x) (second x) ∙ ap (λ t. bit_at old x || t) (same x);
}

pub adds_same : (first test : ℕ → Bool) (old new : List ℕ) → AddsBits first old new → ((x : ℕ) → first x ≡ test x) → AddsBits test old new
adds_same first test old new one same = record { each = λ x. one.each x ∙ ap (λ t. bit_at old x || t) (same x) }

-- no bytes, and one more byte
pub no_bytes : (from x : ℕ) → in_bytes from from x ≡ false
no_bytes from x = grind (arith, nat_tests)

one_more : (from i x : ℕ) → from ≤ i → (in_bytes from i x || (eqb (x / 8) i && true)) ≡ in_bytes from (i + 1) x
one_more from i x ordered = grind (arith, nat_tests)

pub adds_byte : (old now : List ℕ) (from i : ℕ) → from ≤ i → i < length now → AddsBits (in_bytes from i) old now → AddsBits (in_bytes from (i + 1)) old (set now i 255)
adds_byte old now from i ordered within sets =
    adds_join (in_bytes from i) (λ x. eqb (x / 8) i && true) (in_bytes from (i + 1)) old now (set now i 255) sets
    (adds_at now i 255 (λ _. true) within (λ k small. whole_byte k small ∙ or_true (byte_bit (get_or now i 0) k)))
    (λ x. one_more from i x ordered)

-- the pixels of a span within one byte, by column
in_one : (from to x : ℕ) → from < to → from / 8 ≡ (to - 1) / 8 → (eqb (x / 8) (from / 8) && (leb (from % 8) (x % 8) && leb (x % 8) ((to - 1) % 8))) ≡ in_span from to x
in_one from to x some one = grind (arith, nat_tests)

pub span_of_one : (from to x : ℕ) → from < to → from / 8 ≡ (to - 1) / 8 → in_byte (from / 8) (bit_and (255 / 2 ^ (from % 8)) (255 * 2 ^ (7 - (to - 1) % 8) % 256)) x ≡ in_span from to x
span_of_one from to x some one =
    ap (λ t. eqb (x / 8) (from / 8) && t) (byte_bit-and _ _ (x % 8) ∙ ap (λ t. t && byte_bit (255 * 2 ^ (7 - (to - 1) % 8) % 256) (x % 8)) (byte_bit-front (from % 8) (x % 8) (omega arith) (omega arith))
    ∙ ap (λ t. leb (from % 8) (x % 8) && t) (byte_bit-back ((to - 1) % 8) (x % 8) (omega arith) (omega arith)))
    ∙ in_one from to x some one

-- the pixels of a span over several bytes
in_more : (from to x : ℕ) → from < to → from / 8 ≢ (to - 1) / 8 → (((eqb (x / 8) (from / 8) && leb (from % 8) (x % 8)) || in_bytes (from / 8 + 1) ((to - 1) / 8) x) || (eqb (x / 8) ((to - 1) / 8) && leb (x % 8) ((to - 1) % 8))) ≡ in_span from to x
in_more from to x some more = grind (arith, nat_tests)

pub span_of_more : (from to x : ℕ) → from < to → from / 8 ≢ (to - 1) / 8 → ((in_byte (from / 8) (255 / 2 ^ (from % 8)) x || in_bytes (from / 8 + 1) ((to - 1) / 8) x) || in_byte ((to - 1) / 8) (255 * 2 ^ (7 - (to - 1) % 8) % 256) x) ≡ in_span from to x
span_of_more from to x some more =
    ap (λ t. ((eqb (x / 8) (from / 8) && t) || in_bytes (from / 8 + 1) ((to - 1) / 8) x) || in_byte ((to - 1) / 8) (255 * 2 ^ (7 - (to - 1) % 8) % 256) x) (byte_bit-front (from % 8) (x % 8) (omega arith) (omega arith))
    ∙ ap (λ t. ((eqb (x / 8) (from / 8) && leb (from % 8) (x % 8)) || in_bytes (from / 8 + 1) ((to - 1) / 8) x) || (eqb (x / 8) ((to - 1) / 8) && t)) (byte_bit-back ((to - 1) % 8) (x % 8) (omega arith) (omega arith))
    ∙ in_more from to x some more
