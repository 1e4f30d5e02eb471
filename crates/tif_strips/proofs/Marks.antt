-- Marks of strips: none, those that the walk sets, and where a row begins behind one.
use Rattle.std.proofs.Common.{◌≡◌, ◌≢◌, ℕ, zero, suc, ◌+◌, ◌-◌, ◌*◌, ◌/◌, ◌%◌, ◌<◌, ◌≤◌, Bool, true, false, min, nat_lt, if◌then◌else◌, List, [], ◌++◌, length, drop, slice_index, refl, sym, ap, ◌∙◌, arith}
use Rattle.std.specs.Prelude.{IsTrue}
use Rattle.std.proofs.Math.Nat.{mul-le-mul_right}
use Rattle.std.proofs.lemmas.Bool.Decides.{nat_tests}
use Rattle.std.proofs.lemmas.List.{drop-drop, get_or-append-add, get_or_append_left, length-drop}
use Rattle.std.proofs.lemmas.Nat.{div-add-mod', mod_below}
use Rattle.tif_packbits.specs.Packbits.{expansion}
use Rattle.tif_strips.specs.declared.shape.Shape.{Shape}
use Rattle.tif_strips.specs.Strips.{Image, plane_row_length, stored_bytes, strip_count, strip_rows}
use Rattle.tif_strips.specs.Marks.{AreMarks, HasMarks, IsMark, MarksOf, marks_per_strip}

-- ---- no marks

pub no_mark : (stored : List ℕ) (from : ℕ) → IsMark stored from 0
no_mark stored from = record { within = omega arith; begins = λ some. absurd (some refl) }

pub zero_mark : (stored : List ℕ) (from mark : ℕ) → mark ≡ 0 → IsMark stored from mark
zero_mark stored from mark none = rw none (no_mark stored from)

-- an image without marks
pub no_marks : (image : Image) → MarksOf image []
no_marks image = record { each = λ i k below under. no_mark _ _ }

-- no strips have no marks
pub none_marked : (image : Image) (first per : ℕ) (marks : List ℕ) → AreMarks image first 0 per marks
none_marked image first per marks = record { each = λ i k below under. absurd (omega arith) }

-- marks that say nothing
pub unmarked : (stored marks : List ℕ) (step : ℕ) → ((k : ℕ) → k < length marks → slice_index marks k ≡ 0)
    → HasMarks stored step marks
unmarked stored marks step none = record { each = λ k below. zero_mark _ _ _ (none k below) }

-- ---- the strips of an image

-- the marks of one strip
pub strip_marked : (image : Image) (i per : ℕ) (marks : List ℕ) → length marks ≡ per
    → HasMarks (stored_bytes image.shape image.bytes i) (64 * plane_row_length image.shape) marks
    → AreMarks image i 1 per marks
strip_marked image i per marks room has = record { each = λ j k below under. one j k below under }
  where
    one : (j k : ℕ) → j < 1 → k < per
        → IsMark (stored_bytes image.shape image.bytes (i + j))
        ((k + 1) * (64 * plane_row_length image.shape)) (slice_index marks (j * per + k))
    one zero k below under =
        let here : i + 0 ≡ i = omega arith in
        let at : 0 * per + k ≡ k = omega arith in
        rw (here, at) (has.each k (omega arith))
    one (suc j) k below under = absurd (omega arith)

below_or : (a b : ℕ) → nat_lt a b ≡ true → a < b
below_or a b is = grind (arith, nat_tests)

not_below : (a b : ℕ) → nat_lt a b ≡ false → b ≤ a
not_below a b is = grind (arith, nat_tests)

-- the marks of strips in two parts
pub both_marked : (image : Image) (first count half per : ℕ) (front back : List ℕ) → half ≤ count
    → length front ≡ half * per → AreMarks image first half per front
    → AreMarks image (first + half) (count - half) per back → AreMarks image first count per (front ++ back)
both_marked image first count half per front back within room one other = record { each = λ i k below under. by i k below under (nat_lt i half) refl }
  where
    by : (i k : ℕ) → i < count → k < per → (t : Bool) → nat_lt i half ≡ t
        → IsMark (stored_bytes image.shape image.bytes (first + i))
        ((k + 1) * (64 * plane_row_length image.shape)) (slice_index (front ++ back) (i * per + k))
    by i k below under true is =
        let early : i < half = below_or i half is in
        let next : i + 1 ≤ half = omega arith in
        let scaled : (i + 1) * per ≤ half * per = mul-le-mul_right per next in
        let inside : i * per + k < length front = omega arith in
        let same : slice_index (front ++ back) (i * per + k) ≡ slice_index front (i * per + k) = get_or_append_left front back 0 (i * per + k) inside in
        rw same (one.each i k early under)
    by i k below under false is =
        let late : half ≤ i = not_below i half is in
        let j : ℕ = i - half in
        let there : half + j ≡ i = omega arith in
        let strip : first + half + j ≡ first + i = omega arith in
        let split : (half + j) * per ≡ half * per + j * per = omega arith in
        let whole : i * per ≡ half * per + j * per = ap (λ n. n * per) (sym there) ∙ split in
        let at : i * per + k ≡ length front + (j * per + k) = omega arith in
        let same : slice_index (front ++ back) (i * per + k) ≡ slice_index back (j * per + k) = ap (slice_index (front ++ back)) at ∙ get_or-append-add front back (j * per + k) 0 in
        rw (same, ← strip) (other.each j k (omega arith) under)

-- ---- from a mark to a row

-- rows behind a mark
pub behind_mark : (stored : List ℕ) (mark row above : ℕ) → mark ≢ 0
    → IsMark stored (above / 64 * (64 * row)) mark → above * row ≤ length (expansion stored)
    → (above % 64 * row ≤ length (expansion (drop mark stored)))
    × (drop (above % 64 * row) (expansion (drop mark stored)) ≡ drop (above * row) (expansion stored))
behind_mark stored mark row above some is enough =
    let q : ℕ = above / 64 in
    let r : ℕ = above % 64 in
    let from : ℕ = q * (64 * row) in
    let whole : q * 64 + r ≡ above = div-add-mod' above 64 in
    let split : (q * 64 + r) * row ≡ q * (64 * row) + r * row = omega arith in
    let both : from + r * row ≡ above * row = sym split ∙ ap (λ n. n * row) whole in
    let own : expansion (drop mark stored) ≡ drop from (expansion stored) = is.begins some in
    let long : length (expansion (drop mark stored)) ≡ length (expansion stored) - from = ap length own ∙ length-drop from (expansion stored) in
    (omega arith, ap (drop (r * row)) own ∙ drop-drop (r * row) from (expansion stored) ∙ ap (λ n. drop n (expansion stored)) both)

-- a marked row of a strip has a mark among those of its strip
pub mark_within : (shape : Shape) (i above : ℕ) → IsTrue shape.packed → above < strip_rows shape i
    → above / 64 ≢ 0 → above / 64 - 1 < marks_per_strip shape
unfolding strip_rows marks_per_strip
mark_within shape i above packed below some = by shape.packed packed
  where
    by : (packed : Bool) → IsTrue packed
        → above / 64 - 1 < (if packed then (min shape.rows_per_strip shape.length - 1) / 64 else 0)
    by true is =
        let most : ℕ = min shape.rows_per_strip shape.length - 1 in
        let own = div-add-mod' above 64 in
        let own_rest = mod_below above 64 (omega arith) in
        let all = div-add-mod' most 64 in
        let all_rest = mod_below most 64 (omega arith) in
        omega arith
    by false is = cc

-- and that mark is one of the row
pub mark_of_row : (image : Image) (per number above : ℕ) (marks : List ℕ) → MarksOf image marks
    → per ≡ marks_per_strip image.shape → number < strip_count image.shape → above / 64 - 1 < per
    → above / 64 ≢ 0
    → IsMark (stored_bytes image.shape image.bytes number) (above / 64 * (64 * plane_row_length image.shape))
    (slice_index marks (number * per + above / 64 - 1))
mark_of_row image per number above marks are per_is known under some =
    let k : ℕ = above / 64 - 1 in
    let here : 0 + number ≡ number = omega arith in
    let next : k + 1 ≡ above / 64 = omega arith in
    let at : number * per + k ≡ number * per + above / 64 - 1 = omega arith in
    let own = are.each number k known (rw (← per_is) under) in
    rw (here, ← per_is, next, at) at own

-- ---- the room of marks

-- the room behind that of the first strips
pub rest_room : (count half per n : ℕ) → half ≤ count → n + half * per ≡ count * per
    → n ≡ (count - half) * per
rest_room count half per n within both =
    let rest : ℕ = count - half in
    let all : half + rest ≡ count = omega arith in
    let split : (half + rest) * per ≡ half * per + rest * per = omega arith in
    let whole : count * per ≡ half * per + rest * per = ap (λ m. m * per) (sym all) ∙ split in
    omega arith

-- the first strips have no more room than all
pub half_room : (count half per : ℕ) → half ≤ count → half * per ≤ count * per
half_room count half per within = mul-le-mul_right per within

-- both rooms are the room of all
pub rooms_add : (count half per : ℕ) → half ≤ count → half * per + (count - half) * per ≡ count * per
rooms_add count half per within =
    let rest : ℕ = count - half in
    let all : half + rest ≡ count = omega arith in
    let split : half * per + rest * per ≡ (half + rest) * per = omega arith in
    split ∙ ap (λ m. m * per) all
