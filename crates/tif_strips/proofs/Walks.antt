-- The tests of some strips, in order and cut in two.
use Rattle.std.proofs.Common.{◌≡◌, ℕ, zero, suc, ◌+◌, ◌-◌, ◌<◌, ◌≤◌, List, map, Option, Some, None, refl, sym, ap, ◌∙◌, arith, below_more, zero-add}
use Rattle.std.specs.List.{range_with_len}
use Rattle.std.specs.Option.{option_or}
use Rattle.pr_base.specs.declared.fault.TagFault.{TagFault}
use Rattle.tif_strips.specs.declared.shape.Shape.{Shape}
use Rattle.tif_strips.specs.Strips.{Image, fault_of_strip, first_fault, strip_count, strip_fault}
use Rattle.tif_strips.specs.Table.{field_fault}
use Rattle.tif_strips.specs.Walk.{fault_among}
use Rattle.tif_strips.proofs.Faults.{first_fault-all, first_fault-at, strip_fault-strips}

-- where each strip passes, there is no fault among them
pub among-none : (image : Image) (first count : ℕ)
    → ((k : ℕ) → first ≤ k → k < first + count → fault_of_strip image.shape image.bytes k ≡ None)
    → fault_among image first count ≡ None
unfolding fault_among
among-none image first count each = first_fault-all (fault_of_strip image.shape image.bytes) first count (λ i below. each (first + i) (omega arith) (omega arith))

-- the first strip that fails gives the fault
pub among-found : (image : Image) (first count strip : ℕ) (fault : TagFault) → first ≤ strip
    → strip < first + count
    → ((k : ℕ) → first ≤ k → k < strip → fault_of_strip image.shape image.bytes k ≡ None)
    → fault_of_strip image.shape image.bytes strip ≡ Some fault → fault_among image first count ≡ Some fault
unfolding fault_among
among-found image first count strip fault from below before fails =
    let i : ℕ = strip - first in
    let there : first + i ≡ strip = omega arith in
    first_fault-at (fault_of_strip image.shape image.bytes) first count i fault (omega arith)
    (λ k under. before (first + k) (omega arith) (omega arith))
    (ap (fault_of_strip image.shape image.bytes) there ∙ fails)

-- a first fault is found in the front, or else behind it
first_fault-or : (test : ℕ → Option TagFault) (start n m : ℕ)
    → first_fault (map test (range_with_len start (n + m)))
    ≡ option_or (first_fault (map test (range_with_len start n)))
    (first_fault (map test (range_with_len (start + n) m)))
first_fault-or test start zero m =
    let here : start + 0 ≡ start = omega arith in
    rw (here, zero-add m) refl
first_fault-or test start (suc n) m =
    let there : start + 1 + n ≡ start + suc n = omega arith in
    let more : suc n + m ≡ suc (n + m) = omega arith in
    rw more (step (test start) _ _ _ (rw there at (first_fault-or test (start + 1) n m)))
  where
    step : (one all front back : Option TagFault) → all ≡ option_or front back
        → option_or one all ≡ option_or (option_or one front) back
    step None all front back same = same
    step (Some fault) all front back same = refl

pub among-or : (image : Image) (first n m : ℕ)
    → fault_among image first (n + m)
    ≡ option_or (fault_among image first n) (fault_among image (first + n) m)
unfolding fault_among
among-or image first n m = first_fault-or (fault_of_strip image.shape image.bytes) first n m

-- where both fields pass, the strips decide
pub among-all : (shape : Shape) (bytes : List ℕ) → field_fault shape bytes ≡ None
    → strip_fault shape bytes ≡ fault_among (record { shape = shape; bytes = bytes }) 0 (strip_count shape)
unfolding fault_among
among-all shape bytes none = strip_fault-strips shape bytes none

-- strips that pass, and one more
pub passes_behind : (image : Image) (first i : ℕ)
    → ((k : ℕ) → first ≤ k → k < i → fault_of_strip image.shape image.bytes k ≡ None)
    → fault_of_strip image.shape image.bytes i ≡ None
    → (k : ℕ) → first ≤ k → k < i + 1 → fault_of_strip image.shape image.bytes k ≡ None
passes_behind image first i each here k from below =
    below_more (λ n. first ≤ n → fault_of_strip image.shape image.bytes n ≡ None) i (λ n under above. each n above under) (λ above. here) k below from

-- what was found in the tests of all strips is the fault of the image
pub all_tested : (shape : Shape) (bytes : List ℕ) (image : Image) (count : ℕ) (found : Option TagFault)
    → field_fault shape bytes ≡ None → image ≡ record { shape = shape; bytes = bytes }
    → count ≡ strip_count shape → found ≡ fault_among image 0 count → found ≡ strip_fault shape bytes
all_tested shape bytes image count found none image_is count_is found_is =
    found_is ∙ ap (λ n. fault_among image 0 n) count_is ∙ ap (λ i. fault_among i 0 (strip_count shape)) image_is ∙ sym (among-all shape bytes none)

-- what was found in both parts
pub both_tested : (image : Image) (first count half : ℕ) (one other found : Option TagFault) → half ≤ count
    → one ≡ fault_among image first half → other ≡ fault_among image (first + half) (count - half)
    → found ≡ option_or one other → found ≡ fault_among image first count
both_tested image first count half one other found within one_is other_is found_is =
    let all : half + (count - half) ≡ count = omega arith in
    found_is ∙ ap (λ o. option_or o other) one_is ∙ ap (option_or (fault_among image first half)) other_is
    ∙ sym (among-or image first half (count - half)) ∙ ap (fault_among image first) all

-- no strips have no fault
pub among-nothing : (image : Image) (first : ℕ) → fault_among image first 0 ≡ None
unfolding fault_among
among-nothing image first = refl

-- the fault of one strip
pub among-one : (image : Image) (i : ℕ) → fault_among image i 1 ≡ fault_of_strip image.shape image.bytes i
unfolding fault_among
among-one image i = alone (fault_of_strip image.shape image.bytes i)
  where
    alone : (o : Option TagFault) → option_or o None ≡ o
    alone None = refl
    alone (Some fault) = refl

-- where nothing was found in either part, nothing was found
pub both_none : (one other : Option TagFault) → option_or one other ≡ None → (one ≡ None) × (other ≡ None)
both_none None other none = (refl, none)
both_none (Some fault) other none = absurd (cc)
