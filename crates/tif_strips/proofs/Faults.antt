-- The tests of the fields and of the strips, in order.
use Rattle.std.proofs.Common.{◌≡◌, ℕ, zero, suc, ◌+◌, ◌<◌, ◌≤◌, Bool, true, false, nat_lt, if◌then◌else◌, List, [], ◌∷◌, length, map, Option, Some, None, refl, sym, ap, ◌∙◌, arith, zero-add}
use Rattle.std.specs.List.{range_with_len}
use Rattle.std.proofs.lemmas.Bool.Decides.{nat_tests}
use Rattle.pr_base.specs.declared.fault.FaultKind.TheVariants.{StripPlace, Short}
use Rattle.pr_base.specs.declared.fault.TagFault.{TagFault}
use Rattle.tif_dir.specs.Directory.{fault_at}
use Rattle.tif_dir.specs.Names.{strip_byte_counts, strip_offsets}
use Rattle.tif_strips.specs.declared.shape.Shape.{Shape}
use Rattle.tif_strips.specs.declared.strip.Strip.{Strip}
use Rattle.tif_strips.specs.Strips.{fault_of_field, fault_of_strip, first_fault, needed_length, samples_in, stored_bytes, strip_count, strip_fault, strip_offset, strip_size}
use Rattle.tif_strips.specs.Strip.{bytes_at, fault_in, fault_of, strip_of}
use Rattle.tif_strips.specs.Table.{field_fault}

-- ---- lists of tests

-- if no test in a list fails, neither the first nor any other fails
pub first_fault-none : (test : Option TagFault) (tests : List (Option TagFault))
    → first_fault (test ∷ tests) ≡ None → (test ≡ None) × (first_fault tests ≡ None)
first_fault-none None tests none = (refl, none)
first_fault-none (Some fault) tests none = absurd (cc)

-- if the first test passes, the others decide
pub first_fault-passed : (test : Option TagFault) (tests : List (Option TagFault)) → test ≡ None
    → first_fault (test ∷ tests) ≡ first_fault tests
first_fault-passed None tests none = refl
first_fault-passed (Some fault) tests none = absurd (cc)

-- if no test fails, test i passes
pub first_fault-each : (test : ℕ → Option TagFault) (start n i : ℕ)
    → first_fault (map test (range_with_len start n)) ≡ None → i < n → test (start + i) ≡ None
first_fault-each test start zero i none below = absurd (omega arith)
first_fault-each test start (suc n) zero none below =
    let here : start + 0 ≡ start = omega arith in
    rw here (first_fault-none (test start) (map test (range_with_len (start + 1) n)) none).0
first_fault-each test start (suc n) (suc i) none below =
    let there : start + suc i ≡ start + 1 + i = omega arith in
    rw there (first_fault-each test (start + 1) n i (first_fault-none (test start) (map test (range_with_len (start + 1) n)) none).1 (omega arith))

-- if each test passes, none fails
pub first_fault-all : (test : ℕ → Option TagFault) (start n : ℕ) → ((i : ℕ) → i < n → test (start + i) ≡ None)
    → first_fault (map test (range_with_len start n)) ≡ None
first_fault-all test start zero each = refl
first_fault-all test start (suc n) each =
    let here : start + 0 ≡ start = omega arith in
    let rest = first_fault-all test (start + 1) n
    (λ i below. let there : start + suc i ≡ start + 1 + i = omega arith in rw there at (each (suc i) (omega arith))) in
    first_fault-passed (test start) (map test (range_with_len (start + 1) n)) (rw here at (each 0 (omega arith))) ∙ rest

-- the first failing test gives the fault
pub first_fault-at : (test : ℕ → Option TagFault) (start n i : ℕ) (fault : TagFault) → i < n
    → ((k : ℕ) → k < i → test (start + k) ≡ None) → test (start + i) ≡ Some fault
    → first_fault (map test (range_with_len start n)) ≡ Some fault
first_fault-at test start zero i fault below before fails = absurd (omega arith)
first_fault-at test start (suc n) zero fault below before fails =
    let here : start + 0 ≡ start = omega arith in
    ap (λ first. first_fault (first ∷ map test (range_with_len (start + 1) n))) (rw here at fails)
first_fault-at test start (suc n) (suc i) fault below before fails =
    let here : start + 0 ≡ start = omega arith in
    let there : start + suc i ≡ start + 1 + i = omega arith in
    let rest = first_fault-at test (start + 1) n i fault (omega arith)
    (λ k under. let next : start + suc k ≡ start + 1 + k = omega arith in rw next at (before (suc k) (omega arith)))
    (rw there at fails) in
    first_fault-passed (test start) (map test (range_with_len (start + 1) n)) (rw here at (before 0 (omega arith))) ∙ rest

-- ---- the tests of the two fields

-- if one of the first two tests fails, the tests after them do not matter
first_fault-two : (one two : Option TagFault) (tests : List (Option TagFault)) (fault : TagFault)
    → first_fault (one ∷ two ∷ []) ≡ Some fault → first_fault (one ∷ two ∷ tests) ≡ Some fault
first_fault-two None None tests fault fails = absurd (cc)
first_fault-two None (Some two) tests fault fails = fails
first_fault-two (Some one) two tests fault fails = fails

-- if both pass, the tests after them decide
first_fault-behind : (one two : Option TagFault) (tests : List (Option TagFault))
    → first_fault (one ∷ two ∷ []) ≡ None → first_fault (one ∷ two ∷ tests) ≡ first_fault tests
first_fault-behind None None tests none = refl
first_fault-behind None (Some two) tests none = absurd (cc)
first_fault-behind (Some one) two tests none = absurd (cc)

-- if no test fails, the first two pass
first_fault-both : (one two : Option TagFault) (tests : List (Option TagFault))
    → first_fault (one ∷ two ∷ tests) ≡ None → (one ≡ None) × (first_fault (one ∷ two ∷ []) ≡ None)
first_fault-both None None tests none = (refl, refl)
first_fault-both None (Some two) tests none = absurd (cc)
first_fault-both (Some one) two tests none = absurd (cc)

-- if the tests of the fields fail, their first fault is the image's
pub strip_fault-fields : (shape : Shape) (bytes : List ℕ) (fault : TagFault)
    → field_fault shape bytes ≡ Some fault → strip_fault shape bytes ≡ Some fault
unfolding strip_fault
strip_fault-fields shape bytes fault fails = first_fault-two (fault_of_field shape bytes strip_offsets) (fault_of_field shape bytes strip_byte_counts) (map (fault_of_strip shape bytes) (range_with_len 0 (strip_count shape))) fault fails

-- if the tests of the fields pass, the strips decide
pub strip_fault-strips : (shape : Shape) (bytes : List ℕ) → field_fault shape bytes ≡ None
    → strip_fault shape bytes
    ≡ first_fault (map (fault_of_strip shape bytes) (range_with_len 0 (strip_count shape)))
unfolding strip_fault
strip_fault-strips shape bytes none =
    first_fault-behind (fault_of_field shape bytes strip_offsets) (fault_of_field shape bytes strip_byte_counts) (map (fault_of_strip shape bytes) (range_with_len 0 (strip_count shape))) none

-- an image that passes has both fields
pub field_fault-passed : (shape : Shape) (bytes : List ℕ) → strip_fault shape bytes ≡ None
    → (fault_of_field shape bytes strip_offsets ≡ None) × (field_fault shape bytes ≡ None)
unfolding strip_fault
field_fault-passed shape bytes none =
    first_fault-both (fault_of_field shape bytes strip_offsets) (fault_of_field shape bytes strip_byte_counts) (map (fault_of_strip shape bytes) (range_with_len 0 (strip_count shape))) none

-- each strip of an image that passes also passes
pub fault_of_strip-passed : (shape : Shape) (bytes : List ℕ) (strip : ℕ) → strip_fault shape bytes ≡ None
    → strip < strip_count shape → fault_of_strip shape bytes strip ≡ None
fault_of_strip-passed shape bytes strip none below =
    let strips = sym (strip_fault-strips shape bytes (field_fault-passed shape bytes none).1) ∙ none in
    let zeroth : 0 + strip ≡ strip = omega arith in
    rw zeroth at (first_fault-each (fault_of_strip shape bytes) 0 (strip_count shape) strip strips below)

-- the first failing strip gives the fault
pub strip_fault-found : (shape : Shape) (bytes : List ℕ) (strip : ℕ) (fault : TagFault)
    → field_fault shape bytes ≡ None → strip < strip_count shape
    → ((k : ℕ) → k < strip → fault_of_strip shape bytes k ≡ None)
    → fault_of_strip shape bytes strip ≡ Some fault → strip_fault shape bytes ≡ Some fault
strip_fault-found shape bytes strip fault fields below before fails =
    strip_fault-strips shape bytes fields
    ∙ first_fault-at (fault_of_strip shape bytes) 0 (strip_count shape) strip fault below
    (λ k under. ap (fault_of_strip shape bytes) (zero-add k) ∙ before k under)
    (ap (fault_of_strip shape bytes) (zero-add strip) ∙ fails)

-- if no strip fails, the image passes
pub strip_fault-none : (shape : Shape) (bytes : List ℕ) → field_fault shape bytes ≡ None
    → ((k : ℕ) → k < strip_count shape → fault_of_strip shape bytes k ≡ None) → strip_fault shape bytes ≡ None
strip_fault-none shape bytes fields each =
    strip_fault-strips shape bytes fields
    ∙ first_fault-all (fault_of_strip shape bytes) 0 (strip_count shape) (λ k below. ap (fault_of_strip shape bytes) (zero-add k) ∙ each k below)

-- ---- the test of a strip

-- the fault of strip i, by the strip's offset, size and needed bytes
pub fault_of_strip-is : (shape : Shape) (bytes : List ℕ) (i : ℕ)
    → fault_of_strip shape bytes i ≡ fault_of shape.packed bytes (strip_of shape bytes i)
unfolding fault_of_strip stored_bytes
fault_of_strip-is shape bytes i = cases (nat_lt (length bytes) (strip_offset shape bytes i + strip_size shape bytes i)) _ _ _
  where
    cases : (beyond packed : Bool) (stored : List ℕ) (needed : ℕ)
        → (if beyond then Some (fault_at strip_offsets StripPlace) else if nat_lt
        (length (samples_in packed stored)) needed then Some
        (fault_at strip_offsets Short) else None) ≡ fault_in packed needed (if beyond then None else Some stored)
    cases true packed stored needed = refl
    cases false packed stored needed = refl

-- the bytes of a strip that passes are within the file
pub bytes_at-passed : (shape : Shape) (bytes : List ℕ) (i : ℕ) → fault_of_strip shape bytes i ≡ None
    → bytes_at bytes (strip_of shape bytes i) ≡ Some (stored_bytes shape bytes i)
unfolding fault_of_strip stored_bytes
bytes_at-passed shape bytes i none = inside (nat_lt (length bytes) (strip_offset shape bytes i + strip_size shape bytes i)) _ _ none
  where
    inside : (beyond : Bool) (own : List ℕ) (rest : Option TagFault)
        → (if beyond then Some (fault_at strip_offsets StripPlace) else rest) ≡ None
        → (if beyond then None else Some own) ≡ Some own
    inside true own rest none = absurd (cc)
    inside false own rest none = refl

-- the same for a strip whose bytes are known
pub bytes_at-known : (shape : Shape) (bytes own : List ℕ) (i : ℕ) (strip : Strip)
    → strip_fault shape bytes ≡ None → i < strip_count shape → own ≡ bytes → strip ≡ strip_of shape bytes i
    → bytes_at own strip ≡ Some (stored_bytes shape bytes i)
bytes_at-known shape bytes own i strip passed below own_is strip_is =
    ap (λ list. bytes_at list strip) own_is ∙ ap (bytes_at bytes) strip_is ∙ bytes_at-passed shape bytes i (fault_of_strip-passed shape bytes i passed below)

-- a strip that passes has enough samples
pub strip_enough-passed : (shape : Shape) (bytes : List ℕ) (strip : ℕ)
    → fault_of_strip shape bytes strip ≡ None
    → needed_length shape strip ≤ length (samples_in shape.packed (stored_bytes shape bytes strip))
unfolding fault_of_strip
strip_enough-passed shape bytes strip none = grind (arith, nat_tests)
