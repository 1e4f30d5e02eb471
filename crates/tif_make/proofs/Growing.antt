-- Lists and strips that grow step by step.
use Rattle.std.proofs.Common.{◌≡◌, ℕ, ◌+◌, ◌-◌, ◌*◌, List, [], ◌∷◌, ◌++◌, length, map, slice_index, refl, sym, ap, subst, ◌∙◌, arith, append_assoc}
use Rattle.std.specs.List.{flat_map, range_with_len}
use Rattle.std.proofs.lemmas.List.{append-nil, length-append, map-append}
use Rattle.std.proofs.lemmas.List.Concat.{flat_map-append}
use Rattle.std.proofs.lemmas.List.FromFn.{map-range_with_len_more}
use Rattle.tif_make.specs.declared.strips.Strips.{Strips}
use Rattle.tif_make.specs.Made.{Grows, HasStrips}
use Rattle.tif_make.specs.Strips.{begins, joined, sizes}
use Rattle.tif_make.proofs.Pieces.{begins-append, joined-append, range-append}

-- ---- the samples of one ink

-- the samples of the first count pixels
pub record Gathers (ink : ℕ) (row : List ℕ) (count : ℕ) (samples : List ℕ) : Type 0 where
  pub are : samples ≡ map (λ x. slice_index row (4 * x + ink)) (range_with_len 0 count)
  pub count_is : length samples ≡ count

pub gathers-none : (ink : ℕ) (row samples : List ℕ) → samples ≡ [] → Gathers ink row 0 samples
gathers-none ink row samples e = record { are = e; count_is = ap length e }

pub gathers-more : (ink : ℕ) (row : List ℕ) (x : ℕ) (old new : List ℕ) → Gathers ink row x old
    → new ≡ old ++ slice_index row (4 * x + ink) ∷ [] → Gathers ink row (x + 1) new
gathers-more ink row x old new before e = record {
  are =
      e ∙ ap (λ xs. xs ++ slice_index row (4 * x + ink) ∷ []) before.are
      ∙ sym (map-range_with_len_more (λ k. slice_index row (4 * k + ink)) 0 x x (omega arith));
  count_is = omega (arith, ap length e, length-append old (slice_index row (4 * x + ink) ∷ []), before.count_is);
}

-- ---- rows

-- one more row
pub rows-more : (f : ℕ → List ℕ) (from k : ℕ) (old new next : List ℕ) → new ≡ old ++ flat_map f (range_with_len from k)
    → next ≡ new ++ f (from + k) → next ≡ old ++ flat_map f (range_with_len from (k + 1))
rows-more f from k old new next is is_next =
    is_next ∙ ap (λ xs. xs ++ f (from + k)) is ∙ append_assoc old _ _
    ∙ ap (λ xs. old ++ (flat_map f (range_with_len from k) ++ xs)) (sym (append-nil (f (from + k))))
    ∙ ap (λ xs. old ++ xs) (sym (flat_map-append f (range_with_len from k) ((from + k) ∷ [])))
    ∙ ap (λ xs. old ++ flat_map f xs) (sym (range-append from k 1 (from + k) refl))

-- ---- strips

pub grows-none : (first : ℕ) (made : Strips) → Grows first [] made made
unfolding begins
grows-none first made = record {
  bytes_are = sym (append-nil made.bytes.items);
  places_are = sym (append-nil made.places.items);
  counts_are = sym (append-nil made.counts.items);
}

pub grows-then : (first : ℕ) (xs ys : List (List ℕ)) (old new next : Strips) → Grows first xs old new → Grows first ys new next
    → Grows first (xs ++ ys) old next
grows-then first xs ys old new next one two = record {
  bytes_are =
      two.bytes_are ∙ ap (λ zs. zs ++ joined ys) one.bytes_are ∙ append_assoc old.bytes.items _ _
      ∙ ap (λ zs. old.bytes.items ++ zs) (sym (joined-append xs ys));
  places_are =
      let place : first + length new.bytes.items ≡ first + length old.bytes.items + length (joined xs) =
      omega (arith, ap length one.bytes_are, length-append old.bytes.items (joined xs)) in
      two.places_are ∙ ap (λ n. new.places.items ++ begins n ys) place
      ∙ ap (λ zs. zs ++ begins (first + length old.bytes.items + length (joined xs)) ys) one.places_are ∙ append_assoc old.places.items _ _
      ∙ ap (λ zs. old.places.items ++ zs) (sym (begins-append (first + length old.bytes.items) xs ys));
  counts_are =
      two.counts_are ∙ ap (λ zs. zs ++ sizes ys) one.counts_are ∙ append_assoc old.counts.items _ _
      ∙ ap (λ zs. old.counts.items ++ zs) (sym (map-append length xs ys));
}

-- one more strip of a plane
pub grows-strip : (first : ℕ) (f : ℕ → List ℕ) (i : ℕ) (old new next : Strips) → Grows first (map f (range_with_len 0 i)) old new
    → Grows first (f i ∷ []) new next → Grows first (map f (range_with_len 0 (i + 1))) old next
grows-strip first f i old new next one two =
    rw (map-range_with_len_more f 0 i i (omega arith)) (grows-then first (map f (range_with_len 0 i)) (f i ∷ []) old new next one two)

-- one more strip, from its parts
pub grows-one : (first : ℕ) (piece : List ℕ) (old new : Strips) (place size : ℕ) → new.bytes.items ≡ old.bytes.items ++ piece
    → place ≡ length old.bytes.items → new.places.items ≡ old.places.items ++ (first + place) ∷ []
    → size ≡ length new.bytes.items → new.counts.items ≡ old.counts.items ++ (size - place) ∷ []
    → Grows first (piece ∷ []) old new
unfolding begins
grows-one first piece old new place size bytes is_place places is_size counts =
    let whole : size - place ≡ length piece = omega (arith, ap length bytes, length-append old.bytes.items piece) in
    record {
      bytes_are = bytes ∙ ap (λ xs. old.bytes.items ++ xs) (sym (append-nil piece));
      places_are = places ∙ ap (λ n. old.places.items ++ (first + n) ∷ []) is_place;
      counts_are = counts ∙ ap (λ n. old.counts.items ++ n ∷ []) whole;
    }

-- all strips of one more plane
pub strips-plane : (first : ℕ) (f : ℕ → List (List ℕ)) (plane : ℕ) (made next : Strips) → HasStrips first (flat_map f (range_with_len 0 plane)) made
    → Grows first (f plane) made next → HasStrips first (flat_map f (range_with_len 0 (plane + 1))) next
strips-plane first f plane made next before one =
    let xs = flat_map f (range_with_len 0 plane) in
    let more : flat_map f (range_with_len 0 (plane + 1)) ≡ xs ++ f plane =
    ap (flat_map f) (range-append 0 plane 1 plane (omega arith)) ∙ flat_map-append f (range_with_len 0 plane) (plane ∷ [])
    ∙ ap (λ ys. xs ++ ys) (append-nil (f plane)) in
    rw more (record {
      bytes_are = one.bytes_are ∙ ap (λ zs. zs ++ joined (f plane)) before.bytes_are ∙ sym (joined-append xs (f plane));
      places_are =
          one.places_are ∙ ap (λ zs. zs ++ begins (first + length made.bytes.items) (f plane)) before.places_are
          ∙ ap (λ bytes. begins first xs ++ begins (first + length bytes) (f plane)) before.bytes_are
          ∙ sym (begins-append first xs (f plane));
      counts_are = one.counts_are ∙ ap (λ zs. zs ++ sizes (f plane)) before.counts_are ∙ sym (map-append length xs (f plane));
    })

-- before the first plane
pub strips-none : (first : ℕ) (made : Strips) → made.bytes.items ≡ [] → made.places.items ≡ [] → made.counts.items ≡ []
    → HasStrips first [] made
unfolding begins
strips-none first made bytes places counts = record { bytes_are = bytes; places_are = places; counts_are = counts }

-- after all planes
pub strips-end : (first : ℕ) (f : ℕ → List (List ℕ)) (count all : ℕ) (made : Strips) → count ≡ all
    → HasStrips first (flat_map f (range_with_len 0 count)) made → HasStrips first (flat_map f (range_with_len 0 all)) made
strips-end first f count all made e has = subst (λ n. HasStrips first (flat_map f (range_with_len 0 n)) made) e has

-- after all strips of a plane
pub grows-end : (first : ℕ) (f : ℕ → List ℕ) (count all : ℕ) (old new : Strips) → count ≡ all
    → Grows first (map f (range_with_len 0 count)) old new → Grows first (map f (range_with_len 0 all)) old new
grows-end first f count all old new e has = subst (λ n. Grows first (map f (range_with_len 0 n)) old new) e has

-- the number of bytes after the new strips
pub grown-length : (first : ℕ) (pieces : List (List ℕ)) (old new : Strips) → Grows first pieces old new
    → length new.bytes.items ≡ length old.bytes.items + length (joined pieces)
grown-length first pieces old new grown = ap length grown.bytes_are ∙ length-append old.bytes.items (joined pieces)
