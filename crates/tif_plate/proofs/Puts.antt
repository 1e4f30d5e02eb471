-- Bytes written one after the other.
use Rattle.std.proofs.Common.{◌≡◌, ℕ, ◌+◌, ◌-◌, ◌*◌, ◌<◌, ◌≤◌, List, [], ◌∷◌, ◌++◌, length, take, drop, map, get_or, refl, sym, ap, ◌∙◌, zero-add, arith}
use Rattle.std.specs.List.{flat_map, range_with_len}
use Rattle.std.proofs.lemmas.List.{append-nil, append_assoc, length-append, length-drop, length-take-le, drop-drop, drop_all, drop_at, take_at, take_rest, take-append-drop}
use Rattle.std.proofs.lemmas.List.FromFn.{length-map-range_with_len, map-range_with_len_more}
use Rattle.std.proofs.lemmas.Grind.{flat_map-append, take_at_read}
use borrow.Rule.Slice.PartMut.{put_mid}
use Rattle.byteorder.specs.Endian.{little_bytes}
use Rattle.tif_plate.specs.Put.{Puts}

-- nothing is written
pub Puts-nothing : (at : ℕ) (old : List ℕ) → at ≤ length old → Puts at [] old old
Puts-nothing at old within = record {
  room = omega arith;
  is = let there : at + 0 ≡ at = omega arith in
      rw (append-nil, there) (sym (take-append-drop at old));
}

-- bytes written to the start of the slice that begins at an offset
pub Puts-part : (at n : ℕ) (old bytes part : List ℕ) → n ≡ length bytes → at + n ≤ length old
    → part ≡ bytes ++ drop n (take (length old - at) (drop at old))
    → Puts at bytes old (put_mid at (length old - at) old part)
Puts-part at n old bytes part len room is =
    let none : drop (length old - at) (drop at old) ≡ [] = drop_all (length old - at) (drop at old) (omega (arith, length-drop at old)) in
    let behind : drop n (take (length old - at) (drop at old)) ≡ drop (at + length bytes) old =
    ap (drop n) (take_rest old at) ∙ (drop-drop n at old ∙ ap (λ m. drop (at + m) old) len) in
    record {
      room = omega arith;
      is = rw (none, append-nil, is, behind) (sym (append_assoc (take at old) bytes (drop (at + length bytes) old)));
    }

-- the prefix up to the end of the written bytes has the expected length
Puts-front : (at : ℕ) (bytes old new : List ℕ) → Puts at bytes old new → length (take at old ++ bytes) ≡ at + length bytes
Puts-front at bytes old new puts =
    length-append (take at old) bytes ∙ omega (arith, puts.room, length-take-le at old (omega (arith, puts.room)))

-- one write directly after another
pub Puts-then : (at place : ℕ) (first second old mid new : List ℕ) → Puts at first old mid → Puts place second mid new → place ≡ at + length first
    → Puts at (first ++ second) old new
Puts-then at place first second old mid new puts next is =
    let front : length (take at old ++ first) ≡ at + length first = Puts-front at first old mid puts in
    let kept : take place mid ≡ take at old ++ first =
    ap (take place) puts.is ∙ take_at (take at old ++ first) (drop (at + length first) old) place (front ∙ sym is) in
    let rest : drop (place + length second) mid ≡ drop (at + length (first ++ second)) old =
    sym (drop-drop (length second) place mid)
    ∙ ap (drop (length second)) (ap (drop place) puts.is ∙ drop_at (take at old ++ first) (drop (at + length first) old) place (front ∙ sym is))
    ∙ drop-drop (length second) (at + length first) old
    ∙ ap (λ n. drop n old) (omega (arith, length-append first second)) in
    let same : length mid ≡ length old =
    ap length puts.is ∙ length-append (take at old ++ first) (drop (at + length first) old) ∙ omega (arith, front, puts.room, length-drop (at + length first) old) in
    record {
      room = omega (arith, next.room, length-append first second);
      is = next.is ∙ (rw (kept, rest) refl) ∙ ap (λ front. front ++ drop (at + length (first ++ second)) old) (append_assoc (take at old) first second);
    }

-- one more item after those before it
pub Puts-item : {X : Type 0} (f : X → List ℕ) (at place : ℕ) (items : List X) (item : X) (old mid new : List ℕ) → Puts at (flat_map f items) old mid → Puts place (f item) mid new
    → place ≡ at + length (flat_map f items) → Puts at (flat_map f (items ++ item ∷ [])) old new
Puts-item f at place items item old mid new puts next is =
    rw (flat_map-append f items (item ∷ []), append-nil) (Puts-then at place (flat_map f items) (f item) old mid new puts next is)

-- pieces of equal length
pub length-pieces : {X : Type 0} (f : X → List ℕ) (k : ℕ) (items : List X) → ((x : X) → length (f x) ≡ k) → length (flat_map f items) ≡ k * length items
length-pieces f k [] each = omega arith
length-pieces f k (x ∷ items) each =
    length-append (f x) (flat_map f items) ∙ omega (arith, each x, length-pieces f k items each)

-- item i after those before it, where each takes k bytes
pub Puts-step : {X : Type 0} (f : X → List ℕ) (k at place i : ℕ) (items : List X) (item : X) (old mid new : List ℕ) → ((x : X) → length (f x) ≡ k) → i < length items
    → Puts at (flat_map f (take i items)) old mid → Puts place (f (get_or items i item)) mid new
    → place ≡ at + k * i → Puts at (flat_map f (take (i + 1) items)) old new
Puts-step f k at place i items item old mid new each below puts next is =
    let more : take (i + 1) items ≡ take i items ++ get_or items i item ∷ [] = (take_at_read items i item below).1 in
    let len : length (take i items) ≡ i = length-take-le i items (omega arith) in
    rw more (Puts-item f at place (take i items) (get_or items i item) old mid new puts next (is ∙ ap (λ n. at + n) (sym (length-pieces f k (take i items) each ∙ ap (λ n. k * n) len))))

-- number i after those before it
pub Puts-number : (f : ℕ → ℕ) (at place i : ℕ) (old mid new : List ℕ)
    → Puts at (flat_map (little_bytes 4) (map f (range_with_len 0 i))) old mid → Puts place (little_bytes 4 (f i)) mid new
    → place ≡ at + 4 * i → Puts at (flat_map (little_bytes 4) (map f (range_with_len 0 (i + 1)))) old new
Puts-number f at place i old mid new puts next is =
    let more : map f (range_with_len 0 (i + 1)) ≡ map f (range_with_len 0 i) ++ f i ∷ [] = map-range_with_len_more f 0 i i (omega arith) in
    rw more (Puts-item (little_bytes 4) at place (map f (range_with_len 0 i)) (f i) old mid new puts next
    (omega (arith, is, length-map-range_with_len f 0 i, length-pieces (little_bytes 4) 4 (map f (range_with_len 0 i)) (λ n. refl))))

-- bytes written at offset 0: the bytes, then the unchanged rest
pub Puts-first : (bytes old new : List ℕ) → Puts 0 bytes old new → new ≡ bytes ++ drop (length bytes) old
Puts-first bytes old new puts = puts.is ∙ ap (λ n. bytes ++ drop n old) (zero-add (length bytes))
