-- Packing, packet by packet, and its two laws.
use Rattle.std.proofs.Common.{◌≡◌, ℕ, zero, suc, ◌+◌, ◌-◌, ◌<◌, ◌≤◌, ◌⊎◌, ⊎_elim, inl, inr, true, false, eqb, leb, List, [], ◌∷◌, ◌++◌, length, take, drop, replicate, refl, sym, ap, ◌∙◌, arith, add-one, length-drop}
use Rattle.std.specs.List.{prefix_len}
use Rattle.std.proofs.lemmas.Bool.{le-leb, lt-leb, eq-eqb, eqb-true, and_parts, cond-true, cond-false, cases_lt, cases_Bool, false_from_ne_true}
use Rattle.std.proofs.lemmas.Bool.Decides.{nat_tests}
use Rattle.std.proofs.lemmas.List.{append-nil, append_assoc, length-append, length-take-le, take-append-drop}
use Rattle.std.proofs.lemmas.List.Sums.{prefix_len-le-length}
use Rattle.tif_packbits.proofs.Expansion.{packets_cons, expansion-nil, expansion-repeat, expansion-literal_of}
use Rattle.tif_packbits.specs.Packbits.{run_len, begins_run, mixed_len, literal_len, first_len, first_packet, packets_packing, packing, packed_bound, expansion, ExpandsToItsRow, StaysWithinBound}

-- a prefix of bytes equal to byte is that byte repeated
take-prefix : (byte n : ℕ) (row : List ℕ) → n ≤ prefix_len (λ x. eqb x byte) row → take n row ≡ replicate n byte
take-prefix byte zero row within = refl
take-prefix byte (suc n) [] within = absurd (omega arith)
take-prefix byte (suc n) (x ∷ row) within =
    ⊎_elim
    (λ (same : eqb x byte ≡ true).
    let counted : _ = cond-true (eqb x byte) (1 + prefix_len (λ x. eqb x byte) row) 0 same in
    let rest : take n row ≡ replicate n byte = take-prefix byte n row (omega arith) in
    let first : x ≡ byte = eqb-true x byte same in
    cc)
    (λ (other : eqb x byte ≡ false).
    let counted : _ = cond-false (eqb x byte) (1 + prefix_len (λ x. eqb x byte) row) 0 other in
    absurd (omega arith))
    (cases_Bool (eqb x byte))

-- a run is its first byte repeated
pub take-run_len : (byte : ℕ) (row : List ℕ) → take (run_len (byte ∷ row)) (byte ∷ row) ≡ replicate (run_len (byte ∷ row)) byte
take-run_len byte row = take-prefix byte (run_len (byte ∷ row)) (byte ∷ row) (omega arith)

pub run_len-le-length : (row : List ℕ) → run_len row ≤ length row
run_len-le-length [] = omega arith
run_len-le-length (byte ∷ row) = omega (arith, prefix_len-le-length (λ x. eqb x byte) (byte ∷ row))

-- three equal bytes at the start make a run of at least three
pub run_len-begins : (row : List ℕ) → begins_run row ≡ true → 3 ≤ run_len row
run_len-begins [] h = cc
run_len-begins (a ∷ []) h = cc
run_len-begins (a ∷ b ∷ []) h = cc
run_len-begins (a ∷ b ∷ c ∷ row) h =
    let parts : (eqb a b ≡ true) × (eqb b c ≡ true) = and_parts (eqb a b) (eqb b c) h in
    let first : a ≡ b = eqb-true a b parts.0 in
    let second : b ≡ c = eqb-true b c parts.1 in
    let one : eqb a a ≡ true = eq-eqb a a refl in
    let two : eqb b a ≡ true = eq-eqb b a (sym first) in
    let three : eqb c a ≡ true = eq-eqb c a (sym (first ∙ second)) in
    simp (one, two, three) (omega arith)

pub mixed_len-le-length : (row : List ℕ) → mixed_len row ≤ length row
mixed_len-le-length [] = omega arith
mixed_len-le-length (byte ∷ row) = let less : _ = mixed_len-le-length row in grind (arith, nat_tests)

-- the literal ends where three equal bytes begin, or at the end of the row
pub begins_run-mixed_len : (row : List ℕ) → mixed_len row < length row → begins_run (drop (mixed_len row) row) ≡ true
begins_run-mixed_len [] h = absurd (omega arith)
begins_run-mixed_len (byte ∷ row) h =
    ⊎_elim
    (λ (here : begins_run (byte ∷ row) ≡ true). rw here here)
    (λ (later : begins_run (byte ∷ row) ≡ false).
    let counted : _ = cond-false (begins_run (byte ∷ row)) 0 (mixed_len row + 1) later in
    rw (later, add-one) (begins_run-mixed_len row (omega arith)))
    (cases_Bool (begins_run (byte ∷ row)))

-- a row that doesn't begin with a run begins with a literal of at least one byte
mixed_len-pos : (byte : ℕ) (row : List ℕ) → run_len (byte ∷ row) < 3 → 0 < mixed_len (byte ∷ row)
mixed_len-pos byte row short =
    let later : begins_run (byte ∷ row) ≡ false =
    false_from_ne_true (begins_run (byte ∷ row)) (λ here. let long : _ = run_len-begins (byte ∷ row) here in omega arith) in
    rw later (omega arith)

pub first_len-run : (row : List ℕ) → 3 ≤ run_len row → first_len row ≡ run_len row
first_len-run row long = cond-true (leb 3 (run_len row)) (run_len row) (literal_len row) (le-leb 3 (run_len row) long)

pub first_len-literal : (row : List ℕ) → run_len row < 3 → first_len row ≡ literal_len row
first_len-literal row short = cond-false (leb 3 (run_len row)) (run_len row) (literal_len row) (lt-leb 3 (run_len row) short)

pub first_packet-run : (row : List ℕ) → 3 ≤ run_len row → first_packet row ≡ (257 - run_len row) ∷ take 1 row
first_packet-run row long =
    cond-true (leb 3 (run_len row)) ((257 - run_len row) ∷ take 1 row) ((literal_len row - 1) ∷ take (literal_len row) row) (le-leb 3 (run_len row) long)

pub first_packet-literal : (row : List ℕ) → run_len row < 3 → first_packet row ≡ (literal_len row - 1) ∷ take (literal_len row) row
first_packet-literal row short =
    cond-false (leb 3 (run_len row)) ((257 - run_len row) ∷ take 1 row) ((literal_len row - 1) ∷ take (literal_len row) row) (lt-leb 3 (run_len row) short)

-- the length of the first packet of a non-empty row
pub length-first_packet_run : (row : List ℕ) → 3 ≤ run_len row → length (first_packet row) ≡ 2
length-first_packet_run [] long = absurd (omega arith)
length-first_packet_run (byte ∷ row) long = rw (first_packet-run (byte ∷ row) long) refl

pub length-first_packet_literal : (row : List ℕ) → run_len row < 3 → length (first_packet row) ≡ literal_len row + 1
length-first_packet_literal row short =
    let len : length (take (literal_len row) row) ≡ literal_len row = length-take-le (literal_len row) row (omega (arith, mixed_len-le-length row)) in
    rw (first_packet-literal row short) (omega (arith, len))

pub literal_len-pos : (row : List ℕ) → 0 < length row → run_len row < 3 → 0 < literal_len row
literal_len-pos [] some short = absurd (omega arith)
literal_len-pos (byte ∷ row) some short = omega (arith, mixed_len-pos byte row short)

pub literal_len-le-length : (row : List ℕ) → literal_len row ≤ length row
literal_len-le-length row = omega (arith, mixed_len-le-length row)

pub first_len-le-length : (row : List ℕ) → first_len row ≤ length row
first_len-le-length row =
    ⊎_elim
    (λ (short : run_len row < 3). rw (first_len-literal row short) (omega (arith, mixed_len-le-length row)))
    (λ (long : 3 ≤ run_len row). rw (first_len-run row long) (run_len-le-length row))
    (cases_lt (run_len row) 3)

-- a packet covers at least one byte
pub first_len-pos : (byte : ℕ) (row : List ℕ) → 0 < first_len (byte ∷ row)
first_len-pos byte row =
    ⊎_elim
    (λ (short : run_len (byte ∷ row) < 3). rw (first_len-literal (byte ∷ row) short) (omega (arith, mixed_len-pos byte row short)))
    (λ (long : 3 ≤ run_len (byte ∷ row)). rw (first_len-run (byte ∷ row) long) (omega arith))
    (cases_lt (run_len (byte ∷ row)) 3)

pub first_len-some : (row : List ℕ) → 0 < length row → 0 < first_len row
first_len-some [] some = absurd (omega arith)
first_len-some (byte ∷ row) some = first_len-pos byte row

pub packing-nil : packing [] ≡ []
unfolding packing
packing-nil = refl

-- the first packet, then the remaining packets
pub packing-cons : (byte : ℕ) (row : List ℕ) → packing (byte ∷ row) ≡ first_packet (byte ∷ row) ++ packing (drop (first_len (byte ∷ row)) (byte ∷ row))
unfolding packing
packing-cons = packets_cons packets_packing (λ byte row. first_packet (byte ∷ row)) (λ byte row. drop (first_len (byte ∷ row)) (byte ∷ row)) refl (λ m. refl) (λ m byte row. refl)
    (λ byte row. omega (arith, length-drop (first_len (byte ∷ row)) (byte ∷ row), first_len-pos byte row))

-- the packing of an empty row, given by its length
pub packing-none : (row : List ℕ) → length row ≡ 0 → packing row ≡ []
packing-none [] none = packing-nil
packing-none (byte ∷ row) none = cc

-- the same for a row that is not empty by its length
pub packing_more : (row : List ℕ) → 0 < length row → packing row ≡ first_packet row ++ packing (drop (first_len row) row)
packing_more [] some = absurd (omega arith)
packing_more (byte ∷ row) some = packing-cons byte row

-- the first packet expands to the bytes that it covers
pub expansion-first_packet : (byte : ℕ) (row more : List ℕ) → expansion (first_packet (byte ∷ row) ++ more) ≡ take (first_len (byte ∷ row)) (byte ∷ row) ++ expansion more
expansion-first_packet byte row more =
    ⊎_elim
    (λ (short : run_len (byte ∷ row) < 3).
    let some : _ = mixed_len-pos byte row short in
    let len : length (take (literal_len (byte ∷ row)) (byte ∷ row)) ≡ literal_len (byte ∷ row) =
    length-take-le (literal_len (byte ∷ row)) (byte ∷ row) (omega (arith, mixed_len-le-length (byte ∷ row))) in
    let given : _ = expansion-literal_of (take (literal_len (byte ∷ row)) (byte ∷ row)) more (omega (arith, len)) (omega (arith, len)) in
    rw (first_packet-literal (byte ∷ row) short, first_len-literal (byte ∷ row) short) (rw len at given))
    (λ (long : 3 ≤ run_len (byte ∷ row)).
    let given : _ = expansion-repeat (257 - run_len (byte ∷ row)) byte more (omega arith) in
    let times : 257 - (257 - run_len (byte ∷ row)) ≡ run_len (byte ∷ row) = omega arith in
    rw (first_packet-run (byte ∷ row) long, first_len-run (byte ∷ row) long, take-run_len byte row) (given ∙ ap (λ n. replicate n byte ++ expansion more) times))
    (cases_lt (run_len (byte ∷ row)) 3)

expands_before : (most : ℕ) (row more : List ℕ) → length row ≤ most → expansion (packing row ++ more) ≡ row ++ expansion more
expands_before most [] more within = rw packing-nil refl
expands_before zero (byte ∷ row) more within = absurd (omega arith)
expands_before (suc most) (byte ∷ row) more within =
    let left : List ℕ = drop (first_len (byte ∷ row)) (byte ∷ row) in
    let rest : expansion (packing left ++ more) ≡ left ++ expansion more = expands_before most left more
    (omega (arith, length-drop (first_len (byte ∷ row)) (byte ∷ row), first_len-pos byte row)) in
    let joined : (take (first_len (byte ∷ row)) (byte ∷ row) ++ left) ++ expansion more ≡ (byte ∷ row) ++ expansion more =
    ap (λ bytes. bytes ++ expansion more) (take-append-drop (first_len (byte ∷ row)) (byte ∷ row)) in
    ap (λ bytes. expansion (bytes ++ more)) (packing-cons byte row)
    ∙ ap expansion (append_assoc (first_packet (byte ∷ row)) (packing left) more)
    ∙ expansion-first_packet byte row (packing left ++ more)
    ∙ ap (λ bytes. take (first_len (byte ∷ row)) (byte ∷ row) ++ bytes) rest
    ∙ sym (append_assoc (take (first_len (byte ∷ row)) (byte ∷ row)) left (expansion more))
    ∙ joined

-- a packing followed by more bytes expands to the row, then the expansion of those bytes
pub expansion-packing : (row more : List ℕ) → expansion (packing row ++ more) ≡ row ++ expansion more
expansion-packing row more = expands_before (length row) row more (omega arith)

-- expanding a packing gives back the row
pub packing_expands : ExpandsToItsRow
packing_expands row =
    ap expansion (sym (append-nil (packing row))) ∙ expansion-packing row [] ∙ ap (λ more. row ++ more) expansion-nil ∙ append-nil row

-- the length of a packing that begins with a run, and of one that begins with a literal
length-packing_run : (byte : ℕ) (row : List ℕ) → 3 ≤ run_len (byte ∷ row) → length (packing (byte ∷ row)) ≡ 2 + length (packing (drop (run_len (byte ∷ row)) (byte ∷ row)))
length-packing_run byte row long =
    rw (packing-cons byte row, first_packet-run (byte ∷ row) long, first_len-run (byte ∷ row) long) (omega arith)

length-packing_literal : (byte : ℕ) (row : List ℕ) → run_len (byte ∷ row) < 3 → length (packing (byte ∷ row)) ≡ literal_len (byte ∷ row) + 1 + length (packing (drop (literal_len (byte ∷ row)) (byte ∷ row)))
length-packing_literal byte row short =
    let len : length (take (literal_len (byte ∷ row)) (byte ∷ row)) ≡ literal_len (byte ∷ row) =
    length-take-le (literal_len (byte ∷ row)) (byte ∷ row) (omega (arith, mixed_len-le-length (byte ∷ row))) in
    rw (packing-cons byte row, first_packet-literal (byte ∷ row) short, first_len-literal (byte ∷ row) short)
    (omega (arith, len, length-append (take (literal_len (byte ∷ row)) (byte ∷ row)) (packing (drop (literal_len (byte ∷ row)) (byte ∷ row)))))

-- The bound, and that a row which begins with three equal bytes packs to at least one byte less: the byte
-- saved by the run pays for the header of a literal that ended early.
record IsBounded (row : List ℕ) : Type 0 where
  within : length (packing row) ≤ packed_bound (length row)
  saves : begins_run row ≡ true → length (packing row) + 1 ≤ packed_bound (length row)

-- a literal ends early, or it has maximum length or reaches the end of the row
cases_ends : (m n : ℕ) → (m < 128 × m < n) ⊎ ((128 ≤ m) ⊎ (n ≤ m))
cases_ends m n =
    ⊎_elim
    (λ (short : m < 128). ⊎_elim (λ (early : m < n). inl (short, early)) (λ (whole : n ≤ m). inr (inr whole)) (cases_lt m n))
    (λ (full : 128 ≤ m). inr (inl full))
    (cases_lt m 128)

is_bounded : (most : ℕ) (row : List ℕ) → length row ≤ most → IsBounded row
is_bounded most [] within = record { within = rw packing-nil (omega arith); saves = λ here. cc }
is_bounded zero (byte ∷ row) within = absurd (omega arith)
is_bounded (suc most) (byte ∷ row) within =
    ⊎_elim
    (λ (short : run_len (byte ∷ row) < 3).
    let some : _ = mixed_len-pos byte row short in
    let fits : _ = mixed_len-le-length (byte ∷ row) in
    let len : _ = length-packing_literal byte row short in
    let left : _ = length-drop (literal_len (byte ∷ row)) (byte ∷ row) in
    let rest : IsBounded (drop (literal_len (byte ∷ row)) (byte ∷ row)) =
    is_bounded most (drop (literal_len (byte ∷ row)) (byte ∷ row)) (omega arith) in
    record {
      within =
          ⊎_elim
          (λ (ends : mixed_len (byte ∷ row) < 128 × mixed_len (byte ∷ row) < length (byte ∷ row)).
          let whole : literal_len (byte ∷ row) ≡ mixed_len (byte ∷ row) = omega arith in
          let saved : _ = rest.saves (rw whole (begins_run-mixed_len (byte ∷ row) ends.1)) in
          omega arith)
          (λ (full : (128 ≤ mixed_len (byte ∷ row)) ⊎ (length (byte ∷ row) ≤ mixed_len (byte ∷ row))). omega (arith, rest.within))
          (cases_ends (mixed_len (byte ∷ row)) (length (byte ∷ row)));
      saves = λ here. absurd (let long : _ = run_len-begins (byte ∷ row) here in omega arith);
    })
    (λ (long : 3 ≤ run_len (byte ∷ row)).
    let fits : _ = run_len-le-length (byte ∷ row) in
    let len : _ = length-packing_run byte row long in
    let left : _ = length-drop (run_len (byte ∷ row)) (byte ∷ row) in
    let rest : IsBounded (drop (run_len (byte ∷ row)) (byte ∷ row)) =
    is_bounded most (drop (run_len (byte ∷ row)) (byte ∷ row)) (omega arith) in
    record { within = omega (arith, rest.within); saves = λ here. omega (arith, rest.within) })
    (cases_lt (run_len (byte ∷ row)) 3)

-- no packing exceeds the bound
pub packing_bounded : StaysWithinBound
packing_bounded row = (is_bounded (length row) row (omega arith)).within
