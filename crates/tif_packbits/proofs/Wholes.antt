-- Packed bytes that begin and end with a packet.
use Rattle.std.proofs.Common.{◌≡◌, ℕ, zero, suc, ◌+◌, ◌-◌, ◌<◌, ◌≤◌, ◌==◌, Bool, true, false, List, [], ◌∷◌, ◌++◌, length, take, drop, replicate, get_or, refl, sym, ap, subst, ◌∙◌, arith, eqb-true}
use Rattle.std.proofs.Math.Seq.{take-add}
use Rattle.std.proofs.lemmas.List.{append-nil, append_assoc, drop_at, drop-drop, length-append, length-drop, length-take-le, take_at, take-append-drop, take-append-le}
use Rattle.std.proofs.lemmas.List.Sums.{prefix_len-le-length}
use Rattle.std.specs.List.{prefix_len}
use Rattle.tif_packbits.specs.Packbits.{expansion}
use Rattle.tif_packbits.specs.WholePackets.{IsWhole, IsThrough}
use Rattle.tif_packbits.proofs.Expansion.{expansion-nil, expansion-literal, expansion-nothing, expansion-repeat}
use Rattle.tif_packbits.proofs.Pieces.{HasGiven, HasGiven-length}

-- ---- the first packet before other bytes

-- a whole literal and the bytes after it
literal_before : (header : ℕ) (bytes other : List ℕ) → header < 128 → header + 1 ≤ length bytes → expansion (header ∷ (take (header + 1) bytes ++ other)) ≡ take (header + 1) bytes ++ expansion other
literal_before header bytes other small whole =
    let long : length (take (header + 1) bytes) ≡ header + 1 = length-take-le (header + 1) bytes whole in
    expansion-literal header (take (header + 1) bytes ++ other) small (omega (arith, length-append (take (header + 1) bytes) other))
    ∙ rw (take_at (take (header + 1) bytes) other (header + 1) long, drop_at (take (header + 1) bytes) other (header + 1) long) refl

pub alike-literal : (packed other : List ℕ) → 0 < length packed → get_or packed 0 0 < 128 → get_or packed 0 0 + 1 ≤ length (drop 1 packed)
    → expansion (take (length packed - length (drop (get_or packed 0 0 + 1) (drop 1 packed))) packed ++ other) ≡ take (get_or packed 0 0 + 1) (drop 1 packed) ++ expansion other
alike-literal [] other some small whole = absurd (omega arith)
alike-literal (header ∷ bytes) other some small whole =
    let used : length (header ∷ bytes) - length (drop (header + 1) bytes) ≡ suc (header + 1) = omega (arith, length-drop (header + 1) bytes) in
    ap (λ n. expansion (take n (header ∷ bytes) ++ other)) used ∙ literal_before header bytes other small whole

-- leading no-op headers before other bytes
nothings_before : (bytes other : List ℕ) → expansion (take (prefix_len (λ header. header == 128) bytes) bytes ++ other) ≡ expansion other
nothings_before [] other = refl
nothings_before (header ∷ bytes) other = by_test (header == 128) refl (nothings_before bytes other) where
  by_test : (is_nothing : Bool) → (header == 128) ≡ is_nothing → expansion (take (prefix_len (λ header. header == 128) bytes) bytes ++ other) ≡ expansion other → expansion (take (prefix_len (λ header. header == 128) (header ∷ bytes)) (header ∷ bytes) ++ other) ≡ expansion other
  by_test true is behind =
      let first : header ≡ 128 = eqb-true header 128 is in
      let more : 1 + prefix_len (λ header. header == 128) bytes ≡ suc (prefix_len (λ header. header == 128) bytes) = omega arith in
      rw (first, more) (expansion-nothing (take (prefix_len (λ header. header == 128) bytes) bytes ++ other) ∙ behind)
  by_test false is behind = rw is refl

pub alike-nothing : (packed rest other : List ℕ) → 0 < length packed → get_or packed 0 0 ≡ 128 → rest ≡ drop (prefix_len (λ header. header == 128) (drop 1 packed)) (drop 1 packed)
    → expansion (take (length packed - length rest) packed ++ other) ≡ expansion other
alike-nothing [] rest other some is past = absurd (omega arith)
alike-nothing (header ∷ bytes) rest other some is past =
    let count = prefix_len (λ header. header == 128) bytes in
    let few : count ≤ length bytes = prefix_len-le-length (λ header. header == 128) bytes in
    let used : length (header ∷ bytes) - length rest ≡ suc count = omega (arith, ap length past, length-drop count bytes) in
    ap (λ n. expansion (take n (header ∷ bytes) ++ other)) used
    ∙ ap (λ h. expansion (h ∷ (take count bytes ++ other))) is
    ∙ expansion-nothing (take count bytes ++ other) ∙ nothings_before bytes other

pub alike-repeat : (packed other : List ℕ) → 128 < get_or packed 0 0 → 1 ≤ length (drop 1 packed)
    → expansion (take (length packed - length (drop 1 (drop 1 packed))) packed ++ other) ≡ replicate (257 - get_or packed 0 0) (get_or (drop 1 packed) 0 0) ++ expansion other
alike-repeat [] other large some = absurd (omega arith)
alike-repeat (header ∷ []) other large some = absurd (omega arith)
alike-repeat (header ∷ byte ∷ bytes) other large some =
    let used : length (header ∷ byte ∷ bytes) - length bytes ≡ 2 = omega arith in
    ap (λ n. expansion (take n (header ∷ byte ∷ bytes) ++ other)) used ∙ expansion-repeat header byte other large

-- ---- packets gone over

pub through-none : (packed : List ℕ) → IsThrough packed [] packed 0
through-none packed =
    let none : length packed - length packed ≡ 0 = omega arith in
    record {
      shorter = omega arith;
      behind = rw none refl;
      gives = λ other. rw none refl;
    }

-- n more bytes of the packet were given
pub through-piece : (packed left rest into start : List ℕ) (at n : ℕ) → IsThrough packed left rest at → HasGiven (expansion packed) start into (left ++ expansion rest) at → n ≤ length left → IsThrough packed (drop n left) rest (at + n)
through-piece packed left rest into start at n so given few =
    let piece : take n (drop at (expansion packed)) ≡ take n left = ap (take n) (sym given.rest) ∙ take-append-le n left (expansion rest) few in
    let given_is : take (at + n) (expansion packed) ≡ take at (expansion packed) ++ take n left = take-add at n (expansion packed) ∙ ap (λ xs. take at (expansion packed) ++ xs) piece in
    record {
      shorter = so.shorter;
      behind = so.behind;
      gives = λ other.
          so.gives other
          ∙ ap (λ xs. take at (expansion packed) ++ (xs ++ expansion other)) (sym (take-append-drop n left))
          ∙ ap (λ xs. take at (expansion packed) ++ xs) (append_assoc (take n left) (drop n left) (expansion other))
          ∙ sym (append_assoc (take at (expansion packed)) (take n left) (drop n left ++ expansion other))
          ∙ ap (λ xs. xs ++ (drop n left ++ expansion other)) (sym given_is);
    }

-- a further packet was begun
pub through-next : (packed left rest first rest1 : List ℕ) (at : ℕ) → IsThrough packed left rest at → left ≡ [] → length rest1 < length rest → rest1 ≡ drop (length rest - length rest1) rest
    → ((other : List ℕ) → expansion (take (length rest - length rest1) rest ++ other) ≡ first ++ expansion other)
    → IsThrough packed first rest1 at
through-next packed left rest first rest1 at so none shorter behind alike =
    let used = length packed - length rest in
    let more = length rest - length rest1 in
    let all : length packed - length rest1 ≡ used + more = omega (arith, so.shorter) in
    let front : take (used + more) packed ≡ take used packed ++ take more rest = take-add used more packed ∙ ap (λ xs. take used packed ++ take more xs) (sym so.behind) in
    record {
      shorter = omega (arith, so.shorter);
      behind = behind ∙ ap (drop more) so.behind ∙ drop-drop more used packed ∙ ap (λ n. drop n packed) (omega (arith, all));
      gives = λ other.
          ap (λ n. expansion (take n packed ++ other)) all
          ∙ ap (λ xs. expansion (xs ++ other)) front
          ∙ ap expansion (append_assoc (take used packed) (take more rest) other)
          ∙ so.gives (take more rest ++ other)
          ∙ ap (λ xs. take at (expansion packed) ++ (xs ++ expansion (take more rest ++ other))) none
          ∙ ap (λ xs. take at (expansion packed) ++ xs) (alike other);
    }

-- where nothing is left of the last packet, those gone over are whole, and expand to what was given
pub through-all : (packed left rest : List ℕ) (at : ℕ) → IsThrough packed left rest at → left ≡ [] → expansion (take (length packed - length rest) packed) ≡ take at (expansion packed)
through-all packed left rest at so none =
    ap expansion (sym (append-nil (take (length packed - length rest) packed)))
    ∙ so.gives [] ∙ ap (λ xs. take at (expansion packed) ++ (xs ++ expansion [])) none
    ∙ ap (λ xs. take at (expansion packed) ++ xs) expansion-nil ∙ append-nil (take at (expansion packed))

pub through-whole : (packed left rest : List ℕ) (at : ℕ) → IsThrough packed left rest at → left ≡ [] → IsWhole (take (length packed - length rest) packed)
through-whole packed left rest at so none behind =
    so.gives behind ∙ ap (λ xs. take at (expansion packed) ++ (xs ++ expansion behind)) none
    ∙ ap (λ xs. xs ++ expansion behind) (sym (through-all packed left rest at so none))

pub through-full : (packed left rest : List ℕ) (at n : ℕ) → IsThrough packed left rest at → at ≡ n → IsThrough packed left rest n
through-full packed left rest at n so is = subst (λ n. IsThrough packed left rest n) is so

-- while the buffer isn't full, bytes are left behind a packet that is over
pub more_left : (ahead start into gone behind : List ℕ) (at : ℕ) → HasGiven ahead start into (gone ++ behind) at → gone ≡ [] → (at ≡ length into → ⊥) → length start ≤ length ahead → 0 < length behind
more_left ahead start into gone behind at given none not_full enough =
    let same : length into ≡ length start = HasGiven-length ahead start into (gone ++ behind) at given in
    omega (arith, given.in_room, ap length given.rest, length-append gone behind, length-drop at ahead, ap length none)

pub some_packed : (packed : List ℕ) → 0 < length (expansion packed) → 0 < length packed
some_packed [] some = absurd (omega (arith, ap length expansion-nil))
some_packed (header ∷ bytes) some = omega arith

-- ---- packets that come next

pub next_is : (left rest packed : List ℕ) → left ≡ [] → IsWhole packed → rest ≡ packed ++ drop (length packed) rest → take (length (expansion packed)) (left ++ expansion rest) ≡ expansion packed
next_is left rest packed none whole same =
    ap (λ xs. take (length (expansion packed)) (xs ++ expansion rest)) none
    ∙ ap (λ xs. take (length (expansion packed)) (expansion xs)) same
    ∙ ap (take (length (expansion packed))) (whole (drop (length packed) rest))
    ∙ take_at (expansion packed) (expansion (drop (length packed) rest)) (length (expansion packed)) refl

pub passed_is : (left rest packed behind : List ℕ) → left ≡ [] → IsWhole packed → rest ≡ packed ++ behind → left ++ expansion rest ≡ expansion packed ++ (left ++ expansion behind)
passed_is left rest packed behind none whole same =
    ap (λ xs. xs ++ expansion rest) none ∙ ap expansion same ∙ whole behind
    ∙ ap (λ xs. expansion packed ++ (xs ++ expansion behind)) (sym none)
