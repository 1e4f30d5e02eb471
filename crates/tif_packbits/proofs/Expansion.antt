-- Expansion, packet by packet.
use Rattle.std.proofs.Common.{◌≡◌, ℕ, zero, suc, ◌+◌, ◌-◌, ◌<◌, ◌≤◌, List, [], ◌∷◌, ◌++◌, length, take, drop, replicate, refl, sym, ap, ◌∙◌, arith, length-drop}
use Rattle.std.proofs.lemmas.Bool.{lt-ltb, le-ltb, le-leb, lt-leb, ne_eqb}
use Rattle.std.proofs.lemmas.List.{take_at, drop_at, drop_all, length-append}
use Rattle.tif_packbits.specs.Packbits.{data_len, packet_expansion, packets_expansion, expansion}

-- what is given packet by packet, each of at least one byte
module _ (packets : ℕ → List ℕ → List ℕ) (first rest : ℕ → List ℕ → List ℕ) (none : packets 0 [] ≡ []) (nil : (m : ℕ) → packets (suc m) [] ≡ [])
    (next : (m byte : ℕ) (bytes : List ℕ) → packets (suc m) (byte ∷ bytes) ≡ first byte bytes ++ packets m (rest byte bytes)) (less : (byte : ℕ) (bytes : List ℕ) → length (rest byte bytes) ≤ length bytes) where
  packets_nil : (m : ℕ) → packets m [] ≡ []
  packets_nil zero = none
  packets_nil (suc m) = nil m

  -- a larger packet limit changes nothing once it is at least the number of bytes
  packets_enough : (m n : ℕ) (bytes : List ℕ) → length bytes ≤ m → length bytes ≤ n → packets m bytes ≡ packets n bytes
  packets_enough m n [] a b = packets_nil m ∙ sym (packets_nil n)
  packets_enough zero n (byte ∷ bytes) a b = absurd (omega arith)
  packets_enough (suc m) zero (byte ∷ bytes) a b = absurd (omega arith)
  packets_enough (suc m) (suc n) (byte ∷ bytes) a b =
      let shorter = less byte bytes in
      next m byte bytes ∙ (ap (λ more. first byte bytes ++ more) (packets_enough m n (rest byte bytes) (omega arith) (omega arith)) ∙ sym (next n byte bytes))

  -- the first packet, then the remaining packets
  pub packets_cons : (byte : ℕ) (bytes : List ℕ) → packets (length (byte ∷ bytes)) (byte ∷ bytes) ≡ first byte bytes ++ packets (length (rest byte bytes)) (rest byte bytes)
  packets_cons byte bytes =
      let shorter = less byte bytes in
      next (length bytes) byte bytes ∙ ap (λ more. first byte bytes ++ more) (packets_enough (length bytes) (length (rest byte bytes)) (rest byte bytes) (omega arith) (omega arith))

pub expansion-nil : expansion [] ≡ []
unfolding expansion
expansion-nil = refl

-- the expansion of an empty list, given by its length
pub expansion-none : (bytes : List ℕ) → length bytes ≡ 0 → expansion bytes ≡ []
expansion-none [] none = expansion-nil
expansion-none (header ∷ bytes) none = cc

-- the first packet, then the remaining packets
pub expansion-cons : (header : ℕ) (bytes : List ℕ) → expansion (header ∷ bytes) ≡ packet_expansion header bytes ++ expansion (drop (data_len header) bytes)
unfolding expansion
expansion-cons = packets_cons packets_expansion packet_expansion (λ header bytes. drop (data_len header) bytes) refl (λ m. refl) (λ m header bytes. refl) (λ header bytes. omega (arith, length-drop (data_len header) bytes))

-- a complete literal
pub expansion-literal : (header : ℕ) (bytes : List ℕ) → header < 128 → header + 1 ≤ length bytes → expansion (header ∷ bytes) ≡ take (header + 1) bytes ++ expansion (drop (header + 1) bytes)
expansion-literal header bytes small whole =
    let is_literal : _ = lt-ltb header 128 small in
    let is_whole : _ = le-leb (header + 1) (length bytes) whole in
    rw (expansion-cons header bytes) (simp (is_literal, is_whole))

-- a truncated literal
pub expansion-cut : (header : ℕ) (bytes : List ℕ) → header < 128 → length bytes < header + 1 → expansion (header ∷ bytes) ≡ []
expansion-cut header bytes small cut =
    let is_literal : _ = lt-ltb header 128 small in
    let is_cut : _ = lt-leb (header + 1) (length bytes) cut in
    let none_left : _ = drop_all (header + 1) bytes (omega arith) in
    rw (expansion-cons header bytes) (simp (is_literal, is_cut, none_left, expansion-nil))

-- the header -128
pub expansion-nothing : (bytes : List ℕ) → expansion (128 ∷ bytes) ≡ expansion bytes
expansion-nothing bytes = expansion-cons 128 bytes

-- a repeat without its byte
pub expansion-headless : (header : ℕ) → 128 < header → expansion (header ∷ []) ≡ []
expansion-headless header large =
    let no_literal : _ = le-ltb header 128 (omega arith) in
    let gives : _ = ne_eqb header 128 (omega arith) in
    rw (expansion-cons header []) (simp (no_literal, gives, expansion-nil))

-- a complete repeat
pub expansion-repeat : (header byte : ℕ) (bytes : List ℕ) → 128 < header → expansion (header ∷ byte ∷ bytes) ≡ replicate (257 - header) byte ++ expansion bytes
expansion-repeat header byte bytes large =
    let no_literal : _ = le-ltb header 128 (omega arith) in
    let gives : _ = ne_eqb header 128 (omega arith) in
    rw (expansion-cons header (byte ∷ bytes)) (simp (no_literal, gives))

-- a literal made of these bytes
pub expansion-literal_of : (front bytes : List ℕ) → 0 < length front → length front ≤ 128 → expansion ((length front - 1) ∷ (front ++ bytes)) ≡ front ++ expansion bytes
expansion-literal_of front bytes some short =
    let len : length front - 1 + 1 ≡ length front = omega arith in
    let whole : _ = expansion-literal (length front - 1) (front ++ bytes) (omega arith) (omega (arith, length-append front bytes)) in
    rw (whole, len, take_at front bytes _ refl, drop_at front bytes _ refl) refl
