-- No-op headers (-128) at the start of packed bytes.
use Rattle.std.proofs.Common.{◌≡◌, ◌==◌, ◌≤◌, ℕ, zero, suc, ◌+◌, Bool, true, false, List, [], ◌∷◌, ◌++◌, length, drop, take, replicate, get_or, Option, Some, None, MatchOption, unwrap_or, Bor, nat_eq, refl, sym, ap, ◌∙◌, arith}
use Rattle.std.proofs.lemmas.Bool.{eqb-true}
use Rattle.std.proofs.lemmas.Bool.Decides.{Decides-eqb}
use Rattle.std.proofs.lemmas.Slice.Eq.{strip_prefix_is}
use Rattle.std.specs.List.{prefix_len}
use Rattle.std.specs.Cmp.Lexicographic.{pointwise}
use Rattle.tif_packbits.specs.Packbits.{expansion}
use Rattle.tif_packbits.proofs.Expansion.{expansion-nothing}

-- the packed bytes after all leading no-op headers
abbrev pub past : List ℕ → List ℕ
past bytes = drop (prefix_len (λ header. header == 128) bytes) bytes

-- one no-op header changes nothing
past-nothing : (bytes : List ℕ) → past (128 ∷ bytes) ≡ past bytes
past-nothing bytes =
    let more : 1 + prefix_len (λ header. header == 128) bytes ≡ suc (prefix_len (λ header. header == 128) bytes) = omega arith in
    rw more refl

-- nor do several
past-nothings : (n : ℕ) (bytes : List ℕ) → past (replicate n 128 ++ bytes) ≡ past bytes
past-nothings zero bytes = refl
past-nothings (suc n) bytes = past-nothing (replicate n 128 ++ bytes) ∙ past-nothings n bytes

-- as many no-op headers as the code compares at once
abbrev chunk_of : List ℕ
chunk_of = replicate 64 128

-- a step skips a whole chunk of no-op headers if one is there, else one header
pub past-step : (bytes : List ℕ) (chunk : Option (Bor (List ℕ))) (behind next : Bor (List ℕ)) → 1 ≤ length bytes → get_or bytes 0 0 ≡ 128 → behind.now ≡ drop 1 bytes
    → MatchOption chunk (pointwise nat_eq (take 64 bytes) chunk_of ≡ false) (λ x. (pointwise nat_eq (take 64 bytes) chunk_of ≡ true) × (x.now ≡ drop 64 bytes) × (length x.now + 64 ≡ length bytes))
    → next ≡ unwrap_or chunk behind
    → past bytes ≡ past next.now
past-step bytes (Some x) behind next some first rest cases is =
    let chunked : bytes ≡ chunk_of ++ x.now = strip_prefix_is Decides-eqb bytes chunk_of (Some x) cases in
    ap past chunked ∙ (past-nothings 64 x.now ∙ ap (λ r. past r.now) (sym is))
past-step [] None behind next some first rest cases is = absurd (omega arith)
past-step (header ∷ bytes) None behind next some first rest cases is =
    ap (λ h. past (h ∷ bytes)) first ∙ (past-nothing bytes ∙ (ap past (sym rest) ∙ ap (λ r. past r.now) (sym is)))

-- leading no-op headers do not change the expansion
pub expansion-past : (bytes : List ℕ) → expansion bytes ≡ expansion (past bytes)
expansion-past [] = refl
expansion-past (header ∷ bytes) = by_test (header == 128) refl (expansion-past bytes) where
  by_test : (is_nothing : Bool) → (header == 128) ≡ is_nothing → expansion bytes ≡ expansion (past bytes) → expansion (header ∷ bytes) ≡ expansion (past (header ∷ bytes))
  by_test true is behind =
      let first : header ≡ 128 = eqb-true header 128 is in
      ap (λ h. expansion (h ∷ bytes)) first
      ∙ (expansion-nothing bytes ∙ (behind ∙ ap expansion (sym (ap (λ h. past (h ∷ bytes)) first ∙ past-nothing bytes))))
  by_test false is behind = rw is refl
