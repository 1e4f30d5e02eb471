-- The expansion of each kind of packet at the start of the packed bytes.
use Rattle.std.proofs.Common.{◌≡◌, ◌<◌, ◌++◌, length, take, drop, ℕ, ◌+◌, ◌-◌, ◌≤◌, List, [], ◌∷◌, get_or, replicate, arith, refl, sym, ap, ◌∙◌}
use Rattle.std.proofs.lemmas.List.{take_rest}
use Rattle.tif_packbits.specs.Packbits.{expansion}
use Rattle.tif_packbits.proofs.Expansion.{expansion-nil, expansion-literal, expansion-cut, expansion-nothing, expansion-headless, expansion-none, expansion-repeat}
use Rattle.tif_packbits.proofs.Wholes.{alike-literal, alike-nothing, alike-repeat}
use Rattle.tif_packbits.proofs.packet.first_packet.Goals as goal

literal : (packed : List ℕ) → 0 < length packed → get_or packed 0 0 < 128 → get_or packed 0 0 + 1 ≤ length (drop 1 packed) → expansion packed ≡ take (get_or packed 0 0 + 1) (drop 1 packed) ++ expansion (drop (get_or packed 0 0 + 1) (drop 1 packed))
literal [] some small whole = absurd (omega arith)
literal (header ∷ bytes) some small whole = expansion-literal header bytes small whole

cut : (packed : List ℕ) → 0 < length packed → get_or packed 0 0 < 128 → length (drop 1 packed) < get_or packed 0 0 + 1 → expansion packed ≡ expansion []
cut [] some small short = absurd (omega arith)
cut (header ∷ bytes) some small short = rw (expansion-cut header bytes small short, expansion-nil) refl

nothing : (packed : List ℕ) → 0 < length packed → get_or packed 0 0 ≡ 128 → expansion packed ≡ expansion (drop 1 packed)
nothing [] some is = absurd (omega arith)
nothing (header ∷ bytes) some is = rw is (expansion-nothing bytes)

headless : (packed : List ℕ) → 0 < length packed → 128 < get_or packed 0 0 → length (drop 1 packed) < 1 → expansion packed ≡ expansion (drop 1 packed)
headless [] some large none = absurd (omega arith)
headless (header ∷ []) some large none = rw (expansion-headless header large, expansion-nil) refl
headless (header ∷ byte ∷ bytes) some large none = absurd (omega arith)

repeat : (packed : List ℕ) → 128 < get_or packed 0 0 → 1 ≤ length (drop 1 packed) → expansion packed ≡ replicate (257 - get_or packed 0 0) (get_or (drop 1 packed) 0 0) ++ expansion (drop 1 (drop 1 packed))
repeat [] large some = absurd (omega arith)
repeat (header ∷ []) large some = absurd (omega arith)
repeat (header ∷ byte ∷ bytes) large some = expansion-repeat header byte bytes large

pub returns-then-len-data-clause-whole : goal.returns-then-len-data-clause-whole
returns-then-len-data-clause-whole c =
    simp take_rest (literal c.args.packed.now c.requires c.if-header-lt-NOTHING.true (simp take_rest at c.if-len-data.true))

pub returns-else-len-data-clause-whole : goal.returns-else-len-data-clause-whole
returns-else-len-data-clause-whole c =
    cut c.args.packed.now c.requires c.if-header-lt-NOTHING.true (simp take_rest at c.if-len-data.false)

pub returns-then-header-clause-whole : goal.returns-then-header-clause-whole
returns-then-header-clause-whole c =
    nothing c.args.packed.now c.requires c.if-header.true
    ∙ (ap expansion (sym (take_rest c.args.packed.now 1)) ∙ c.past_nothings.ensures.same)

pub returns-in-empty-clause-whole : goal.returns-in-empty-clause-whole
returns-in-empty-clause-whole c =
    simp take_rest (headless c.args.packed.now c.requires (omega arith) (simp take_rest at c.in-empty.len_below))

pub returns-in-len1-up-clause-whole : goal.returns-in-len1-up-clause-whole
returns-in-len1-up-clause-whole c =
    simp take_rest (repeat c.args.packed.now (omega arith) (simp take_rest at c.in-len1-up.len_at_least))

pub returns-then-len-data-clause-alike : goal.returns-then-len-data-clause-alike
returns-then-len-data-clause-alike c = λ some other.
    simp take_rest (alike-literal c.args.packed.now other c.requires c.if-header-lt-NOTHING.true (simp take_rest at c.if-len-data.true))

pub returns-else-len-data-clause-alike : goal.returns-else-len-data-clause-alike
returns-else-len-data-clause-alike c = λ some other.
    (let none : length (expansion c.args.packed.now) ≡ 0 = ap length (cut c.args.packed.now c.requires c.if-header-lt-NOTHING.true (simp take_rest at c.if-len-data.false) ∙ expansion-nil) in
    absurd (omega arith))

pub returns-then-header-clause-alike : goal.returns-then-header-clause-alike
returns-then-header-clause-alike c = λ some other.
    alike-nothing c.args.packed.now c.past_nothings.result.now other c.requires c.if-header.true (simp take_rest at c.past_nothings.ensures.past)

pub returns-in-empty-clause-alike : goal.returns-in-empty-clause-alike
returns-in-empty-clause-alike c = λ some other.
    (let short : length (drop 1 c.args.packed.now) < 1 = simp take_rest at c.in-empty.len_below in
    let none : length (expansion c.args.packed.now) ≡ 0 = ap length (headless c.args.packed.now c.requires (omega arith) short ∙ expansion-none (drop 1 c.args.packed.now) (omega arith)) in
    absurd (omega arith))

pub returns-in-len1-up-clause-alike : goal.returns-in-len1-up-clause-alike
returns-in-len1-up-clause-alike c = λ some other.
    simp take_rest (alike-repeat c.args.packed.now other (omega arith) (simp take_rest at c.in-len1-up.len_at_least))
