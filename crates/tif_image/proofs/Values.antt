-- The first values of BitsPerSample, one by one and as a list.
use Rattle.std.proofs.Common.{◌≡◌, ◌≢◌, ℕ, suc, ◌<◌, Bool, true, List, [], ◌∷◌, length, get_or, take, Option, Some, None, Result, Ok, Err, refl, arith}
use Rattle.std.specs.Prelude.{nat_lt, ◌==◌}
use Rattle.std.specs.List.{list_all}
use Rattle.std.proofs.lemmas.Bool.{cond_both, eq-eqb, ltb-false, ne_eqb}
use Rattle.std.proofs.lemmas.List.{get_or-replicate, get_or-take, length-replicate, length-take-le}
use Rattle.std.proofs.lemmas.List.Folds.{list_all_at}
use Rattle.pr_base.specs.declared.fault.TagFault.{TagFault}
use Rattle.pr_base.specs.declared.fault.FaultKind.TheVariants.{Bits, FieldCount}
use Rattle.tif_dir.specs.Directory.{fault_at, field_of, number_at, number_in}
use Rattle.tif_dir.specs.Names.{bits_per_sample}
use Rattle.tif_image.specs.Fields.{bits_each, first_bits, same_bits}

-- the values that the field gives one by one
abbrev AreFirst : ℕ → Result (Option (List ℕ)) TagFault → Result (List ℕ) TagFault → Type 0
AreFirst samples field (Err fault) = (k : ℕ) → number_in bits_per_sample k samples field ≡ Err fault
AreFirst samples field (Ok values) =
    (length values ≡ samples) × ((k : ℕ) → k < samples → number_in bits_per_sample k samples field ≡ Ok (get_or values k 0))

first_bits-first : (samples : ℕ) (field : Result (Option (List ℕ)) TagFault) → AreFirst samples field (first_bits samples field)
first_bits-first samples (Err fault) = λ k. refl
first_bits-first samples (Ok None) = (length-replicate samples 1, λ k lt. rw (get_or-replicate {A = ℕ} samples k 1 0 lt) refl)
first_bits-first samples (Ok (Some values)) =
    cond_both (nat_lt (length values) samples) (Err (fault_at bits_per_sample FieldCount)) (Ok (take samples values)) (AreFirst samples (Ok (Some values)))
    (λ few k. rw few refl)
    (λ enough. (length-take-le samples values (ltb-false _ _ enough), λ k lt. rw (enough, get_or-take samples values k 0 lt) refl))

-- each value passes
all-each : (p : ℕ → Bool) (values : List ℕ) → ((k : ℕ) → k < length values → p (get_or values k 0) ≡ true) → list_all p values ≡ true
all-each p [] h = refl
all-each p (value ∷ values) h = rw (h 0 (omega arith)) (all-each p values (λ k lt. h (suc k) (omega arith)))

err-first : (samples depth k : ℕ) (field : Result (Option (List ℕ)) TagFault) (read : Result (List ℕ) TagFault) (fault : TagFault)
    → AreFirst samples field read → k < samples → number_in bits_per_sample k samples field ≡ Err fault → same_bits depth read ≡ Err fault
err-first samples depth k field (Err other) fault first lt e =
    let same : other ≡ fault = cc (first k, e) in
    rw same refl
err-first samples depth k field (Ok values) fault first lt e = absurd (cc (first.1 k lt, e))

other-first : (samples depth k n : ℕ) (field : Result (Option (List ℕ)) TagFault) (read : Result (List ℕ) TagFault)
    → AreFirst samples field read → k < samples → number_in bits_per_sample k samples field ≡ Ok n → n ≢ depth → same_bits depth read ≡ Err (fault_at bits_per_sample Bits)
other-first samples depth k n field (Err fault) first lt e ne = absurd (cc (first k, e))
other-first samples depth k n field (Ok values) first lt e ne =
    let value : get_or values k 0 ≡ n = cc (first.1 k lt, e) in
    rw (list_all_at (λ bit. bit == depth) values k 0 (omega (arith, first.0)) (rw value (ne_eqb n depth ne))) refl

all-first : (samples depth : ℕ) (field : Result (Option (List ℕ)) TagFault) (read : Result (List ℕ) TagFault)
    → AreFirst samples field read → 0 < samples → ((k : ℕ) → k < samples → number_in bits_per_sample k samples field ≡ Ok depth) → same_bits depth read ≡ Ok tt
all-first samples depth field (Err fault) first lt all = absurd (cc (first 0, all 0 lt))
all-first samples depth field (Ok values) first lt all =
    rw (all-each (λ bit. bit == depth) values (λ k below. eq-eqb _ _ (cc (first.1 k (omega (arith, first.0)), all k (omega (arith, first.0)))))) refl

-- a value that is missing or unreadable
pub bits_each-err : (bytes : List ℕ) (samples depth k : ℕ) (fault : TagFault) → k < samples → number_at bytes bits_per_sample k samples ≡ Err fault
    → bits_each bytes samples depth ≡ Err fault
unfolding bits_each number_at
bits_each-err bytes samples depth k fault lt e =
    err-first samples depth k (field_of bytes bits_per_sample) (first_bits samples (field_of bytes bits_per_sample)) fault (first_bits-first samples (field_of bytes bits_per_sample)) lt e

-- a value of a different depth
pub bits_each-other : (bytes : List ℕ) (samples depth k n : ℕ) → k < samples → number_at bytes bits_per_sample k samples ≡ Ok n → n ≢ depth
    → bits_each bytes samples depth ≡ Err (fault_at bits_per_sample Bits)
unfolding bits_each number_at
bits_each-other bytes samples depth k n lt e ne =
    other-first samples depth k n (field_of bytes bits_per_sample) (first_bits samples (field_of bytes bits_per_sample)) (first_bits-first samples (field_of bytes bits_per_sample)) lt e ne

-- all values have this depth
pub bits_each-all : (bytes : List ℕ) (samples depth : ℕ) → 0 < samples → ((k : ℕ) → k < samples → number_at bytes bits_per_sample k samples ≡ Ok depth)
    → bits_each bytes samples depth ≡ Ok tt
unfolding bits_each number_at
bits_each-all bytes samples depth lt all =
    all-first samples depth (field_of bytes bits_per_sample) (first_bits samples (field_of bytes bits_per_sample)) (first_bits-first samples (field_of bytes bits_per_sample)) lt all
