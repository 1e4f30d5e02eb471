-- Rows of sites that grow by one more site, and lists of rows that grow by one more group.
use Rattle.std.proofs.Common.{◌≡◌, ℕ, ◌+◌, ◌<◌, Bool, false, List, [], ◌∷◌, ◌++◌, length, get_or, set, sym, subst, inl, inr, ap, arith, get_or-set_same, get_or-set_other, ◌∙◌}
use Rattle.std.specs.Prelude.{IsTrue}
use Rattle.std.proofs.lemmas.Bool.{cases_eq}
use Rattle.std.proofs.lemmas.List.{get_or_append_left, get_or_push}
use Rattle.plan_rows.specs.declared.group.Group.{Group}
use Rattle.plan_rows.specs.Inks.{has_site}
use Rattle.replate.specs.Inputs.{JobData}
use Rattle.replate.specs.Plates.{group_at}
use Rattle.replate.specs.Standing.{AreAllKept, AreKept, Stays}

pub row_more : (before after : JobData) (group : Group) (n : ℕ) (row : List Bool) (bit : Bool) → n < length row
    → (IsTrue bit → (its : ℕ) × ((index : ℕ) × Stays before after n group its index))
    → ((its index : ℕ) → IsTrue (has_site group n) → Stays before after n group its index → IsTrue bit)
    → AreKept before after group n row → AreKept before after group (n + 1) (set row n bit)
row_more before after group n row bit within found each is =
    let here : get_or (set row n bit) n false ≡ bit = get_or-set_same row n bit false within in
    let there : (k : ℕ) → (k ≡ n → ⊥) → get_or (set row n bit) k false ≡ get_or row k false = λ k other. get_or-set_other row n k bit false (λ same. other same) in
    let Some_at : ℕ → Type 0 = λ k. (its : ℕ) × ((index : ℕ) × Stays before after k group its index) in
    record {
      stays = λ k low passes. elim (cases_eq k n) [
        | inl last ↦ subst Some_at (sym last) (found (subst IsTrue (ap (λ j. get_or (set row n bit) j false) last ∙ here) passes))
        | inr other ↦ is.stays k (let apart : k ≡ n → ⊥ = other in omega arith) (subst IsTrue (there k other) passes)
      ];
      each = λ k its index low of one. elim (cases_eq k n) [
        | inl last ↦
            let Of : ℕ → Type 0 = λ j. IsTrue (has_site group j) in
            let At : ℕ → Type 0 = λ j. Stays before after j group its index in
            subst IsTrue (sym (ap (λ j. get_or (set row n bit) j false) last ∙ here)) (each its index (subst Of last of) (subst At last one))
        | inr other ↦ subst IsTrue (sym (there k other)) (is.each k its index (let apart : k ≡ n → ⊥ = other in omega arith) of one)
      ];
    }

pub rows_more : (before after : JobData) (n : ℕ) (kept : List (List Bool)) (row : List Bool) → length kept ≡ n
    → AreKept before after (group_at after.plan n) (length after.plan.sites) row → AreAllKept before after n kept → AreAllKept before after (n + 1) (kept ++ row ∷ [])
rows_more before after n kept row count one is =
    let Row : List Bool → Type 0 = λ r. AreKept before after (group_at after.plan n) (length after.plan.sites) r in
    let At : ℕ → Type 0 = λ k. AreKept before after (group_at after.plan k) (length after.plan.sites) (get_or (kept ++ row ∷ []) k []) in
    record {
      rows = λ k low. elim (cases_eq k n) [
        | inl last ↦ subst At (sym last) (subst Row (sym (get_or_push kept row [] n count)) one)
        | inr other ↦
            let within : k < n = (let apart : k ≡ n → ⊥ = other in omega arith) in
            let Old : List Bool → Type 0 = λ r. AreKept before after (group_at after.plan k) (length after.plan.sites) r in
            subst Old (sym (get_or_append_left kept (row ∷ []) [] k (omega arith))) (is.rows k within)
      ];
    }
