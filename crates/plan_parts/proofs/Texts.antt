-- The parts of a text between `/`, one at a time.
use Rattle.std.proofs.Common.{◌≡◌, ℕ, suc, ◌+◌, ◌==◌, ◌&&◌, Bool, true, false, cond, List, [], ◌∷◌, take, drop, Option, Some, None, refl, subst, arith, add-one}
use Rattle.std.specs.List.{list_all, position_from}
use Rattle.plan_parts.specs.Forms.{parts}

-- the parts of a text whose first `/` is at an index counted from `at`
abbrev PartsAt : List ℕ → ℕ → Option ℕ → Type 0
PartsAt text at None = parts text ≡ text ∷ []
PartsAt text at (Some i) = (k : ℕ) × (i ≡ at + k) × (parts text ≡ take k text ∷ parts (drop (suc k) text))

parts_more : (b : ℕ) (text : List ℕ) (at : ℕ) (found : Option ℕ) → (b == 47) ≡ false
    → PartsAt text (at + 1) found → PartsAt (b ∷ text) at found
unfolding parts
parts_more b text at None other rest = rw (other, rest) refl
parts_more b text at (Some i) other h = (suc h.0, omega (arith, h.1), rw (other, h.2) refl)

parts_case : (b : ℕ) (text : List ℕ) (at : ℕ) (slash : Bool) → (b == 47) ≡ slash
    → PartsAt text (at + 1) (position_from (λ c. c == 47) (at + 1) text)
    → PartsAt (b ∷ text) at (cond slash (Some at) (position_from (λ c. c == 47) (at + 1) text))
unfolding parts
parts_case b text at true is rest = (0, omega arith, rw is refl)
parts_case b text at false is rest = parts_more b text at _ is rest

parts_at : (text : List ℕ) (at : ℕ) → PartsAt text at (position_from (λ c. c == 47) at text)
unfolding parts
parts_at [] at = refl
parts_at (b ∷ text) at = parts_case b text at _ refl (parts_at text (at + 1))

and_true : (b : Bool) → (b && true) ≡ b
and_true true = refl
and_true false = refl

pub all_parts-none : (p : List ℕ → Bool) (text : List ℕ) → position_from (λ c. c == 47) 0 text ≡ None
    → list_all p (parts text) ≡ p text
all_parts-none p text e =
    let h : parts text ≡ text ∷ [] = subst (PartsAt text 0) e (parts_at text 0) in
    rw h (and_true (p text))

pub all_parts-some : (p : List ℕ → Bool) (text : List ℕ) (i : ℕ)
    → position_from (λ c. c == 47) 0 text ≡ Some i
    → list_all p (parts text) ≡ (p (take i text) && list_all p (parts (drop (i + 1) text)))
all_parts-some p text i e =
    let h = subst (PartsAt text 0) e (parts_at text 0) in
    let same : i ≡ h.0 = omega (arith, h.1) in
    rw (same, add-one, h.2) refl
