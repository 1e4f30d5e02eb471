-- Lists of racks as contracts see them: facts about each rack, and racks followed by others.
use Rattle.std.proofs.Common.{◌≡◌, ◌≢◌, ℕ, zero, suc, ◌-◌, ◌<◌, ◌≤◌, true, false, List, [], ◌∷◌, ◌++◌, length, map, set, Option, Some, None, IfSome, refl, sym, ap, subst, ◌∙◌, ⊎_elim, inl, inr, arith}
use Rattle.std.specs.Prelude.{is_some, slice_get}
use Rattle.std.specs.Option.{option_map}
use Rattle.std.proofs.lemmas.Bool.{cases_lt}
use Rattle.std.proofs.lemmas.List.{get_or-set_other, get_or-set_same, length-map, length-set, map-append}
use Rattle.std.proofs.lemmas.Option.{get_or_from_slice_get, same_Some, slice_get-get_or, slice_get-map, slice_get_within}
use Rattle.pr_base.specs.Count.{Rose}
use Rattle.pr_rack.specs.Rack.{Plate, Slots, none_begun}
use Rattle.pr_rack.specs.Told.{RackTells}
use Rattle.site_agent.specs.Racks.{AreIdle, KeepCounts, TellsSlots}
use Rattle.site_agent.proofs.Runs.{IsIdle}

-- ---- lists

pub slice_get-front : {X : Type 0} (xs ys : List X) (i : ℕ) → i < length xs
    → slice_get (xs ++ ys) i ≡ slice_get xs i
slice_get-front [] ys i less = absurd (omega (arith, less))
slice_get-front (x ∷ xs) ys zero less = refl
slice_get-front (x ∷ xs) ys (suc i) less = slice_get-front xs ys i (omega (arith, less))

pub slice_get-behind : {X : Type 0} (xs ys : List X) (i : ℕ) → length xs ≤ i
    → slice_get (xs ++ ys) i ≡ slice_get ys (i - length xs)
slice_get-behind [] ys i more = ap (slice_get ys) (let e : i ≡ i - 0 = omega arith in e)
slice_get-behind (x ∷ xs) ys zero more = absurd (omega (arith, more))
slice_get-behind (x ∷ xs) ys (suc i) more = slice_get-behind xs ys i (omega (arith, more)) ∙ ap (slice_get ys) (let e : i - length xs ≡ suc i - suc (length xs) = omega arith in e)

-- the entry read from a list after a write
pub set-here : {X : Type 0} (xs : List X) (i : ℕ) (x y : X) → slice_get (set xs i x) i ≡ Some y → x ≡ y
set-here xs i x y there =
    let within : i < length xs = omega (arith, slice_get_within (set xs i x) i y there, length-set xs i x) in
    sym (get_or-set_same xs i x y within) ∙ get_or_from_slice_get (set xs i x) i y y there

pub set-aside : {X : Type 0} (xs : List X) (i j : ℕ) (x y : X) → j ≢ i → slice_get (set xs i x) j ≡ Some y
    → slice_get xs j ≡ Some y
set-aside xs i j x y other there =
    let less : j < length xs = omega (arith, slice_get_within (set xs i x) j y there, length-set xs i x) in
    slice_get-get_or xs j y less ∙ ap Some (sym (get_or-set_other xs i j x y other) ∙ get_or_from_slice_get (set xs i x) j y y there)

-- ---- the start

-- what holds of every rack holds of each in a list of racks
pub all_tell : {X : Type 0} (tell : X → RackTells) (P : RackTells → Type 0) (racks : List X) (site : ℕ)
    (told : RackTells) → ((rack : X) → P (tell rack)) → slice_get (map tell racks) site ≡ Some told → P told
all_tell tell P [] site told each there = absurd (none there) where
  none : None ≡ Some told → ⊥
  none e = cc
all_tell tell P (rack ∷ racks) zero told each there = subst P (same_Some (tell rack) told there) (each rack)
all_tell tell P (rack ∷ racks) (suc site) told each there = all_tell tell P racks site told each there

no-slot : (slot : ℕ) → slot < 5 → slice_get none_begun slot ≡ Some false
no-slot zero less = refl
no-slot (suc zero) less = refl
no-slot (suc (suc zero)) less = refl
no-slot (suc (suc (suc zero))) less = refl
no-slot (suc (suc (suc (suc zero)))) less = refl
no-slot (suc (suc (suc (suc (suc slot))))) less = absurd (omega arith)

empty-slot : (slot : Option (Option Plate)) → option_map is_some slot ≡ Some false → slot ≡ Some None
empty-slot None is = absurd (none is) where
  none : None ≡ Some false → ⊥
  none e = cc
empty-slot (Some None) is = refl
empty-slot (Some (Some plate)) is = absurd (one (same_Some true false is)) where
  one : true ≡ false → ⊥
  one e = cc

-- a rack whose known slots agree with the begun ones is idle if none is begun
pub idle_is : (told : RackTells) → TellsSlots told → told.tells.begun ≡ none_begun → IsIdle told.tells
idle_is told slots idle = record {
  begun = λ slot less. ap (λ begun. slice_get begun slot) idle ∙ no-slot slot less;
  working = by_told told.tells.working slots;
} where
  by_told : (working : Option Slots) → IfSome working (λ slots. told.tells.begun ≡ map is_some slots)
      → IfSome working (λ slots. (slot : ℕ) → slot < 5 → slice_get slots slot ≡ Some None)
  by_told None are = tt
  by_told (Some held) are = λ slot less.
      empty-slot (slice_get held slot) (sym (slice_get-map is_some held slot) ∙ ap (λ begun. slice_get begun slot) (sym are ∙ idle) ∙ no-slot slot less)

-- ---- counts

pub counts_stay : (before : List RackTells) → KeepCounts before before
counts_stay before = record {
  each = λ site old new b r. subst (λ (now : RackTells). old.faults ≤ now.faults) (same_Some old new (sym b ∙ r)) (let e : old.faults ≤ old.faults = omega arith in e);
}

-- a count that rose since then rose since an earlier time
pub rose_since : (before old now : ℕ) → before ≤ old → Rose old now → Rose before now
rose_since before old now from rose = ⊎_elim (λ more. inl (omega (arith, from, more))) (λ last. inr last) rose

-- ---- racks followed by others

-- what contracts see of those racks, and of the ones after them
pub wide : {X : Type 0} (tell : X → RackTells) (racks front rest : List X) → racks ≡ front ++ rest
    → map tell racks ≡ map tell front ++ map tell rest
wide tell racks front rest is = ap (map tell) is ∙ map-append tell front rest

-- what holds of the first racks holds when others follow them
pub over_wide : {X : Type 0} (tell : X → RackTells) (P : List RackTells → List RackTells → Type 0)
    (racks racks' front front' rest : List X) → racks ≡ front ++ rest → racks' ≡ front' ++ rest
    → P (map tell front ++ map tell rest) (map tell front' ++ map tell rest)
    → P (map tell racks) (map tell racks')
over_wide tell P racks racks' front front' rest is is' p =
    subst (λ (new : List RackTells). P (map tell racks) new) (sym (wide tell racks' front' rest is'))
    (subst (λ (old : List RackTells). P old (map tell front' ++ map tell rest)) (sym (wide tell racks front rest is)) p)

pub counts_wide : (before now rest : List RackTells) → length now ≡ length before → KeepCounts before now
    → KeepCounts (before ++ rest) (now ++ rest)
counts_wide before now rest same keep = record {
  each = λ site old new b r.
      ⊎_elim
      (λ (less : site < length before). keep.each site old new (sym (slice_get-front before rest site less) ∙ b) (sym (slice_get-front now rest site (omega (arith, less, same))) ∙ r))
      (λ (more : length before ≤ site).
      let is : old ≡ new = same_Some old new
      (sym b ∙ slice_get-behind before rest site more ∙ ap (λ k. slice_get rest (site - k)) (sym same) ∙ sym (slice_get-behind now rest site (omega (arith, more, same))) ∙ r) in
      subst (λ (n : RackTells). old.faults ≤ n.faults) is (let e : old.faults ≤ old.faults = omega arith in e))
      (cases_lt site (length before));
}

pub idle_front : (count : ℕ) (front rest : List RackTells) → length front ≡ count
    → AreIdle count (front ++ rest) → AreIdle count front
idle_front count front rest long idle = record {
  each = λ site told less there. idle.each site told less (slice_get-front front rest site (omega (arith, less, long)) ∙ there);
}

-- so the counts of all racks never decrease if those of the first racks do not
pub all_keep : {X : Type 0} (tell : X → RackTells) (racks racks' front front' rest : List X)
    → racks ≡ front ++ rest → racks' ≡ front' ++ rest → length front' ≡ length front
    → KeepCounts (map tell front) (map tell front')
    → KeepCounts (map tell racks) (map tell racks')
all_keep tell racks racks' front front' rest is is' same keep =
    over_wide tell KeepCounts racks racks' front front' rest is is' (counts_wide (map tell front) (map tell front') (map tell rest) (length-map front' tell ∙ same ∙ sym (length-map front tell)) keep)

-- and the first racks are idle if all racks of the sites are
pub front_idle : {X : Type 0} (tell : X → RackTells) (count : ℕ) (racks front rest : List X)
    → racks ≡ front ++ rest → length front ≡ count → AreIdle count (map tell racks)
    → AreIdle count (map tell front)
front_idle tell count racks front rest is long idle =
    idle_front count (map tell front) (map tell rest) (length-map front tell ∙ long) (subst (λ (list : List RackTells). AreIdle count list) (wide tell racks front rest is) idle)
