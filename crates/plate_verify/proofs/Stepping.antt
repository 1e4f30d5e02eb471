-- Verifying a plate site by site, and a group ink by ink.
use Rattle.std.proofs.Common.{◌≡◌, ℕ, zero, suc, ◌+◌, ◌<◌, ◌≤◌, Bool, true, false, cond, List, [], ◌∷◌, ◌++◌, length, map, take, get_or, Option, Result, Some, refl, sym, ap, ◌∙◌, subst, arith}
use Rattle.std.specs.Prelude.{filter, slice_get}
use Rattle.std.specs.List.{flat_map, range_with_len}
use Rattle.std.proofs.lemmas.List.FromFn.{length-range_with_len, get_or-range_with_len}
use Rattle.pr_base.specs.declared.ink.Ink.{Ink}
use Rattle.plan_json.specs.Data.{PlanData}
use Rattle.plan_rows.specs.declared.group.Group.{Group}
use Rattle.plan_rows.specs.Inks.{inks_of, has_site}
use Rattle.plan_rows.specs.Plates.{PlateOf}
use Rattle.plate_verify.specs.declared.checked.Checked.{Checked}
use Rattle.plate_verify.specs.declared.checked.VerifyFault.{VerifyFault}
use Rattle.plate_verify.specs.Order.{SitePlate, plate_sites}
use Rattle.plate_verify.specs.Verifying.{ShelfTold, AreRight, Verified, plates_at, group_sites}
use Rattle.plate_verify.proofs.VerifyLemmas.{IsStopped, verified_more, verified_stops, verified_all}

same_sites : (plate : PlateOf) (from n : ℕ) → flat_map (plates_at plate) (range_with_len from n) ≡ map (λ site. (site, plate)) (filter (has_site plate.0) (range_with_len from n))
same_sites plate from zero = refl
same_sites plate from (suc n) = one (has_site plate.0 from) (same_sites plate (from + 1) n)
  where
    one : (b : Bool) → flat_map (plates_at plate) (range_with_len (from + 1) n) ≡ map (λ site. (site, plate)) (filter (has_site plate.0) (range_with_len (from + 1) n))
        → cond b ((from, plate) ∷ []) [] ++ flat_map (plates_at plate) (range_with_len (from + 1) n)
        ≡ map (λ site. (site, plate)) (cond b (from ∷ filter (has_site plate.0) (range_with_len (from + 1) n)) (filter (has_site plate.0) (range_with_len (from + 1) n)))
    one true e = ap (λ l. (from, plate) ∷ l) e
    one false e = e

at_site : (n site : ℕ) → site < n → site ≡ get_or (range_with_len 0 n) site site
at_site n site below = sym (get_or-range_with_len 0 n site site below ∙ omega arith)

pub sites_more : (plan : PlanData) (rows : List (List ℕ)) (out : List ℕ) (plate : PlateOf) (site : ℕ) (a b c : ShelfTold) → site < length plan.sites
    → AreRight plan rows out (flat_map (plates_at plate) (take site (range_with_len 0 (length plan.sites)))) a b → AreRight plan rows out (plates_at plate site) b c
    → AreRight plan rows out (flat_map (plates_at plate) (take (site + 1) (range_with_len 0 (length plan.sites)))) a c
sites_more plan rows out plate site a b c below p q =
    let n : ℕ = length plan.sites in
    verified_more plan rows out (plates_at plate) (range_with_len 0 n) site site a b c (omega (arith, length-range_with_len 0 n)) (at_site n site below) p q

pub sites_stop : (plan : PlanData) (rows : List (List ℕ)) (out : List ℕ) (plate : PlateOf) (site : ℕ) (a b c : ShelfTold) (r : Result (Option Checked) VerifyFault) → site < length plan.sites
    → AreRight plan rows out (flat_map (plates_at plate) (take site (range_with_len 0 (length plan.sites)))) a b → Verified plan rows out (plates_at plate site) b c r → IsStopped r
    → Verified plan rows out (plate_sites plan plate) a c r
sites_stop plan rows out plate site a b c r below p q s =
    let n : ℕ = length plan.sites in
    subst {A = List SitePlate} (λ l. Verified plan rows out l a c r) (same_sites plate 0 n)
    (verified_stops plan rows out (plates_at plate) (range_with_len 0 n) site site a b c r (omega (arith, length-range_with_len 0 n)) (at_site n site below) p q s)

pub sites_all : (plan : PlanData) (rows : List (List ℕ)) (out : List ℕ) (plate : PlateOf) (site : ℕ) (a b : ShelfTold) → length plan.sites ≤ site
    → AreRight plan rows out (flat_map (plates_at plate) (take site (range_with_len 0 (length plan.sites)))) a b → AreRight plan rows out (plate_sites plan plate) a b
sites_all plan rows out plate site a b past p =
    let n : ℕ = length plan.sites in
    subst {A = List SitePlate} (λ l. AreRight plan rows out l a b) (same_sites plate 0 n)
    (verified_all plan rows out (plates_at plate) (range_with_len 0 n) site a b (omega (arith, length-range_with_len 0 n)) p)

-- ink i is the next
at_ink : (inks : List Ink) (i : ℕ) (ink : Ink) → slice_get inks i ≡ Some ink → (i < length inks) × (ink ≡ get_or inks i ink)
at_ink [] i ink is = cc
at_ink (x ∷ inks) zero ink is = (let same : x ≡ ink = cc in (omega arith, sym same))
at_ink (x ∷ inks) (suc i) ink is = (let rest : (i < length inks) × (ink ≡ get_or inks i ink) = at_ink inks i ink is in (omega arith, rest.1))

pub inks_more : (plan : PlanData) (rows : List (List ℕ)) (out : List ℕ) (group : Group) (i : ℕ) (ink : Ink) (a b c : ShelfTold) → slice_get (inks_of group) i ≡ Some ink
    → AreRight plan rows out (flat_map (λ k. plate_sites plan (group, k)) (take i (inks_of group))) a b → AreRight plan rows out (plate_sites plan (group, ink)) b c
    → AreRight plan rows out (flat_map (λ k. plate_sites plan (group, k)) (take (i + 1) (inks_of group))) a c
inks_more plan rows out group i ink a b c is p q =
    let here : (i < length (inks_of group)) × (ink ≡ get_or (inks_of group) i ink) = at_ink (inks_of group) i ink is in
    verified_more plan rows out (λ (k : Ink). plate_sites plan (group, k)) (inks_of group) i ink a b c here.0 here.1 p q

pub inks_stop : (plan : PlanData) (rows : List (List ℕ)) (out : List ℕ) (group : Group) (i : ℕ) (ink : Ink) (a b c : ShelfTold) (r : Result (Option Checked) VerifyFault) → slice_get (inks_of group) i ≡ Some ink
    → AreRight plan rows out (flat_map (λ k. plate_sites plan (group, k)) (take i (inks_of group))) a b → Verified plan rows out (plate_sites plan (group, ink)) b c r → IsStopped r
    → Verified plan rows out (group_sites plan group) a c r
inks_stop plan rows out group i ink a b c r is p q s =
    let here : (i < length (inks_of group)) × (ink ≡ get_or (inks_of group) i ink) = at_ink (inks_of group) i ink is in
    verified_stops plan rows out (λ (k : Ink). plate_sites plan (group, k)) (inks_of group) i ink a b c r here.0 here.1 p q s

pub inks_all : (plan : PlanData) (rows : List (List ℕ)) (out : List ℕ) (group : Group) (i : ℕ) (a b : ShelfTold) → length (inks_of group) ≤ i
    → AreRight plan rows out (flat_map (λ k. plate_sites plan (group, k)) (take i (inks_of group))) a b → AreRight plan rows out (group_sites plan group) a b
inks_all plan rows out group i a b past p = verified_all plan rows out (λ (k : Ink). plate_sites plan (group, k)) (inks_of group) i a b past p
