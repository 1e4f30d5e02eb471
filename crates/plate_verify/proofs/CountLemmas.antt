-- The number of plates, and the result of verifying all of them.
use Rattle.std.proofs.Common.{◌≡◌, ℕ, zero, suc, ◌+◌, ◌*◌, ◌<◌, ◌≤◌, Bool, true, false, cond, List, [], ◌∷◌, ◌++◌, length, take, get_or, Option, Some, None, Result, Ok, Err, refl, sym, ap, ◌∙◌, arith}
use Rattle.std.specs.Prelude.{count_by, filter, slice_get, unwrap_or}
use Rattle.std.specs.List.{filter_map, flat_map, range_with_len}
use Rattle.std.proofs.lemmas.List.{length-append, length-map, take_more, take_all, append-nil}
use Rattle.std.proofs.lemmas.Grind.{flat_map-append}
use Rattle.pr_base.specs.declared.ink.Ink.{Ink}
use Rattle.plan_json.specs.Data.{PlanData}
use Rattle.plan_rows.specs.declared.group.Group.{Group}
use Rattle.plan_rows.specs.Groups.{groups_of}
use Rattle.plan_rows.specs.Inks.{inks_of, ink_count, has_site}
use Rattle.plan_rows.proofs.Held.{count_by-cons}
use Rattle.plate_verify.specs.declared.checked.Checked.{Checked}
use Rattle.plate_verify.specs.declared.checked.VerifyFault.{VerifyFault}
use Rattle.plate_verify.specs.declared.checked.VerifyFault.TheVariants.{Shelf, Memory}
use Rattle.plate_verify.specs.Order.{SitePlate, plate_sites, plates_in_order}
use Rattle.plate_verify.specs.Verifying.{ShelfTold, Verified, AfterAll, group_sites, told}
use Rattle.plate_verify.specs.Verify.{answer_of}
use Rattle.plate_verify.specs.Wrong.{Found, AllRight, wrong_at, first_wrong}
use Rattle.plate_verify.proofs.VerifyLemmas.{if_held}
use Rattle.plate_verify.proofs.OrderLemmas.{order_is}
use Rattle.plate_verify.proofs.Rights.{first_none}

-- 1 for an element that passes
abbrev pub one_if : Bool → ℕ
one_if b = cond b 1 0

counted : (p : ℕ → Bool) (from n : ℕ) → count_by p (range_with_len from (suc n)) ≡ count_by p (range_with_len from n) + one_if (p (from + n))
counted p from zero =
    let same : from ≡ from + 0 = omega arith in
    count_by-cons p from [] ∙ ap (λ k. one_if (p k) + 0) same ∙ omega arith
counted p from (suc n) =
    let same : from + 1 + n ≡ from + suc n = omega arith in
    let last : one_if (p (from + 1 + n)) ≡ one_if (p (from + suc n)) = ap (λ k. one_if (p k)) same in
    count_by-cons p from (range_with_len (from + 1) (suc n))
    ∙ omega (arith, counted p (from + 1) n, last, count_by-cons p from (range_with_len (from + 1) n))

pub count-more : (p : ℕ → Bool) (n : ℕ) → count_by p (range_with_len 0 (n + 1)) ≡ count_by p (range_with_len 0 n) + one_if (p n)
count-more p n =
    let one : n + 1 ≡ suc n = omega arith in
    let same : 0 + n ≡ n = omega arith in
    ap (λ k. count_by p (range_with_len 0 k)) one ∙ counted p 0 n ∙ ap (λ k. count_by p (range_with_len 0 n) + one_if (p k)) same

passing : (p : ℕ → Bool) (xs : List ℕ) → length (filter p xs) ≡ count_by p xs
passing p [] = refl
passing p (x ∷ xs) = one (p x) (passing p xs) ∙ sym (count_by-cons p x xs)
  where
    one : (b : Bool) → length (filter p xs) ≡ count_by p xs → length (cond b (x ∷ filter p xs) (filter p xs)) ≡ one_if b + count_by p xs
    one true e = omega (arith, e)
    one false e = omega (arith, e)

pub group-count : (plan : PlanData) (group : Group) → length (group_sites plan group) ≡ ink_count group * count_by (has_site group) (range_with_len 0 (length plan.sites))
group-count plan group = by_inks (inks_of group)
  where
    by_inks : (inks : List Ink) → length (flat_map (λ ink. plate_sites plan (group, ink)) inks) ≡ length inks * count_by (has_site group) (range_with_len 0 (length plan.sites))
    by_inks [] = omega arith
    by_inks (ink ∷ inks) =
        let n : ℕ = count_by (has_site group) (range_with_len 0 (length plan.sites)) in
        let own : length (plate_sites plan (group, ink)) ≡ n = length-map (filter (has_site group) (range_with_len 0 (length plan.sites))) (λ site. (site, (group, ink))) ∙ passing (has_site group) (range_with_len 0 (length plan.sites)) in
        length-append (plate_sites plan (group, ink)) (flat_map (λ k. plate_sites plan (group, k)) inks) ∙ omega (arith, own, by_inks inks)

pub plates-more : (plan : PlanData) (i : ℕ) (group : Group) → i < length (groups_of plan) → group ≡ get_or (groups_of plan) i group
    → length (flat_map (group_sites plan) (take (i + 1) (groups_of plan))) ≡ length (flat_map (group_sites plan) (take i (groups_of plan))) + length (group_sites plan group)
plates-more plan i group below there =
    ap (λ gs. length (flat_map (group_sites plan) gs)) (take_more (groups_of plan) i group below)
    ∙ ap {A = List SitePlate} length (flat_map-append (group_sites plan) (take i (groups_of plan)) (get_or (groups_of plan) i group ∷ []))
    ∙ length-append (flat_map (group_sites plan) (take i (groups_of plan))) (group_sites plan (get_or (groups_of plan) i group) ++ [])
    ∙ ap {A = List SitePlate} (λ l. length (flat_map (group_sites plan) (take i (groups_of plan))) + length l) (append-nil (group_sites plan (get_or (groups_of plan) i group)))
    ∙ ap {A = Group} (λ g. length (flat_map (group_sites plan) (take i (groups_of plan))) + length (group_sites plan g)) (sym there)

pub plates-all : (plan : PlanData) (i n : ℕ) → n ≡ length (flat_map (group_sites plan) (take i (groups_of plan))) → length (groups_of plan) ≤ i → n ≡ length (plates_in_order plan)
plates-all plan i n is past =
    is ∙ ap (λ gs. length (flat_map (group_sites plan) gs)) (take_all i (groups_of plan) past) ∙ sym (ap {A = List SitePlate} length (order_is plan))

-- ---- the result

pub after_all : (plan : PlanData) (rows : List (List ℕ)) (out : List ℕ) (old new : ShelfTold) (r : Result (Option Checked) VerifyFault) → Verified plan rows out (plates_in_order plan) old new r
    → AfterAll plan rows out old new (answer_of plan r)
unfolding first_wrong
after_all plan rows out old new (Ok None) right = record {
  quiet = right.quiet;
  first = if_held old.held (λ files. filter_map (wrong_at plan rows out files) (plates_in_order plan) ≡ []) (λ files. first_wrong plan rows out files ≡ AllRight (length (plates_in_order plan))) right.right
      (λ files none. first_none plan rows out files none);
  long = tt;
  short = right.longs;
}
after_all plan rows out old new (Ok (Some found)) wrong = record {
  quiet = wrong.quiet;
  first = if_held old.held (λ files. slice_get (filter_map (wrong_at plan rows out files) (plates_in_order plan)) 0 ≡ Some (told found)) (λ files. first_wrong plan rows out files ≡ told found) wrong.first
      (λ files first. ap (λ (o : Option Found). unwrap_or o (AllRight (length (plates_in_order plan)))) first);
  long = wrong.long;
  short = wrong.short;
}
after_all plan rows out old new (Err (Shelf path)) fails = fails
after_all plan rows out old new (Err Memory) quiet = quiet
