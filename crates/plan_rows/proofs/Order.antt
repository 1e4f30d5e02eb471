-- The plates of a site are ordered by their last rows.
use Rattle.std.proofs.Common.{◌≡◌, ◌≢◌, ℕ, zero, suc, ◌+◌, ◌-◌, ◌*◌, ◌<◌, ◌≤◌, Bool, true, false, cond, List, [], ◌∷◌, ◌++◌, length, map, get_or, Some, refl, ap, sym, ◌∙◌, subst, add-zero, arith}
use Rattle.std.specs.Prelude.{All, count_by, filter, nat_lt, slice_get}
use Rattle.std.specs.List.{flat_map, range_with_len}
use Rattle.std.proofs.lemmas.Bool.{cond_both, lt-ltb, le-ltb}
use Rattle.std.proofs.lemmas.List.{map-append, get_or-map, length-map}
use Rattle.std.proofs.lemmas.List.Elements.{All-head, All-tail}
use Rattle.std.proofs.lemmas.Option.{slice_get_within, get_or_from_slice_get}
use Rattle.std.proofs.lemmas.Simd.{map-map}
use Rattle.plan_json.specs.Data.{PlanData, plate_height}
use Rattle.plan_json.specs.Plan.{IsPlan}
use Rattle.pr_base.specs.Ink.{slot_of}
use Rattle.plan_rows.specs.declared.group.Group.{Group}
use Rattle.plan_rows.specs.Inks.{process_inks, spot_inks, inks_of, ink_count, ink_place, has_site}
use Rattle.plan_rows.specs.Groups.{section_groups, groups_of, numbered, row_count}
use Rattle.plan_rows.specs.Rows.{row_number}
use Rattle.plan_rows.specs.Plates.{PlateOf, group_plates, site_plates, last_row, plates_done}
use Rattle.plan_rows.proofs.Places.{height_within}
use Rattle.plan_rows.proofs.Held.{count_by-cons, below_next}

-- ---- ascending numbers

-- the first is at least low, and each later one is greater than the one before
abbrev pub Ascends : ℕ → List ℕ → Type 0
Ascends low [] = Unit {0}
Ascends low (x ∷ xs) = (low ≤ x) × Ascends (suc x) xs

ascends-lower : (low high : ℕ) (xs : List ℕ) → low ≤ high → Ascends high xs → Ascends low xs
ascends-lower low high [] below up = tt
ascends-lower low high (x ∷ xs) below up = ((let first = up.0 in omega arith), up.1)

count_above : (low n : ℕ) (xs : List ℕ) → n ≤ low → Ascends low xs → count_by (λ v. nat_lt v n) xs ≡ 0
count_above low n [] below up = refl
count_above low n (x ∷ xs) below up =
    let first = up.0 in
    count_by-cons (λ v. nat_lt v n) x xs
    ∙ ap (λ b. cond b 1 0 + count_by (λ v. nat_lt v n) xs) (le-ltb x n (omega arith))
    ∙ ap (λ m. 0 + m) (count_above (suc x) n xs (omega arith) up.1) ∙ add-zero 0

ascends_at : (low : ℕ) (xs : List ℕ) (i d : ℕ) → i < length xs → Ascends low xs → low ≤ get_or xs i d
ascends_at low [] i d within up = absurd (omega arith)
ascends_at low (x ∷ xs) zero d within up = up.0
ascends_at low (x ∷ xs) (suc i) d within up =
    let rest = ascends_at (suc x) xs i d (omega arith) up.1 in
    let first = up.0 in
    omega arith

-- exactly i of them are less than the one at index i
count_before : (low : ℕ) (xs : List ℕ) (i d : ℕ) → i < length xs → Ascends low xs → count_by (λ v. nat_lt v (get_or xs i d)) xs ≡ i
count_before low [] i d within up = absurd (omega arith)
count_before low (x ∷ xs) zero d within up =
    count_by-cons (λ v. nat_lt v x) x xs
    ∙ ap (λ b. cond b 1 0 + count_by (λ v. nat_lt v x) xs) (le-ltb x x (omega arith))
    ∙ ap (λ m. 0 + m) (count_above (suc x) x xs (omega arith) up.1) ∙ add-zero 0
count_before low (x ∷ xs) (suc i) d within up =
    let n = get_or xs i d in
    let above : suc x ≤ n = ascends_at (suc x) xs i d (omega arith) up.1 in
    let rest = count_before (suc x) xs i d (omega arith) up.1 in
    count_by-cons (λ v. nat_lt v n) x xs
    ∙ ap (λ b. cond b 1 0 + count_by (λ v. nat_lt v n) xs) (lt-ltb x n (omega arith)) ∙ omega arith

-- i + 1 of them are at most that one
count_upto : (low : ℕ) (xs : List ℕ) (i d : ℕ) → i < length xs → Ascends low xs → count_by (λ v. nat_lt v (get_or xs i d + 1)) xs ≡ i + 1
count_upto low [] i d within up = absurd (omega arith)
count_upto low (x ∷ xs) zero d within up =
    count_by-cons (λ v. nat_lt v (x + 1)) x xs
    ∙ ap (λ b. cond b 1 0 + count_by (λ v. nat_lt v (x + 1)) xs) (lt-ltb x (x + 1) (omega arith))
    ∙ ap (λ m. 1 + m) (count_above (suc x) (x + 1) xs (omega arith) up.1)
count_upto low (x ∷ xs) (suc i) d within up =
    let n = get_or xs i d in
    let above : suc x ≤ n = ascends_at (suc x) xs i d (omega arith) up.1 in
    let rest = count_upto (suc x) xs i d (omega arith) up.1 in
    count_by-cons (λ v. nat_lt v (n + 1)) x xs
    ∙ ap (λ b. cond b 1 0 + count_by (λ v. nat_lt v (n + 1)) xs) (lt-ltb x (n + 1) (omega arith)) ∙ omega arith

-- ---- the last rows of plates

-- those of one group, followed by others
inks_ascend : (colour spot : Bool) (from base : ℕ) (others : List ℕ) → from ≤ base → Ascends (base + length (process_inks colour ++ spot_inks spot)) others
    → Ascends from (map (λ ink. base + count_by (λ other. nat_lt (slot_of other) (slot_of ink)) (process_inks colour ++ spot_inks spot)) (process_inks colour ++ spot_inks spot) ++ others)
inks_ascend true true from base others low up = (omega arith, (omega arith, (omega arith, (omega arith, (omega arith, ascends-lower _ (base + 5) others (omega arith) up)))))
inks_ascend true false from base others low up = (omega arith, (omega arith, (omega arith, (omega arith, ascends-lower _ (base + 4) others (omega arith) up))))
inks_ascend false true from base others low up = (omega arith, (omega arith, ascends-lower _ (base + 2) others (omega arith) up))
inks_ascend false false from base others low up = (omega arith, ascends-lower _ (base + 1) others (omega arith) up)

lasts_ascend : (height from : ℕ) (test : Group → Bool) (groups : List Group) → 1 ≤ height → Ascends from (map (λ plate. row_number plate.0 (height - 1) plate.1) (flat_map group_plates (filter test (numbered height from groups))))
lasts_ascend height from test [] least = tt
lasts_ascend height from test (group ∷ groups) least =
    let first : Group = record group { first = from } in
    let next = from + row_count height group in
    let last : PlateOf → ℕ = λ plate. row_number plate.0 (height - 1) plate.1 in
    let others : List Group = filter test (numbered height next groups) in
    let rest : Ascends next (map last (flat_map group_plates others)) = lasts_ascend height next test groups least in
    let base = from + (height - 1) * ink_count group in
    let size : base + ink_count group ≡ next = (let whole : (height - 1) * ink_count group + ink_count group ≡ height * ink_count group = whole_rows height (ink_count group) least in omega arith) in
    let numbers : List ℕ → Type 0 = λ ns. Ascends from ns in
    let own : Ascends from (map (λ ink. base + ink_place group ink) (inks_of group) ++ map last (flat_map group_plates others)) =
    inks_ascend group.colour group.spot from base (map last (flat_map group_plates others)) (omega arith) (subst {A = ℕ} (λ n. Ascends n (map last (flat_map group_plates others))) (sym size) rest) in
    cond_both {A = List Group} (test first) (first ∷ others) others (λ gs. Ascends from (map last (flat_map group_plates gs)))
    (λ _. subst numbers (sym (map-append last (group_plates first) (flat_map group_plates others) ∙ ap (λ ns. ns ++ map last (flat_map group_plates others)) (map-map last (λ ink. (first, ink)) (inks_of group)))) own)
    (λ _. ascends-lower from next (map last (flat_map group_plates others)) (omega arith) rest)
  where
    whole_rows : (h k : ℕ) → 1 ≤ h → (h - 1) * k + k ≡ h * k
    whole_rows zero k least = absurd (omega arith)
    whole_rows (suc h) k least = (let less : suc h - 1 ≡ h = omega arith in ap (λ m. m * k + k) less ∙ omega arith)

-- the last rows of a site's plates ascend in the order of the plates
pub last_rows_ascend : (plan : PlanData) (site : ℕ) → IsPlan plan → Ascends 0 (map (last_row plan) (site_plates plan site))
unfolding site_plates groups_of
last_rows_ascend plan site is =
    lasts_ascend (plate_height plan) 0 (λ group. has_site group site) (flat_map (section_groups plan) (range_with_len 0 (length plan.sections))) (height_within plan is).least

-- ---- the plates that are complete below a number

count_by-map : {X : Type 0} (f : X → ℕ) (p : ℕ → Bool) (xs : List X) → count_by (λ x. p (f x)) xs ≡ count_by p (map f xs)
count_by-map f p [] = refl
count_by-map f p (x ∷ xs) =
    count_by-cons (λ y. p (f y)) x xs ∙ ap (λ n. cond (p (f x)) 1 0 + n) (count_by-map f p xs) ∙ sym (count_by-cons p (f x) (map f xs))

-- below the last row of plate i of a site, i of its plates are complete
pub done_before : (plan : PlanData) (site i : ℕ) (plate : PlateOf) → IsPlan plan → slice_get (site_plates plan site) i ≡ Some plate → plates_done plan site (last_row plan plate) ≡ i
done_before plan site i plate is there =
    let lasts = map (last_row plan) (site_plates plan site) in
    let within : i < length (site_plates plan site) = slice_get_within (site_plates plan site) i plate there in
    let last : get_or lasts i 0 ≡ last_row plan plate = get_or-map (last_row plan) (site_plates plan site) i plate 0 within ∙ ap (last_row plan) (get_or_from_slice_get (site_plates plan site) i plate plate there) in
    count_by-map (last_row plan) (λ v. nat_lt v (last_row plan plate)) (site_plates plan site)
    ∙ ap (λ n. count_by (λ v. nat_lt v n) lasts) (sym last)
    ∙ count_before 0 lasts i 0 (omega (arith, length-map (site_plates plan site) (last_row plan))) (last_rows_ascend plan site is)

-- with that row, one more
pub done_with : (plan : PlanData) (site i : ℕ) (plate : PlateOf) → IsPlan plan → slice_get (site_plates plan site) i ≡ Some plate → plates_done plan site (last_row plan plate + 1) ≡ i + 1
done_with plan site i plate is there =
    let lasts = map (last_row plan) (site_plates plan site) in
    let within : i < length (site_plates plan site) = slice_get_within (site_plates plan site) i plate there in
    let last : get_or lasts i 0 ≡ last_row plan plate = get_or-map (last_row plan) (site_plates plan site) i plate 0 within ∙ ap (last_row plan) (get_or_from_slice_get (site_plates plan site) i plate plate there) in
    count_by-map (last_row plan) (λ v. nat_lt v (last_row plan plate + 1)) (site_plates plan site)
    ∙ ap (λ n. count_by (λ v. nat_lt v (n + 1)) lasts) (sym last)
    ∙ count_upto 0 lasts i 0 (omega (arith, length-map (site_plates plan site) (last_row plan))) (last_rows_ascend plan site is)

-- a row that is not the last of any plate of the site changes no count
pub done_other : (plan : PlanData) (site n : ℕ) → All (λ plate. last_row plan plate ≢ n) (site_plates plan site) → plates_done plan site (n + 1) ≡ plates_done plan site n
done_other plan site n apart = go (site_plates plan site) apart
  where
    go : (plates : List PlateOf) → All (λ plate. last_row plan plate ≢ n) plates → count_by (λ plate. nat_lt (last_row plan plate) (n + 1)) plates ≡ count_by (λ plate. nat_lt (last_row plan plate) n) plates
    go [] each = refl
    go (plate ∷ plates) each =
        count_by-cons (λ p. nat_lt (last_row plan p) (n + 1)) plate plates
        ∙ ap (λ b. cond b 1 0 + count_by (λ p. nat_lt (last_row plan p) (n + 1)) plates) (below_next (last_row plan plate) n (All-head (λ p. last_row plan p ≢ n) plate plates each))
        ∙ ap (λ m. cond (nat_lt (last_row plan plate) n) 1 0 + m) (go plates (All-tail (λ p. last_row plan p ≢ n) plate plates each))
        ∙ sym (count_by-cons (λ p. nat_lt (last_row plan p) n) plate plates)
