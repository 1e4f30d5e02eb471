-- The plates of a site have distinct paths, since no two of its groups have the same section and pair.
use Rattle.std.proofs.Common.{◌≡◌, ◌≢◌, ℕ, zero, suc, ◌+◌, ◌*◌, ◌/◌, ◌<◌, ◌≤◌, Bool, true, false, cond, List, [], ◌∷◌, ◌++◌, length, map, get_or, refl, ap, sym, ◌∙◌, subst, add-zero, arith}
use Rattle.std.specs.Prelude.{AllPairs, filter}
use Rattle.std.specs.List.{flat_map, range_with_len}
use Rattle.std.proofs.lemmas.List.{append_cancel_left, length-map, map-append, get_or-map}
use Rattle.std.proofs.lemmas.List.Elements.{All-get_or, All-filter, filter-append}
use Rattle.std.proofs.lemmas.Simd.{map-map}
use Rattle.pr_base.specs.declared.ink.Ink.TheVariants.{K}
use Rattle.plan_json.specs.Data.{PlanData, plate_height}
use Rattle.plan_json.specs.Plan.{IsPlan}
use Rattle.pr_base.specs.Ink.{slot_of}
use Rattle.plan_pages.specs.Pages.{page_count}
use Rattle.plan_rows.specs.declared.group.Group.{Group}
use Rattle.plan_rows.specs.Inks.{process_inks, spot_inks, inks_of, has_site}
use Rattle.plan_rows.specs.Groups.{site_pages, is_first, group_of, pair_groups, section_groups, groups_of, numbered, row_count}
use Rattle.plan_rows.specs.Plates.{PlateOf, group_plates, site_plates}
use Rattle.plan_rows.specs.Paths.{path_of}
use Rattle.plan_rows.proofs.CountLemmas.{section_count}
use Rattle.plan_rows.proofs.GroupLemmas.{InPlan, groups_in_plan, plates_each, site_pages-size}
use Rattle.plan_rows.proofs.Names.{path_under, paths_tell, sections_apart}
use Rattle.plan_rows.proofs.SitesOf.{has_site_is, first_apart, filter-map, one_of}

-- ---- keys that strictly ascend within bounds

abbrev Runs : ℕ → ℕ → List ℕ → Type 0
Runs low high [] = low ≤ high
Runs low high (x ∷ xs) = (low ≤ x) × Runs (suc x) high xs

runs-lower : (low low' high : ℕ) (xs : List ℕ) → low ≤ low' → Runs low' high xs → Runs low high xs
runs-lower low low' high [] below up = omega arith
runs-lower low low' high (x ∷ xs) below up = ((let first = up.0 in omega arith), up.1)

runs-higher : (low high high' : ℕ) (xs : List ℕ) → high ≤ high' → Runs low high xs → Runs low high' xs
runs-higher low high high' [] above up = omega arith
runs-higher low high high' (x ∷ xs) above up = (up.0, runs-higher (suc x) high high' xs above up.1)

runs-append : (low middle high : ℕ) (xs ys : List ℕ) → Runs low middle xs → Runs middle high ys → Runs low high (xs ++ ys)
runs-append low middle high [] ys first second = runs-lower low middle high ys first second
runs-append low middle high (x ∷ xs) ys first second = (first.0, runs-append (suc x) middle high xs ys first.1 second)

runs-pieces : (f : ℕ → List ℕ) (at : ℕ → ℕ) (from n : ℕ) → ((k : ℕ) → from ≤ k → k < from + n → Runs (at k) (at (k + 1)) (f k)) → Runs (at from) (at (from + n)) (flat_map f (range_with_len from n))
runs-pieces f at from zero each = (let same : at (from + 0) ≡ at from = ap at (add-zero from) in omega arith)
runs-pieces f at from (suc n) each =
    let last : from + 1 + n ≡ from + suc n = omega arith in
    runs-append (at from) (at (from + 1)) (at (from + suc n)) (f from) (flat_map f (range_with_len (from + 1) n)) (each from (omega arith) (omega arith))
    (subst {A = ℕ} (λ m. Runs (at (from + 1)) (at m) (flat_map f (range_with_len (from + 1) n))) last (runs-pieces f at (from + 1) n (λ k low high. each k (omega arith) (omega arith))))

runs-at : (low high : ℕ) (xs : List ℕ) (i d : ℕ) → i < length xs → Runs low high xs → low ≤ get_or xs i d
runs-at low high [] i d within up = absurd (omega arith)
runs-at low high (x ∷ xs) zero d within up = up.0
runs-at low high (x ∷ xs) (suc i) d within up = (let rest = runs-at (suc x) high xs i d (omega arith) up.1 in let first = up.0 in omega arith)

runs-lt : (low high : ℕ) (xs : List ℕ) (i j d : ℕ) → i < j → j < length xs → Runs low high xs → get_or xs i d < get_or xs j d
runs-lt low high [] i j d before within up = absurd (omega arith)
runs-lt low high (x ∷ xs) i zero d before within up = absurd (omega arith)
runs-lt low high (x ∷ xs) zero (suc j) d before within up = runs-at (suc x) high xs j d (omega arith) up.1
runs-lt low high (x ∷ xs) (suc i) (suc j) d before within up = runs-lt (suc x) high xs i j d (omega arith) (omega arith) up.1

-- ---- the groups of a site

-- a key that orders the pairs of all sections
abbrev pub pair_key : Group → ℕ
pair_key group = group.section * 1000 + group.pair

one_runs : (f : ℕ → ℕ) (k : ℕ) (xs : List ℕ) → length xs ≤ 1 → ((x : ℕ) → f x ≡ k) → Runs k (k + 1) (map f xs)
one_runs f k [] few each = omega arith
one_runs f k (x ∷ []) few each = (let here = each x in (omega arith, omega arith))
one_runs f k (x ∷ y ∷ xs) few each = absurd (omega arith)

key_is : (plan : PlanData) (section pair : ℕ) (pages : List (ℕ × ℕ)) (site : ℕ) → pair_key (group_of plan section pair pages site) ≡ section * 1000 + pair
unfolding group_of
key_is plan section pair pages site = refl

pair_runs : (plan : PlanData) (section pair site : ℕ) → site < length plan.sites
    → Runs (section * 1000 + pair) (section * 1000 + pair + 1) (map pair_key (filter (λ group. has_site group site) (pair_groups plan section pair)))
unfolding pair_groups
pair_runs plan section pair site within =
    let pages = site_pages plan section pair in
    let of : ℕ → Group = group_of plan section pair pages in
    let size : length pages ≡ length plan.sites = site_pages-size plan section pair in
    let firsts : List ℕ = filter (is_first pages) (range_with_len 0 (length plan.sites)) in
    let kept : List ℕ = filter (λ a. has_site (of a) site) firsts in
    let few : length kept ≤ 1 = one_of (λ a. has_site (of a) site) (is_first pages) 0 (length plan.sites)
    (λ a b _ before high first left right. first_apart pages a b site before (omega arith) first
    (sym (has_site_is plan section pair pages a site (omega arith)) ∙ left) (sym (has_site_is plan section pair pages b site (omega arith)) ∙ right)) in
    let keys : List ℕ → Type 0 = λ ks. Runs (section * 1000 + pair) (section * 1000 + pair + 1) ks in
    subst keys (sym (ap (λ gs. map pair_key gs) (filter-map (λ group. has_site group site) of firsts) ∙ map-map pair_key of kept))
    (one_runs (λ a. pair_key (of a)) (section * 1000 + pair) kept few (λ a. key_is plan section pair pages a))

map-filter-flat : {X : Type 0} (key : Group → ℕ) (test : Group → Bool) (f : X → List Group) (xs : List X) → map key (filter test (flat_map f xs)) ≡ flat_map (λ x. map key (filter test (f x))) xs
map-filter-flat key test f [] = refl
map-filter-flat key test f (x ∷ xs) =
    ap (λ gs. map key gs) (filter-append test (f x) (flat_map f xs)) ∙ map-append key (filter test (f x)) (filter test (flat_map f xs))
    ∙ ap (λ ks. map key (filter test (f x)) ++ ks) (map-filter-flat key test f xs)

section_runs : (plan : PlanData) (section site : ℕ) → IsPlan plan → section < length plan.sections → site < length plan.sites
    → Runs (section * 1000) ((section + 1) * 1000) (map pair_key (filter (λ group. has_site group site) (section_groups plan section)))
unfolding section_groups
section_runs plan section site is section_within within =
    let most = (section_count plan section is section_within).within.most in
    let pairs : page_count plan section / 2 ≤ 64 = omega arith in
    let test : Group → Bool = λ group. has_site group site in
    let keys : ℕ → List ℕ = λ pair. map pair_key (filter test (pair_groups plan section pair)) in
    let run = runs-pieces keys (λ pair. section * 1000 + pair) 1 (page_count plan section / 2)
    (λ pair _ _. subst {A = ℕ} (λ m. Runs (section * 1000 + pair) m (keys pair)) (omega arith) (pair_runs plan section pair site within)) in
    let all : List ℕ → Type 0 = λ ks. Runs (section * 1000) ((section + 1) * 1000) ks in
    let whole = flat_map keys (range_with_len 1 (page_count plan section / 2)) in
    subst all (sym (map-filter-flat pair_key test (pair_groups plan section) (range_with_len 1 (page_count plan section / 2))))
    (runs-lower (section * 1000) (section * 1000 + 1) ((section + 1) * 1000) whole (omega arith)
    (runs-higher (section * 1000 + 1) (section * 1000 + (1 + page_count plan section / 2)) ((section + 1) * 1000) whole (omega arith) run))

-- the keys do not depend on the numbers of first rows
keys-numbered : (height first : ℕ) (test : Group → Bool) (groups : List Group) → ((group : Group) (n : ℕ) → test (record group { first = n }) ≡ test group)
    → map pair_key (filter test (numbered height first groups)) ≡ map pair_key (filter test groups)
keys-numbered height first test [] same = refl
keys-numbered height first test (group ∷ groups) same =
    let others = filter test (numbered height (first + row_count height group) groups) in
    ap (λ b. map pair_key (cond b (record group { first = first } ∷ others) others)) (same group first)
    ∙ by_test (test group) (keys-numbered height (first + row_count height group) test groups same)
  where
    by_test : (b : Bool) → map pair_key (filter test (numbered height (first + row_count height group) groups)) ≡ map pair_key (filter test groups)
        → map pair_key (cond b (record group { first = first } ∷ filter test (numbered height (first + row_count height group) groups)) (filter test (numbered height (first + row_count height group) groups)))
        ≡ map pair_key (cond b (group ∷ filter test groups) (filter test groups))
    by_test true rest = ap (λ ks. pair_key group ∷ ks) rest
    by_test false rest = rest

groups_run : (plan : PlanData) (site : ℕ) → IsPlan plan → site < length plan.sites
    → Runs 0 (length plan.sections * 1000) (map pair_key (filter (λ group. has_site group site) (groups_of plan)))
unfolding groups_of
groups_run plan site is within =
    let test : Group → Bool = λ group. has_site group site in
    let all : List Group = flat_map (section_groups plan) (range_with_len 0 (length plan.sections)) in
    let keys : List ℕ → Type 0 = λ ks. Runs 0 (length plan.sections * 1000) ks in
    let pieces : ℕ → List ℕ = λ section. map pair_key (filter test (section_groups plan section)) in
    let whole : 0 + length plan.sections ≡ length plan.sections = omega arith in
    subst keys (sym (keys-numbered (plate_height plan) 0 test all (λ group n. refl) ∙ map-filter-flat pair_key test (section_groups plan) (range_with_len 0 (length plan.sections))))
    (subst {A = ℕ} (λ n. Runs 0 (n * 1000) (flat_map pieces (range_with_len 0 (length plan.sections)))) whole
    (runs-pieces pieces (λ section. section * 1000) 0 (length plan.sections) (λ section _ high. section_runs plan section site is (omega arith) within)))

-- ---- the plates of a site

-- a key that orders the plates of all pairs
abbrev pub plate_key : PlateOf → ℕ
plate_key plate = pair_key plate.0 * 8 + slot_of plate.1

inks_run : (colour spot : Bool) (k : ℕ) → Runs (k * 8) (suc k * 8) (map (λ ink. k * 8 + slot_of ink) (process_inks colour ++ spot_inks spot))
inks_run true true k = (omega arith, (omega arith, (omega arith, (omega arith, (omega arith, omega arith)))))
inks_run true false k = (omega arith, (omega arith, (omega arith, (omega arith, omega arith))))
inks_run false true k = (omega arith, (omega arith, omega arith))
inks_run false false k = (omega arith, omega arith)

plates_run : (low high : ℕ) (groups : List Group) → Runs low high (map pair_key groups) → Runs (low * 8) (high * 8) (map plate_key (flat_map group_plates groups))
plates_run low high [] up = omega arith
plates_run low high (group ∷ groups) up =
    let k = pair_key group in
    let others = map plate_key (flat_map group_plates groups) in
    let first = up.0 in
    let keys : List ℕ → Type 0 = λ ks. Runs (low * 8) (high * 8) ks in
    subst keys (sym (map-append plate_key (group_plates group) (flat_map group_plates groups) ∙ ap (λ ks. ks ++ others) (map-map plate_key (λ ink. (group, ink)) (inks_of group))))
    (runs-lower (low * 8) (k * 8) (high * 8) _ (omega arith)
    (runs-append (k * 8) (suc k * 8) (high * 8) (map (λ ink. k * 8 + slot_of ink) (inks_of group)) others (inks_run group.colour group.spot k) (plates_run (suc k) high groups up.1)))

-- no two plates of a site have the same path
pub paths_distinct : (plan : PlanData) (out : List ℕ) (site : ℕ) → IsPlan plan → site < length plan.sites → AllPairs (λ a b. a ≢ b) (map (λ (plate : PlateOf). path_of plan out site plate.0 plate.1) (site_plates plan site))
unfolding site_plates
paths_distinct plan out site is within i j d before behind same =
    let groups : List Group = filter (λ group. has_site group site) (groups_of plan) in
    let plates : List PlateOf = flat_map group_plates groups in
    let path : PlateOf → List ℕ = λ plate. path_of plan out site plate.0 plate.1 in
    let any : PlateOf = (record { section = 0; pair = 0; left = 0; right = 0; sites = 0; colour = false; spot = false; first = 0 }, K) in
    let in_plan = All-filter (λ group. has_site group site) (InPlan plan) (groups_of plan) (groups_in_plan plan is) in
    let each = plates_each (λ (plate : PlateOf). InPlan plan plate.0) groups (λ k d less. λ _ _ _. in_plan k d less) in
    let size : length (map path plates) ≡ length plates = length-map plates path in
    let a : PlateOf = get_or plates i any in
    let b : PlateOf = get_or plates j any in
    let is_a = All-get_or (λ (plate : PlateOf). InPlan plan plate.0) plates i any (omega arith) each in
    let is_b = All-get_or (λ (plate : PlateOf). InPlan plan plate.0) plates j any (omega arith) each in
    let few_a = is_a.pair in
    let few_b = is_b.pair in
    let here : path a ≡ path b =
    sym (get_or-map path plates i any d (omega arith)) ∙ same ∙ get_or-map path plates j any d (omega arith) in
    let tells = paths_tell plan plan site site a.0 b.0 a.1 b.1
    (record { plan_is = is; of_site = within; of_section = is_a.section; digits = omega arith })
    (record { plan_is = is; of_site = within; of_section = is_b.section; digits = omega arith })
    (append_cancel_left out _ _ (sym (path_under plan out site a.0 a.1) ∙ here ∙ path_under plan out site b.0 b.1)) in
    let section = sections_apart plan a.0.section b.0.section is is_a.section is_b.section tells.section_named in
    let keys : plate_key a ≡ plate_key b =
    ap (λ s. (s * 1000 + a.0.pair) * 8 + slot_of a.1) section
    ∙ ap (λ p. (b.0.section * 1000 + p) * 8 + slot_of a.1) tells.pair_is
    ∙ ap (λ k. (b.0.section * 1000 + b.0.pair) * 8 + slot_of k) tells.ink_is in
    let run = plates_run 0 (length plan.sections * 1000) groups (groups_run plan site is within) in
    let apart : get_or (map plate_key plates) i 0 < get_or (map plate_key plates) j 0 =
    runs-lt (0 * 8) (length plan.sections * 1000 * 8) (map plate_key plates) i j 0 before (omega (arith, length-map plates plate_key)) run in
    let key_a : get_or (map plate_key plates) i 0 ≡ plate_key a = get_or-map plate_key plates i any 0 (omega arith) in
    let key_b : get_or (map plate_key plates) j 0 ≡ plate_key b = get_or-map plate_key plates j any 0 (omega arith) in
    absurd (omega arith)
