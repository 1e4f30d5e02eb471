-- The rows that a site keeps, in terms of the plan.
use Rattle.std.proofs.Common.{◌≡◌, ℕ, zero, suc, ◌+◌, ◌-◌, ◌<◌, ◌≤◌, Bool, true, false, cond, ◌⊎◌, inl, inr, List, [], ◌∷◌, ◌++◌, length, map, take, filter, get_or, Some, refl, sym, ap, subst, ◌∙◌, ⊎_elim, arith}
use Rattle.std.specs.Prelude.{Contains, count_by, nat_lt, slice_get}
use Rattle.std.specs.List.{flat_map, range_with_len}
use Rattle.std.specs.Option.{option_map_or}
use Rattle.std.proofs.lemmas.Bool.{both_ways, cases_Bool, cond-true, cond-false}
use Rattle.std.proofs.lemmas.List.{get_or-map, get_or_default, length-map}
use Rattle.std.proofs.lemmas.List.FromFn.{length-range_with_len, get_or-range_with_len}
use Rattle.std.proofs.lemmas.List.Sums.{sum_by-cons}
use Rattle.std.proofs.lemmas.Option.{same_Some, slice_get_within, slice_get-get_or, get_or_from_slice_get}
use Rattle.ring_lanes.specs.declared.source.Source.{Source}
use Rattle.pr_base.specs.declared.ink.Ink.{Ink}
use Rattle.pr_base.specs.declared.ink.Ink.TheVariants.{K}
use Rattle.plan_json.specs.Data.{PlanData, plate_height}
use Rattle.plan_json.specs.Plan.{IsPlan}
use Rattle.plan_rows.specs.declared.group.Group.{Group}
use Rattle.plan_rows.specs.declared.place.RowPlace.{RowPlace}
use Rattle.plan_rows.specs.Inks.{inks_of, has_site}
use Rattle.plan_rows.specs.Groups.{groups_of}
use Rattle.plan_rows.specs.Plates.{PlateOf, group_plates, site_plates, last_row, plates_done}
use Rattle.plan_rows.specs.Rows.{row_places, row_number, keeps_row, is_of}
use Rattle.plan_rows.proofs.Places.{IsRowAt, IsSamePlace, row_found, row_unique}
use Rattle.site_agent.specs.declared.plate.SitePlate.{SitePlate}
use Rattle.site_agent.specs.declared.kept.LeftCause.{LeftCause}
use Rattle.site_agent.specs.Job.{SiteJob, number_in, last_in}
use Rattle.site_agent.specs.Given.{finished_count, is_kept, kept_below, IsRowOf, IsNoRow}
use Rattle.site_agent.specs.Kept.{IsCauseAt}
use Rattle.site_agent.specs.Plan.{plate_of, job_of, drawn_rows, FitsLeft}
use Rattle.site_agent.specs.Stands.{files_of, files_below, taken_below}
use Rattle.site_agent.proofs.Runs.{files_are, number-is}
use Rattle.site_agent.proofs.Steps.{is_kept-row, is_kept-none}

-- ---- lists

contains-left : {X : Type 0} (xs ys : List X) (x : X) → Contains xs x → Contains (xs ++ ys) x
contains-left [] ys x (k, within, is) = absurd (omega arith)
contains-left (z ∷ xs) ys x (zero, within, is) = (0, omega arith, is)
contains-left (z ∷ xs) ys x (suc k, within, is) = let rest = contains-left xs ys x (k, omega arith, is) in (suc rest.0, (let less = rest.1 in omega (arith, less)), rest.2)

contains-right : {X : Type 0} (xs ys : List X) (x : X) → Contains ys x → Contains (xs ++ ys) x
contains-right [] ys x there = there
contains-right (z ∷ xs) ys x there = let rest = contains-right xs ys x there in (suc rest.0, (let less = rest.1 in omega (arith, less)), rest.2)

contains-head : {X : Type 0} (x : X) (xs : List X) → Contains (x ∷ xs) x
contains-head x xs = (0, omega arith, refl)

contains-tail : {X : Type 0} (z x : X) (xs : List X) → Contains xs x → Contains (z ∷ xs) x
contains-tail z x xs (k, within, is) = (suc k, omega arith, is)

contains-flat : {X Y : Type 0} (f : X → List Y) (xs : List X) (x : X) (y : Y) → Contains xs x
    → Contains (f x) y → Contains (flat_map f xs) y
contains-flat f [] x y (k, within, is) there = absurd (omega arith)
contains-flat {X} {Y} f (z ∷ xs) x y (zero, within, is) there = contains-left (f z) (flat_map f xs) y (subst (λ (w : X). Contains (f w) y) (sym is) there)
contains-flat f (z ∷ xs) x y (suc k, within, is) there = contains-right (f z) (flat_map f xs) y (contains-flat f xs x y (k, omega arith, is) there)

contains-filter : {X : Type 0} (test : X → Bool) (xs : List X) (x : X) → test x ≡ true → Contains xs x
    → Contains (filter test xs) x
contains-filter test [] x passes (k, within, is) = absurd (omega arith)
contains-filter {X} test (z ∷ xs) x passes (zero, within, is) =
    subst (λ (list : List X). Contains list x) (sym (cond-true (test z) (z ∷ filter test xs) (filter test xs) (ap test is ∙ passes))) (0, omega arith, is)
contains-filter {X} test (z ∷ xs) x passes (suc k, within, is) =
    let rest = contains-filter test xs x passes (k, omega arith, is) in
    ⊎_elim
    (λ (pass : test z ≡ true). subst (λ (list : List X). Contains list x) (sym (cond-true (test z) (z ∷ filter test xs) (filter test xs) pass)) (contains-tail z x (filter test xs) rest))
    (λ (fail : test z ≡ false). subst (λ (list : List X). Contains list x) (sym (cond-false (test z) (z ∷ filter test xs) (filter test xs) fail)) rest)
    (cases_Bool (test z))

contains-map : {X Y : Type 0} (f : X → Y) (xs : List X) (x : X) → Contains xs x → Contains (map f xs) (f x)
contains-map f xs x (k, within, is) = (k, omega (arith, length-map xs f), get_or-map f xs k x (f x) within ∙ ap f is)

-- the converse
from-flat : {X Y : Type 0} (f : X → List Y) (xs : List X) (y : Y) → Contains (flat_map f xs) y
    → (x : X) × Contains xs x × Contains (f x) y
from-flat f [] y (k, within, is) = absurd (omega arith)
from-flat {X} {Y} f (x ∷ xs) y there = ⊎_elim
    (λ (here : Contains (f x) y). (x, contains-head x xs, here))
    (λ (later : Contains (flat_map f xs) y). let rest = from-flat f xs y later in (rest.0, contains-tail x rest.0 xs rest.1, rest.2))
    (from-append (f x) (flat_map f xs) y there) where
      from-append : (xs ys : List Y) (y : Y) → Contains (xs ++ ys) y → Contains xs y ⊎ Contains ys y
      from-append [] ys y there' = inr there'
      from-append (z ∷ zs) ys y (zero, within, is) = inl (0, omega arith, is)
      from-append (z ∷ zs) ys y (suc k, within, is) =
          ⊎_elim (λ (a : Contains zs y). inl (contains-tail z y zs a)) (λ (b : Contains ys y). inr b) (from-append zs ys y (k, omega arith, is))

from-filter : {X : Type 0} (test : X → Bool) (xs : List X) (x : X) → Contains (filter test xs) x
    → Contains xs x × (test x ≡ true)
from-filter test [] x (k, within, is) = absurd (omega arith)
from-filter {X} test (z ∷ xs) x there =
    ⊎_elim
    (λ (pass : test z ≡ true). first pass (λ (later : Contains (filter test xs) x). from-filter test xs x later) (subst (λ (list : List X). Contains list x) (cond-true (test z) (z ∷ filter test xs) (filter test xs) pass) there))
    (λ (fail : test z ≡ false). let rest = from-filter test xs x (subst (λ (list : List X). Contains list x) (cond-false (test z) (z ∷ filter test xs) (filter test xs) fail) there) in (contains-tail z x xs rest.0, rest.1))
    (cases_Bool (test z)) where
      first : test z ≡ true → (Contains (filter test xs) x → Contains xs x × (test x ≡ true))
          → Contains (z ∷ filter test xs) x → Contains (z ∷ xs) x × (test x ≡ true)
      first pass further (zero, within, is) = ((0, omega arith, is), ap test (sym is) ∙ pass)
      first pass further (suc k, within, is) = let rest = further (k, omega arith, is) in (contains-tail z x xs rest.0, rest.1)

from-map : {X Y : Type 0} (f : X → Y) (xs : List X) (y : Y) → Contains (map f xs) y
    → (x : X) × Contains xs x × (f x ≡ y)
from-map f [] y (k, within, is) = absurd (omega arith)
from-map f (x ∷ xs) y (zero, within, is) = (x, contains-head x xs, is)
from-map f (x ∷ xs) y (suc k, within, is) = let rest = from-map f xs y (k, omega arith, is) in (rest.0, contains-tail x rest.0 xs rest.1, rest.2)

-- ---- the plates of a site

plate-of : (plan : PlanData) (site : ℕ) (group : Group) (ink : Ink) → Contains (groups_of plan) group
    → has_site group site ≡ true → Contains (inks_of group) ink
    → Contains (site_plates plan site) (group, ink)
unfolding site_plates
plate-of plan site group ink of printed inked =
    contains-flat group_plates (filter (λ g. has_site g site) (groups_of plan)) group (group, ink)
    (contains-filter (λ g. has_site g site) (groups_of plan) group printed of)
    (contains-map (λ i. (group, i)) (inks_of group) ink inked)

record IsPlateOf (plan : PlanData) (site : ℕ) (plate : PlateOf) : Type 0 where
  of : Contains (groups_of plan) plate.0
  printed : has_site plate.0 site ≡ true
  inked : Contains (inks_of plate.0) plate.1

plate-is : (plan : PlanData) (site : ℕ) (plate : PlateOf) → Contains (site_plates plan site) plate
    → IsPlateOf plan site plate
unfolding site_plates
plate-is plan site plate there =
    let found = from-flat group_plates (filter (λ g. has_site g site) (groups_of plan)) plate there in
    let group : Group = found.0 in
    let kept = from-filter (λ g. has_site g site) (groups_of plan) group found.1 in
    let inked = from-map (λ i. (group, i)) (inks_of group) plate found.2 in
    subst (λ (p : PlateOf). IsPlateOf plan site p) inked.2 (record { of = kept.0; printed = kept.1; inked = inked.1 })

-- ---- rows

row-of : (plan : PlanData) (out : List ℕ) (site n y : ℕ) (plate : PlateOf)
    (there : Contains (site_plates plan site) plate) → y < plate_height plan
    → n ≡ row_number plate.0 y plate.1 → IsRowOf (job_of plan out site) n there.0 y
row-of plan out site n y plate (k, within, is) below number = record {
  within = omega (arith, length-map (site_plates plan site) (plate_of plan out site));
  below = below;
  number = λ d. ap (λ p. number_in p y) (get_or-map (plate_of plan out site) (site_plates plan site) k plate d within ∙ ap (plate_of plan out site) is) ∙ number-is plan out site y plate ∙ sym number;
}

-- a row of a group that the site does not print
no-row : (plan : PlanData) (out : List ℕ) (site n index y : ℕ) (group : Group) (ink : Ink) → IsPlan plan
    → IsRowAt plan n index group y ink → has_site group site ≡ false → IsNoRow (job_of plan out site) n
no-row plan out site n index y group ink is at other = record {
  none = λ k z d within below same.
      let inside : k < length (site_plates plan site) = omega (arith, length-map (site_plates plan site) (plate_of plan out site)) in
      let plate : PlateOf = get_or (site_plates plan site) k (group, ink) in
      let there : IsPlateOf plan site plate = plate-is plan site plate (k, inside, get_or_default (site_plates plan site) k plate (group, ink) inside) in
      let here : number_in (plate_of plan out site plate) z ≡ n = ap (λ p. number_in p z) (sym (get_or-map (plate_of plan out site) (site_plates plan site) k (group, ink) d inside)) ∙ same in
      let of = there.of in
      let found : IsRowAt plan n of.0 plate.0 z plate.1 = record { of = slice_get-get_or (groups_of plan) of.0 plate.0 of.1 ∙ ap Some of.2; top = below; printed = there.inked; number = sym here ∙ number-is plan out site z plate } in
      let unique : IsSamePlace index of.0 y z ink plate.1 = row_unique plan n index of.0 group plate.0 y z ink plate.1 is at found in
      let equal : group ≡ plate.0 = same_Some group plate.0 (sym at.of ∙ ap (slice_get (groups_of plan)) unique.same_group ∙ found.of) in
      both_ways (has_site group site) other (ap (λ g. has_site g site) equal ∙ there.printed);
}

-- a site's job has exactly the rows that the site keeps of the plan
pub kept_is : (plan : PlanData) (out : List ℕ) (site n : ℕ) → IsPlan plan → n < length (row_places plan)
    → is_kept (job_of plan out site) n ≡ keeps_row plan site n
kept_is plan out site n is within = by_place (get_or (row_places plan) n any) (slice_get-get_or (row_places plan) n any within) where
  any : RowPlace
  any = record { group = 0; y = 0; ink = K; slot = 0 }

  none : SitePlate
  none = record { path = []; first = 0; step = 0; slot = 0 }

  by_place : (place : RowPlace) → slice_get (row_places plan) n ≡ Some place
      → is_kept (job_of plan out site) n ≡ keeps_row plan site n
  by_place place there =
      let found = row_found plan n place is there in
      let group : Group = found.0 in
      let at : IsRowAt plan n place.group group place.y place.ink = found.1 in
      let keeps : keeps_row plan site n ≡ has_site group site =
      ap (λ p. option_map_or (λ q. is_of (groups_of plan) site q.group) p false) there ∙ ap (λ g. option_map_or (λ h. has_site h site) g false) at.of in
      ⊎_elim
      (λ (printed : has_site group site ≡ true).
      let of : Contains (groups_of plan) group = (place.group, slice_get_within (groups_of plan) place.group group at.of, get_or_from_slice_get (groups_of plan) place.group group group at.of) in
      let plate = plate-of plan site group place.ink of printed at.printed in
      is_kept-row (job_of plan out site) n plate.0 place.y none (row-of plan out site n place.y (group, place.ink) plate at.top at.number) ∙ sym (keeps ∙ printed))
      (λ (other : has_site group site ≡ false).
      is_kept-none (job_of plan out site) n (no-row plan out site n place.group place.y group place.ink is at other) ∙ sym (keeps ∙ other))
      (cases_Bool (has_site group site))

filter-alike : {X : Type 0} (p q : X → Bool) (xs : List X)
    → ((k : ℕ) (d : X) → k < length xs → p (get_or xs k d) ≡ q (get_or xs k d)) → filter p xs ≡ filter q xs
filter-alike p q [] alike = refl
filter-alike p q (x ∷ xs) alike =
    ap (λ b. cond b (x ∷ filter p xs) (filter p xs)) (alike 0 x (omega arith))
    ∙ ap (λ list. cond (q x) (x ∷ list) list) (filter-alike p q xs (λ k d less. alike (suc k) d (omega arith)))

-- the rows taken below row m are those that the site keeps of the plan
pub drawn_below : (plan : PlanData) (out : List ℕ) (site : ℕ) (source : Source) (m : ℕ) → IsPlan plan
    → m ≤ length (row_places plan)
    → taken_below (job_of plan out site) source m
    ≡ map (λ n. (n, source)) (filter (keeps_row plan site) (range_with_len 0 m))
unfolding kept_below
drawn_below plan out site source m is most =
    ap (map (λ n. (n, source))) (filter-alike (is_kept (job_of plan out site)) (keeps_row plan site) (range_with_len 0 m)
    (λ k d less.
    let within : k < m = omega (arith, length-range_with_len 0 m) in
    let there : get_or (range_with_len 0 m) k d ≡ k = get_or-range_with_len 0 m k d within ∙ omega arith in
    ap (is_kept (job_of plan out site)) there ∙ kept_is plan out site k is (omega arith) ∙ ap (keeps_row plan site) (sym there)))

-- after the last row, all rows that the site keeps have been taken
pub drawn_at_end : (plan : PlanData) (out : List ℕ) (site : ℕ) (source : Source) → IsPlan plan
    → taken_below (job_of plan out site) source (length (row_places plan)) ≡ drawn_rows plan site source
drawn_at_end plan out site source is = drawn_below plan out site source (length (row_places plan)) is (omega arith)

-- ---- a site that dropped out

count_by-map : {X Y : Type 0} (p : Y → Bool) (q : X → Bool) (f : X → Y) (xs : List X)
    → ((x : X) → p (f x) ≡ q x) → count_by p (map f xs) ≡ count_by q xs
count_by-map p q f [] same = refl
count_by-map p q f (x ∷ xs) same =
    sum_by-cons (λ y. cond (p y) 1 0) (f x) (map f xs)
    ∙ ap (λ b. cond b 1 0 + count_by p (map f xs)) (same x)
    ∙ ap (λ n. cond (q x) 1 0 + n) (count_by-map p q f xs same)
    ∙ sym (sum_by-cons (λ y. cond (q y) 1 0) x xs)

pub finished_is : (plan : PlanData) (out : List ℕ) (site n : ℕ)
    → finished_count (job_of plan out site) n ≡ plates_done plan site n
unfolding finished_count
finished_is plan out site n =
    count_by-map (λ p. nat_lt (last_in (plate_height plan) p) n) (λ plate. nat_lt (last_row plan plate) n) (plate_of plan out site) (site_plates plan site)
    (λ plate. ap (λ m. nat_lt m n) (number-is plan out site (plate_height plan - 1) plate))

-- its cause, and the plates that its rack gained, fit the plan
pub fits_left : (plan : PlanData) (rows : List (List ℕ)) (out : List ℕ) (site n : ℕ) (cause : LeftCause)
    → IsPlan plan → n < length (row_places plan) → IsCauseAt (job_of plan out site) n cause
    → FitsLeft plan rows out site cause (files_below (job_of plan out site) rows n)
fits_left plan rows out site n cause is within at =
    let job : SiteJob = job_of plan out site in
    let none : SitePlate = record { path = []; first = 0; step = 0; slot = 0 } in
    let inside : at.index < length (site_plates plan site) = let less : at.index < length job.plates = at.is.within in omega (arith, length-map (site_plates plan site) (plate_of plan out site)) in
    let some : PlateOf = (record { section = 0; pair = 0; left = 0; right = 0; sites = 0; colour = false; spot = false; first = 0 }, K) in
    let plate : PlateOf = get_or (site_plates plan site) at.index some in
    let there : get_or job.plates at.index none ≡ plate_of plan out site plate = get_or-map (plate_of plan out site) (site_plates plan site) at.index some none inside in
    record {
      keeps = ap (keeps_row plan site) at.row ∙ sym (kept_is plan out site n is within) ∙ is_kept-row job n at.index at.y none at.is;
      plate = plate;
      y = at.y;
      below = at.is.below;
      of = (at.index, inside, get_or_default (site_plates plan site) at.index plate some inside);
      number = at.row ∙ sym (at.is.number none) ∙ ap (λ p. number_in p at.y) there ∙ number-is plan out site at.y plate;
      path = at.path none ∙ ap (λ p. p.path) there;
      begins = at.begins;
      ends = at.ends;
      plates = at.plates ∙ finished_is plan out site n ∙ ap (plates_done plan site) (sym at.row);
      grown' = ap (λ k. take k (files_of job rows)) (sym at.plates) ∙ ap (take cause.plates) (files_are plan rows out site);
    }
