-- The plates of a site, derived from a plan, are in order.
use Rattle.std.proofs.Common.{◌≡◌, ◌≢◌, ℕ, zero, suc, ◌+◌, ◌-◌, ◌*◌, ◌^◌, ◌<◌, ◌≤◌, Bool, List, [], ◌∷◌, ◌++◌, length, map, get_or, refl, sym, ap, subst, ◌∙◌, ⊎_elim, arith, lit<}
use Rattle.std.specs.Prelude.{All, AllPairs, count_by, filter, nat_lt, sum_by}
use Rattle.std.specs.List.{flat_map, range_with_len}
use Rattle.std.proofs.Math.Nat.{add-mul, one-mul, mul-le-mul_right}
use Rattle.std.proofs.lemmas.Bool.{cond_both, cases_lt}
use Rattle.std.proofs.lemmas.List.{get_or-map, get_or_append_left, get_or-append_right, length-append, length-map, map-append}
use Rattle.std.proofs.lemmas.List.Elements.{All-append, All-nil}
use Rattle.std.proofs.lemmas.List.Sums.{sum_by-cons}
use Rattle.pr_base.specs.declared.ink.Ink.{Ink}
use Rattle.pr_base.specs.declared.ink.Ink.TheVariants.{C, M, Y, K, S}
use Rattle.std.proofs.lemmas.Simd.{map-map}
use Rattle.plan_json.specs.Data.{PlanData, plate_height}
use Rattle.pr_base.specs.Number.{IsWithin}
use Rattle.plan_json.specs.Plan.{IsPlan}
use Rattle.pr_base.specs.Ink.{slot_of}
use Rattle.plan_rows.specs.declared.group.Group.{Group}
use Rattle.plan_rows.specs.Inks.{inks_of, ink_count, ink_place, has_site}
use Rattle.plan_rows.specs.Groups.{groups_of, section_groups, numbered, row_count}
use Rattle.plan_rows.specs.Plates.{group_plates, site_plates}
use Rattle.plan_rows.specs.Rows.{rows_of, row_places, row_total}
use Rattle.plan_rows.proofs.AddLemmas.{total-numbered}
use Rattle.plan_rows.proofs.Places.{height_within, ink_place-at, plan_is}
use Rattle.plan_rows.proofs.RowLemmas.{ink_count-within, total_is, total-most}
use Rattle.site_agent.specs.declared.plate.SitePlate.{SitePlate}
use Rattle.site_agent.specs.Job.{IsJob, IsBefore, IsSitePlate, number_in, last_in}
use Rattle.site_agent.specs.Plan.{plate_of, job_of}
use Rattle.site_agent.proofs.Givens.{number-within}

-- ---- lists

AllPairs-append : {X : Type 0} (R : X → X → Type 0) (xs ys : List X) → AllPairs R xs → AllPairs R ys
    → All (λ x. All (λ y. R x y) ys) xs → AllPairs R (xs ++ ys)
AllPairs-append R [] ys first second across i j d less within = second i j d less within
AllPairs-append R (x ∷ xs) ys first second across zero zero d less within = absurd (omega arith)
AllPairs-append {X} R (x ∷ xs) ys first second across zero (suc j) d less within =
    ⊎_elim
    (λ (inside : j < length xs). let P : X → Type 0 = R x in subst P (sym (get-left xs ys j d inside)) (first 0 (suc j) d (omega arith) (omega arith)))
    (λ (past : length xs ≤ j). let P : X → Type 0 = R x in subst P (sym (get-right xs ys j d past)) (across 0 x (omega arith) (j - length xs) d (omega (arith, length-append xs ys))))
    (cases_lt j (length xs)) where
      get-left : (xs ys : List X) (j : ℕ) (d : X) → j < length xs → get_or (xs ++ ys) j d ≡ get_or xs j d
      get-left xs ys j d inside = get_or_append_left xs ys d j inside

      get-right : (xs ys : List X) (j : ℕ) (d : X) → length xs ≤ j
          → get_or (xs ++ ys) j d ≡ get_or ys (j - length xs) d
      get-right xs ys j d past = get_or-append_right xs ys (length xs) j d refl past
AllPairs-append R (x ∷ xs) ys first second across (suc i) zero d less within = absurd (omega arith)
AllPairs-append R (x ∷ xs) ys first second across (suc i) (suc j) d less within =
    AllPairs-append R xs ys (λ a b e lt in'. first (suc a) (suc b) e (omega arith) (omega arith)) second (λ a e in'. across (suc a) e (omega arith)) i j d (omega arith) (omega arith)

All-both : {X : Type 0} (P Q : X → Type 0) (xs : List X) → ((x : X) → P x → Q x) → All P xs → All Q xs
All-both P Q xs weaker all k d less = weaker (get_or xs k d) (all k d less)

-- ---- two plates

-- all rows of one precede all of the other
before-apart : (height : ℕ) (plate next : SitePlate) → 0 < height → last_in height plate < next.first
    → IsBefore height plate next
before-apart height plate next high less =
    let from : number_in plate 0 ≤ last_in height plate = number-within plate 0 (height - 1) (omega arith) in
    let to : number_in next 0 ≤ last_in height next = number-within next 0 (height - 1) (omega arith) in
    record {
      starts = omega arith;
      ends = omega arith;
      apart = λ same. less;
      other = λ y z below inside same.
          let most : number_in plate y ≤ last_in height plate = number-within plate y (height - 1) (omega arith) in
          let least : number_in next 0 ≤ number_in next z = number-within next 0 z (omega arith) in omega arith;
    }

-- interleaved rows have different numbers
turns-apart : (base i j y z count : ℕ) → i < j → j < count → (base + i) + y * count ≢ (base + j) + z * count
turns-apart base i j y z count less within same =
    ⊎_elim
    (λ (first : y < z + 1). let most : y * count ≤ z * count = mul-le-mul_right count (omega arith) in omega arith)
    (λ (later : z + 1 ≤ y).
    let next : (z + 1) * count ≡ z * count + count = add-mul z 1 count ∙ ap (λ m. z * count + m) (one-mul count) in
    let most : (z + 1) * count ≤ y * count = mul-le-mul_right count later in omega arith)
    (cases_lt y (z + 1))

-- the plate in the ink at index k of a group
plate-in : (plan : PlanData) (out : List ℕ) (site : ℕ) (group : Group) (k : ℕ) (d : SitePlate) (ink : Ink)
    → k < ink_count group
    → get_or (map (λ i. plate_of plan out site (group, i)) (inks_of group)) k d
    ≡ plate_of plan out site (group, get_or (inks_of group) k ink)
plate-in plan out site group k d ink less = get_or-map (λ i. plate_of plan out site (group, i)) (inks_of group) k ink d less

slot-five : (ink : Ink) → slot_of ink < 5
slot-five C = lit< tt
slot-five M = lit< tt
slot-five Y = lit< tt
slot-five K = lit< tt
slot-five S = lit< tt

-- the range of row numbers of a group's plates
pub record IsInside (height from to : ℕ) (plate : SitePlate) : Type 0 where
  pub least : from ≤ plate.first
  pub most : last_in height plate < to
  pub is : IsSitePlate plate

group-each : (plan : PlanData) (out : List ℕ) (site height : ℕ) (group : Group) → 0 < height
    → All (IsInside height group.first (group.first + row_count height group))
    (map (λ i. plate_of plan out site (group, i)) (inks_of group))
group-each plan out site height group high k d less =
    let small : k < ink_count group = omega (arith, length-map (inks_of group) (λ i. plate_of plan out site (group, i))) in
    let P : SitePlate → Type 0 = IsInside height group.first (group.first + row_count height group) in
    let place : ink_place group (get_or (inks_of group) k K) ≡ k = ink_place-at group k K small in
    let some = (ink_count-within group).least in
    let rows : (height - 1 + 1) * ink_count group ≡ (height - 1) * ink_count group + ink_count group = add-mul (height - 1) 1 (ink_count group) ∙ ap (λ m. (height - 1) * ink_count group + m) (one-mul (ink_count group)) in
    let whole : height * ink_count group ≡ (height - 1) * ink_count group + ink_count group = ap (λ m. m * ink_count group) (omega arith) ∙ rows in
    subst P (sym (plate-in plan out site group k d K small))
    (record { least = omega arith; most = omega arith; is = record { slot = slot-five (get_or (inks_of group) k K); step = omega arith } })

group-order : (plan : PlanData) (out : List ℕ) (site height : ℕ) (group : Group) → 0 < height
    → AllPairs (IsBefore height) (map (λ i. plate_of plan out site (group, i)) (inks_of group))
group-order plan out site height group high i j d less within =
    let small : j < ink_count group = omega (arith, length-map (inks_of group) (λ i'. plate_of plan out site (group, i'))) in
    let one : Ink = get_or (inks_of group) i K in
    let two : Ink = get_or (inks_of group) j K in
    let place : ink_place group one ≡ i = ink_place-at group i K (omega arith) in
    let place' : ink_place group two ≡ j = ink_place-at group j K small in
    let P : SitePlate → Type 0 = λ p. IsBefore height p (get_or (map (λ i'. plate_of plan out site (group, i')) (inks_of group)) j d) in
    let Q : SitePlate → Type 0 = λ p. IsBefore height (plate_of plan out site (group, one)) p in
    subst P (sym (plate-in plan out site group i d K (omega arith)))
    (subst Q (sym (plate-in plan out site group j d K small))
    (record {
      starts = omega arith;
      ends = omega arith;
      apart = λ same. absurd (let equal : ink_place group one ≡ ink_place group two = ap (λ s. count_by (λ other. nat_lt (slot_of other) s) (inks_of group)) same in omega arith);
      other = λ y z below inside same. turns-apart group.first i j y z (ink_count group) less small
          (ap (λ k. (group.first + k) + y * ink_count group) (sym place) ∙ same ∙ ap (λ k. (group.first + k) + z * ink_count group) place');
    }))

-- ---- all plates of a site

inside-wider : (height from to low high : ℕ) (plate : SitePlate) → low ≤ from → to ≤ high
    → IsInside height from to plate → IsInside height low high plate
inside-wider height from to low high plate least most inside =
    let a : from ≤ plate.first = inside.least in
    let b : last_in height plate < to = inside.most in
    record { least = omega arith; most = omega arith; is = inside.is }

-- the plates of one more group
list-with : (plan : PlanData) (out : List ℕ) (site : ℕ) (group : Group) (groups : List Group)
    → map (plate_of plan out site) (flat_map group_plates (group ∷ groups))
    ≡ map (λ i. plate_of plan out site (group, i)) (inks_of group)
    ++ map (plate_of plan out site) (flat_map group_plates groups)
list-with plan out site group groups =
    map-append (plate_of plan out site) (group_plates group) (flat_map group_plates groups)
    ∙ ap (λ list. list ++ map (plate_of plan out site) (flat_map group_plates groups)) (map-map (plate_of plan out site) (λ i. (group, i)) (inks_of group))

sites-each : (plan : PlanData) (out : List ℕ) (site height from : ℕ) (test : Group → Bool)
    (groups : List Group) → 0 < height
    → All (IsInside height from (from + sum_by (row_count height) groups))
    (map (plate_of plan out site) (flat_map group_plates (filter test (numbered height from groups))))
sites-each plan out site height from test [] high = All-nil (IsInside height from (from + 0))
sites-each plan out site height from test (group ∷ groups) high =
    let first : Group = record group { first = from } in
    let next : ℕ = from + row_count height group in
    let others : List Group = filter test (numbered height next groups) in
    let all : sum_by (row_count height) (group ∷ groups) ≡ row_count height group + sum_by (row_count height) groups = sum_by-cons (row_count height) group groups in
    let to : ℕ = from + sum_by (row_count height) (group ∷ groups) in
    let P : SitePlate → Type 0 = IsInside height from to in
    let rest : All P (map (plate_of plan out site) (flat_map group_plates others)) =
    All-both (IsInside height next (next + sum_by (row_count height) groups)) P (map (plate_of plan out site) (flat_map group_plates others))
    (λ p inside. inside-wider height next (next + sum_by (row_count height) groups) from to p (omega arith) (omega arith) inside) (sites-each plan out site height next test groups high) in
    cond_both {A = List Group} (test first) (first ∷ others) others (λ gs. All P (map (plate_of plan out site) (flat_map group_plates gs)))
    (λ yes'. let Q : List SitePlate → Type 0 = All P in
    subst Q (sym (list-with plan out site first others))
    (All-append P (map (λ i. plate_of plan out site (first, i)) (inks_of first)) (map (plate_of plan out site) (flat_map group_plates others))
    (All-both (IsInside height from next) P (map (λ i. plate_of plan out site (first, i)) (inks_of first)) (λ p inside. inside-wider height from next from to p (omega arith) (omega arith) inside) (group-each plan out site height first high))
    rest))
    (λ no'. rest)

sites-order : (plan : PlanData) (out : List ℕ) (site height from : ℕ) (test : Group → Bool)
    (groups : List Group) → 0 < height
    → AllPairs (IsBefore height) (map (plate_of plan out site)
    (flat_map group_plates (filter test (numbered height from groups))))
sites-order plan out site height from test [] high = λ i j d less within. absurd (omega arith)
sites-order plan out site height from test (group ∷ groups) high =
    let first : Group = record group { first = from } in
    let next : ℕ = from + row_count height group in
    let others : List Group = filter test (numbered height next groups) in
    let rest : AllPairs (IsBefore height) (map (plate_of plan out site) (flat_map group_plates others)) = sites-order plan out site height next test groups high in
    let each : All (IsInside height next (next + sum_by (row_count height) groups)) (map (plate_of plan out site) (flat_map group_plates others)) = sites-each plan out site height next test groups high in
    let Q : List SitePlate → Type 0 = AllPairs (IsBefore height) in
    cond_both {A = List Group} (test first) (first ∷ others) others (λ gs. AllPairs (IsBefore height) (map (plate_of plan out site) (flat_map group_plates gs)))
    (λ yes'. subst Q (sym (list-with plan out site first others))
    (AllPairs-append (IsBefore height) (map (λ i. plate_of plan out site (first, i)) (inks_of first)) (map (plate_of plan out site) (flat_map group_plates others)) (group-order plan out site height first high) rest
    (All-both (IsInside height from next) (λ p. All (IsBefore height p) (map (plate_of plan out site) (flat_map group_plates others))) (map (λ i. plate_of plan out site (first, i)) (inks_of first))
    (λ p inside. All-both (IsInside height next (next + sum_by (row_count height) groups)) (IsBefore height p) (map (plate_of plan out site) (flat_map group_plates others))
    (λ q after. before-apart height p q high (let a : last_in height p < next = inside.most in let b : next ≤ q.first = after.least in omega arith)) each)
    (group-each plan out site height first high))))
    (λ no'. rest)

-- there are no more plates than rows
few-plates : (height total : ℕ) (plates : List SitePlate) (k : ℕ) (d : SitePlate)
    → AllPairs (IsBefore height) plates → k < length plates → k ≤ (get_or plates k d).first
few-plates height total plates zero d order within = omega arith
few-plates height total plates (suc k) d order within =
    let before : k ≤ (get_or plates k d).first = few-plates height total plates k d order (omega arith) in
    let next : (get_or plates k d).first < (get_or plates (suc k) d).first = (order k (suc k) d (omega arith) within).starts in
    omega arith

pub job_is : (plan : PlanData) (out : List ℕ) (site : ℕ) → IsPlan plan → IsJob (job_of plan out site)
unfolding site_plates groups_of
job_is plan out site is = record {
  width = (let wide = is.page_width.least in omega (arith, wide), is.width);
  height = (height.least, height.most);
  dpi = (is.dpi.least, is.dpi.most);
  each = All-both (IsInside (plate_height plan) 0 (0 + sum_by (row_count (plate_height plan)) raw)) IsSitePlate plates (λ p inside. inside.is) inside;
  order = order;
  within = All-both (IsInside (plate_height plan) 0 (0 + sum_by (row_count (plate_height plan)) raw)) (λ p. last_in (plate_height plan) p < length (row_places plan)) plates (λ p there. let most : last_in (plate_height plan) p < 0 + sum_by (row_count (plate_height plan)) raw = there.most in omega (arith, total)) inside;
  rows = omega (arith, most);
  few = by_length (length plates) refl;
} where
  height : IsWithin 1 65535 (plate_height plan)
  height = height_within plan is

  raw : List Group
  raw = flat_map (section_groups plan) (range_with_len 0 (length plan.sections))

  plates : List SitePlate
  plates = map (plate_of plan out site) (flat_map group_plates (filter (λ group. has_site group site) (numbered (plate_height plan) 0 raw)))

  inside : All (IsInside (plate_height plan) 0 (0 + sum_by (row_count (plate_height plan)) raw)) plates
  inside = sites-each plan out site (plate_height plan) 0 (λ group. has_site group site) raw height.least

  order : AllPairs (IsBefore (plate_height plan)) plates
  order = sites-order plan out site (plate_height plan) 0 (λ group. has_site group site) raw height.least

  total : length (row_places plan) ≡ sum_by (row_count (plate_height plan)) raw
  total = total_is (rows_of plan) ∙ total-numbered (plate_height plan) 0 raw

  most : length (row_places plan) ≤ 2684313600
  most = let h = total-most (row_total (rows_of plan)) (rows_of plan) (plan_is plan is) in omega (arith, h, total_is (rows_of plan))

  by_length : (n : ℕ) → n ≡ length plates → length plates < 2 ^ 32
  by_length zero e = omega arith
  by_length (suc n) e =
      let any : SitePlate = record { path = []; first = 0; step = 0; slot = 0 } in
      let first : n ≤ (get_or plates n any).first = few-plates (plate_height plan) 0 plates n any order (omega arith) in
      let last : last_in (plate_height plan) (get_or plates n any) < 0 + sum_by (row_count (plate_height plan)) raw = (inside n any (omega arith)).most in
      let from : number_in (get_or plates n any) 0 ≤ last_in (plate_height plan) (get_or plates n any) = number-within (get_or plates n any) 0 (plate_height plan - 1) (omega arith) in
      omega (arith, total, most)
