-- How one row changes which plates are open and finished.
use Rattle.std.proofs.Common.{◌≡◌, ◌≢◌, ℕ, ◌+◌, ◌-◌, ◌<◌, ◌≤◌, ◌⊎◌, true, false, cond, List, [], ◌∷◌, ◌++◌, length, map, filter, get_or, Some, None, Option, IfSome, inl, inr, subst, refl, sym, ap, ◌∙◌, ⊎_elim, arith}
use Rattle.std.specs.Option.{is_some}
use Rattle.std.specs.Prelude.{◌==◌, IfNone}
use Rattle.std.specs.List.{list_any, range_with_len}
use Rattle.std.proofs.lemmas.Bool.{both_ways, cases_eq, eq-eqb, ne_eqb}
use Rattle.std.proofs.lemmas.List.Folds.{list_any_at, list_any_none}
use Rattle.std.proofs.lemmas.List.FromFn.{length-range_with_len, get_or-range_with_len, length-map-range_with_len, map-range_with_len_more, filter_of_map_range_with_len_more}
use Rattle.std.proofs.lemmas.List.{append-nil, get_or_default, map-id}
use Rattle.site_agent.specs.declared.plate_row.PlateRow.{PlateRow}
use Rattle.site_agent.specs.declared.plate.SitePlate.{SitePlate}
use Rattle.site_agent.specs.Job.{SiteJob, IsJob, number_in, last_in}
use Rattle.site_agent.specs.Site.{IsPlateRow}
use Rattle.site_agent.specs.Given.{given, rows_of, open_in, finished_count, is_kept, kept_below, IsRowOf, IsNoRow}
use Rattle.site_agent.proofs.Givens.{number-less, given-at, given-next, given-stays}
use Rattle.site_agent.proofs.Opens.{plate_at, opened, closed, open_in-alike, StandsAs, open_in-plate, no_other, other-stays, others-closed, closed-cases, finished-is, finished-stays}

-- the plate of a row has `y` rows below it, and one more after it
pub row-given : (job : SiteJob) (n k y : ℕ) (d : SitePlate) → IsJob job → IsRowOf job n k y
    → given job.height (plate_at job k d) n ≡ y
row-given job n k y d is row = given-at job.height n y (plate_at job k d) (is.each k d row.within).step row.below (row.number d)

pub row-next : (job : SiteJob) (n k y : ℕ) (d : SitePlate) → IsJob job → IsRowOf job n k y
    → given job.height (plate_at job k d) (n + 1) ≡ y + 1
row-next job n k y d is row = given-next job.height n y (plate_at job k d) (is.each k d row.within).step row.below (row.number d)

-- ---- the slot of the row's plate

pub open-before : (job : SiteJob) (n k y : ℕ) (d : SitePlate) → IsJob job → IsRowOf job n k y → 0 < y
    → open_in job n (plate_at job k d).slot ≡ Some (plate_at job k d)
open-before job n k y d is row some =
    let here : given job.height (plate_at job k d) n ≡ y = row-given job n k y d is row in
    let below : y < job.height = row.below in
    opened job n k d is row.within (omega arith) (omega arith)

-- the other plates of the slot have none of their rows there, or all
closed-there : (job : SiteJob) (n k y j : ℕ) (d : SitePlate) → IsJob job → IsRowOf job n k y
    → j < length job.plates → (plate_at job j d).slot ≡ (plate_at job k d).slot
    → (given job.height (plate_at job k d) n ≡ 0) ⊎ (given job.height (plate_at job k d) n ≡ job.height)
    → (given job.height (plate_at job j d) n ≡ 0) ⊎ (given job.height (plate_at job j d) n ≡ job.height)
closed-there job n k y j d is row less same own =
    ⊎_elim
    (λ (here : j ≡ k). let P : ℕ → Type 0 = λ i. (given job.height (plate_at job i d) n ≡ 0) ⊎ (given job.height (plate_at job i d) n ≡ job.height) in subst P (sym here) own)
    (λ (other : j ≢ k). others-closed job n k y j d is row less other same)
    (cases_eq j k)

-- reading an entry that exists does not depend on the default
pub same-plate : (job : SiteJob) (k : ℕ) (d e : SitePlate) → k < length job.plates
    → plate_at job k d ≡ plate_at job k e
same-plate job k d e within = get_or_default job.plates k d e within

pub fresh-before : (job : SiteJob) (n k y : ℕ) (d : SitePlate) → IsJob job → IsRowOf job n k y → y ≡ 0
    → open_in job n (plate_at job k d).slot ≡ None
fresh-before job n k y d is row none =
    closed job n (plate_at job k d).slot
    (λ j e less same. closed-cases job.height n (plate_at job j e)
    (closed-there job n k y j e is row less (same ∙ ap (λ plate. plate.slot) (same-plate job k d e row.within)) (inl (row-given job n k y e is row ∙ none))))

pub open-after : (job : SiteJob) (n k y : ℕ) (d : SitePlate) → IsJob job → IsRowOf job n k y
    → y + 1 < job.height → open_in job (n + 1) (plate_at job k d).slot ≡ Some (plate_at job k d)
open-after job n k y d is row more =
    let here : given job.height (plate_at job k d) (n + 1) ≡ y + 1 = row-next job n k y d is row in
    opened job (n + 1) k d is row.within (omega arith) (omega arith)

pub last-after : (job : SiteJob) (n k y : ℕ) (d : SitePlate) → IsJob job → IsRowOf job n k y
    → y + 1 ≡ job.height → open_in job (n + 1) (plate_at job k d).slot ≡ None
last-after job n k y d is row last =
    closed job (n + 1) (plate_at job k d).slot
    (λ j e less same. closed-cases job.height (n + 1) (plate_at job j e)
    (⊎_elim
    (λ (here : j ≡ k). inr (ap (λ i. given job.height (plate_at job i e) (n + 1)) here ∙ row-next job n k y e is row ∙ last))
    (λ (other : j ≢ k).
    let stays : given job.height (plate_at job j e) (n + 1) ≡ given job.height (plate_at job j e) n = other-stays job n k y j e is row less other in
    let P : ℕ → Type 0 = λ g. (g ≡ 0) ⊎ (g ≡ job.height) in
    subst P (sym stays) (others-closed job n k y j e is row less other (same ∙ ap (λ plate. plate.slot) (same-plate job k d e row.within))))
    (cases_eq j k)))

-- ---- the other slots

pub open-other : (job : SiteJob) (n k y slot : ℕ) (d : SitePlate) → IsJob job → IsRowOf job n k y
    → slot ≢ (plate_at job k d).slot → open_in job (n + 1) slot ≡ open_in job n slot
open-other job n k y slot d is row apart =
    open_in-alike job (n + 1) n slot
    (λ j e less same. other-stays job n k y j e is row less
    (λ here. apart (sym same ∙ ap (λ i. (plate_at job i e).slot) here ∙ ap (λ plate. plate.slot) (same-plate job k e d row.within))))

-- the plate there has as many rows as before
pub given-other : (job : SiteJob) (n k y slot : ℕ) (d plate : SitePlate) → IsJob job → IsRowOf job n k y
    → slot ≢ (plate_at job k d).slot → open_in job n slot ≡ Some plate
    → given job.height plate (n + 1) ≡ given job.height plate n
given-other job n k y slot d plate is row apart open' =
    let there : StandsAs job slot plate = open_in-plate job n slot plate open' in
    let P : SitePlate → Type 0 = λ p. given job.height p (n + 1) ≡ given job.height p n in
    subst P there.is
    (other-stays job n k y there.index plate is row there.within
    (λ here. apart (sym there.slot ∙ sym (ap (λ p. p.slot) there.is) ∙ ap (λ i. (plate_at job i plate).slot) here ∙ ap (λ p. p.slot) (same-plate job k plate d row.within))))

-- ---- finished plates

pub finished-last : (job : SiteJob) (n k y : ℕ) → IsJob job → IsRowOf job n k y → y + 1 ≡ job.height
    → (finished_count job n ≡ k) × (finished_count job (n + 1) ≡ k + 1)
finished-last job n k y is row last =
    let within : k < length job.plates = row.within in (
      finished-is job n k (omega arith)
          (λ j d less. let order : last_in job.height (plate_at job j d) < last_in job.height (plate_at job k d) = (is.order j k d less within).ends in
          let here : last_in job.height (plate_at job k d) ≡ n = ap (number_in (plate_at job k d)) (omega arith) ∙ row.number d in omega arith)
          (λ j d from inside. let here : last_in job.height (plate_at job k d) ≡ n = ap (number_in (plate_at job k d)) (omega arith) ∙ row.number d in
          last-from j d from inside here),
      finished-is job (n + 1) (k + 1) (omega arith)
          (λ j d less. let here : last_in job.height (plate_at job k d) ≡ n = ap (number_in (plate_at job k d)) (omega arith) ∙ row.number d in
          let most : last_in job.height (plate_at job j d) ≤ last_in job.height (plate_at job k d) = last-to j d (omega arith) in omega arith)
          (λ j d from inside. let here : last_in job.height (plate_at job k d) ≡ n = ap (number_in (plate_at job k d)) (omega arith) ∙ row.number d in
          let order : last_in job.height (plate_at job k d) < last_in job.height (plate_at job j d) = (is.order k j d (omega arith) inside).ends in omega arith),
    ) where
      last-from : (j : ℕ) (d : SitePlate) → k ≤ j → j < length job.plates
          → last_in job.height (plate_at job k d) ≡ n → n ≤ last_in job.height (plate_at job j d)
      last-from j d from inside here =
          ⊎_elim
          (λ (e : j ≡ k). let same : last_in job.height (plate_at job j d) ≡ last_in job.height (plate_at job k d) = ap (λ i. last_in job.height (plate_at job i d)) e in omega arith)
          (λ (other : j ≢ k). let order : last_in job.height (plate_at job k d) < last_in job.height (plate_at job j d) = (is.order k j d (omega arith) inside).ends in omega arith)
          (cases_eq j k)

      last-to : (j : ℕ) (d : SitePlate) → j ≤ k
          → last_in job.height (plate_at job j d) ≤ last_in job.height (plate_at job k d)
      last-to j d to =
          ⊎_elim
          (λ (e : j ≡ k). let same : last_in job.height (plate_at job j d) ≡ last_in job.height (plate_at job k d) = ap (λ i. last_in job.height (plate_at job i d)) e in omega arith)
          (λ (other : j ≢ k). let order : last_in job.height (plate_at job j d) < last_in job.height (plate_at job k d) = (is.order j k d (omega arith) row.within).ends in omega arith)
          (cases_eq j k)

pub finished-open : (job : SiteJob) (n k y : ℕ) → IsJob job → IsRowOf job n k y → y + 1 < job.height
    → finished_count job (n + 1) ≡ finished_count job n
finished-open job n k y is row more =
    finished-stays job n
    (λ j d less. ⊎_elim
    (λ (e : j ≡ k).
    let less' : number_in (plate_at job k d) y < last_in job.height (plate_at job k d) = number-less (plate_at job k d) y (job.height - 1) (is.each k d row.within).step (omega arith) in
    let same : last_in job.height (plate_at job j d) ≡ last_in job.height (plate_at job k d) = ap (λ i. last_in job.height (plate_at job i d)) e in
    let here : number_in (plate_at job k d) y ≡ n = row.number d in
    λ is'. omega arith)
    (λ (other : j ≢ k). no_other job n k y j (job.height - 1) d is row less other (omega arith))
    (cases_eq j k))

-- ---- a row that belongs to no plate

pub open-none : (job : SiteJob) (n slot : ℕ) → IsNoRow job n → open_in job (n + 1) slot ≡ open_in job n slot
open-none job n slot row = open_in-alike job (n + 1) n slot (λ j d less same. given-stays job.height n (plate_at job j d) (λ y below. row.none j y d less below))

pub finished-none : (job : SiteJob) (n : ℕ) → IsJob job → IsNoRow job n
    → finished_count job (n + 1) ≡ finished_count job n
finished-none job n is row =
    let high : 1 ≤ job.height = is.height.0 in
    finished-stays job n (λ j d less. row.none j (job.height - 1) d less (omega arith))

-- ---- the rows that are kept

pub is_kept-row : (job : SiteJob) (n k y : ℕ) (d : SitePlate) → IsRowOf job n k y → is_kept job n ≡ true
unfolding is_kept
is_kept-row job n k y d row =
    list_any_at (λ plate. list_any (λ z. number_in plate z == n) (range_with_len 0 job.height)) job.plates k d row.within
    (list_any_at (λ z. number_in (plate_at job k d) z == n) (range_with_len 0 job.height) y 0 (omega (arith, row.below, length-range_with_len 0 job.height))
    (ap (λ z. number_in (plate_at job k d) z == n) (get_or-range_with_len 0 job.height y 0 row.below ∙ omega arith)
    ∙ eq-eqb (number_in (plate_at job k d) y) n (row.number d)))

pub is_kept-none : (job : SiteJob) (n : ℕ) → IsNoRow job n → is_kept job n ≡ false
unfolding is_kept
is_kept-none job n row =
    list_any_none (λ plate. list_any (λ z. number_in plate z == n) (range_with_len 0 job.height)) job.plates
    (λ k d less. list_any_none (λ z. number_in (plate_at job k d) z == n) (range_with_len 0 job.height)
    (λ y e below.
    let inside : y < job.height = omega (arith, length-range_with_len 0 job.height) in
    ap (λ z. number_in (plate_at job k d) z == n) (get_or-range_with_len 0 job.height y e inside ∙ omega arith)
    ∙ ne_eqb (number_in (plate_at job k d) y) n (row.none k y d less inside)))

-- so a row that the site doesn't keep belongs to none of its plates
pub is_kept-not : (job : SiteJob) (n : ℕ) → is_kept job n ≡ false → IsNoRow job n
is_kept-not job n other = record {
  none = λ k y d less below same.
      absurd (both_ways (is_kept job n) other (is_kept-row job n k y d
      (record { within = less; below = below; number = λ e. ap (λ p. number_in p y) (same-plate job k e d less) ∙ same })));
}

-- a row is the site's if its place is found
pub kept-by_place : (job : SiteJob) (n : ℕ) (place : Option PlateRow) → IfSome place (IsPlateRow job n)
    → IfNone place (IsNoRow job n) → is_some place ≡ is_kept job n
kept-by_place job n None found none = sym (is_kept-none job n none)
kept-by_place job n (Some place) found none = sym (is_kept-row job n place.plate place.y any found.row) where
  any : SitePlate
  any = record { path = []; first = 0; step = 0; slot = 0 }

kept-more : (job : SiteJob) (n : ℕ)
    → kept_below job (n + 1) ≡ kept_below job n ++ cond (is_kept job n) (n ∷ []) []
unfolding kept_below
kept-more job n =
    ap (filter (is_kept job)) (sym (map-id (range_with_len 0 (n + 1))))
    ∙ filter_of_map_range_with_len_more (is_kept job) (λ k. k) 0 n n (omega arith)
    ∙ ap (λ list. filter (is_kept job) list ++ cond (is_kept job n) (n ∷ []) []) (map-id (range_with_len 0 n))

pub kept-row : (job : SiteJob) (n k y : ℕ) (d : SitePlate) → IsRowOf job n k y
    → kept_below job (n + 1) ≡ kept_below job n ++ n ∷ []
kept-row job n k y d row = kept-more job n ∙ ap (λ b. kept_below job n ++ cond b (n ∷ []) []) (is_kept-row job n k y d row)

pub kept-none : (job : SiteJob) (n : ℕ) → IsNoRow job n → kept_below job (n + 1) ≡ kept_below job n
kept-none job n row = kept-more job n ∙ ap (λ b. kept_below job n ++ cond b (n ∷ []) []) (is_kept-none job n row) ∙ append-nil (kept_below job n)

-- one more row of a plate
pub rows-more : (rows : List (List ℕ)) (plate : SitePlate) (y n : ℕ) → number_in plate y ≡ n
    → rows_of rows plate (y + 1) ≡ rows_of rows plate y ++ get_or rows n [] ∷ []
unfolding rows_of
rows-more rows plate y n is =
    map-range_with_len_more (λ z. get_or rows (number_in plate z) []) 0 y y (omega arith)
    ∙ ap (λ m. map (λ z. get_or rows (number_in plate z) []) (range_with_len 0 y) ++ get_or rows m [] ∷ []) is

pub length-rows_of : (rows : List (List ℕ)) (plate : SitePlate) (y : ℕ) → length (rows_of rows plate y) ≡ y
unfolding rows_of
length-rows_of rows plate y = length-map-range_with_len (λ z. get_or rows (number_in plate z) []) 0 y

pub rows-none : (rows : List (List ℕ)) (plate : SitePlate) → rows_of rows plate 0 ≡ []
unfolding rows_of
rows-none rows plate = refl
