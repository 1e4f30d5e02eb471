-- Which plates are open and which are finished, before and after row n.
use Rattle.std.proofs.Common.{◌≡◌, ◌≢◌, ℕ, ◌+◌, ◌-◌, ◌<◌, ◌≤◌, ◌⊎◌, inl, inr, Bool, true, false, length, get_or, Some, None, refl, sym, ap, ◌∙◌, ⊎_elim, arith}
use Rattle.std.specs.Prelude.{nat_lt, ◌==◌, ◌&&◌}
use Rattle.std.proofs.lemmas.Bool.{lt-ltb, le-ltb, ltb-true, ltb-false, cases_lt, cases_eq, cases_order, eq-eqb, ne_eqb, eqb-true, and_from, and_parts, and_left, and_right}
use Rattle.std.proofs.lemmas.List.Sums.{count_by-le-length}
use Rattle.site_agent.specs.declared.plate.SitePlate.{SitePlate}
use Rattle.site_agent.specs.Job.{SiteJob, IsJob, IsBefore, number_in, last_in}
use Rattle.site_agent.specs.Given.{given, is_open, open_in, finished_count, IsRowOf}
use Rattle.site_agent.proofs.Fronts.{IsFront, count_by-front, count_by-alike, front-pass, front-fail, find-first, find-fails, find-alike, find-passes}
use Rattle.site_agent.proofs.Givens.{number-within, given-stays, given-none, given-all, given-begun}

-- plate k
abbrev pub plate_at : SiteJob → ℕ → SitePlate → SitePlate
plate_at job k d = get_or job.plates k d

-- ---- open plates

open-yes : (height n : ℕ) (plate : SitePlate) → 0 < given height plate n → given height plate n < height
    → is_open height n plate ≡ true
open-yes height n plate some most =
    and_from (nat_lt 0 (given height plate n)) (nat_lt (given height plate n) height) (lt-ltb 0 (given height plate n) some) (lt-ltb (given height plate n) height most)

open-none : (height n : ℕ) (plate : SitePlate) → given height plate n ≡ 0 → is_open height n plate ≡ false
open-none height n plate none =
    and_left (nat_lt 0 (given height plate n)) (nat_lt (given height plate n) height) (le-ltb 0 (given height plate n) (omega arith))

open-all : (height n : ℕ) (plate : SitePlate) → given height plate n ≡ height → is_open height n plate ≡ false
open-all height n plate all =
    and_right (nat_lt 0 (given height plate n)) (nat_lt (given height plate n) height) (le-ltb (given height plate n) height (omega arith))

-- the plate belongs in this slot and is open
abbrev stands : SiteJob → ℕ → ℕ → SitePlate → Bool
stands job n slot plate = plate.slot == slot && is_open job.height n plate

stands-not : (job : SiteJob) (n slot : ℕ) (plate : SitePlate)
    → (plate.slot ≡ slot → is_open job.height n plate ≡ false) → stands job n slot plate ≡ false
stands-not job n slot plate closed =
    ⊎_elim
    (λ (here : plate.slot ≡ slot). and_right (plate.slot == slot) (is_open job.height n plate) (closed here))
    (λ (there : plate.slot ≢ slot). and_left (plate.slot == slot) (is_open job.height n plate) (ne_eqb plate.slot slot there))
    (cases_eq plate.slot slot)

stands-alike : (job : SiteJob) (n m slot : ℕ) (plate : SitePlate)
    → (plate.slot ≡ slot → given job.height plate n ≡ given job.height plate m)
    → stands job n slot plate ≡ stands job m slot plate
stands-alike job n m slot plate same =
    ⊎_elim
    (λ (here : plate.slot ≡ slot). ap (λ g. plate.slot == slot && (nat_lt 0 g && nat_lt g job.height)) (same here))
    (λ (there : plate.slot ≢ slot).
    and_left (plate.slot == slot) (is_open job.height n plate) (ne_eqb plate.slot slot there)
    ∙ sym (and_left (plate.slot == slot) (is_open job.height m plate) (ne_eqb plate.slot slot there)))
    (cases_eq plate.slot slot)

-- a plate with some rows below row n, and some not, is the open one of its slot
pub opened : (job : SiteJob) (n k : ℕ) (d : SitePlate) → IsJob job → k < length job.plates
    → 0 < given job.height (plate_at job k d) n → given job.height (plate_at job k d) n < job.height
    → open_in job n (plate_at job k d).slot ≡ Some (plate_at job k d)
unfolding open_in
opened job n k d is within some most =
    find-first (stands job n (plate_at job k d).slot) job.plates k d within
    (and_from ((plate_at job k d).slot == (plate_at job k d).slot) (is_open job.height n (plate_at job k d)) (eq-eqb (plate_at job k d).slot (plate_at job k d).slot refl) (open-yes job.height n (plate_at job k d) some most))
    (λ j less. stands-not job n (plate_at job k d).slot (plate_at job j d)
    (λ same.
    let order : IsBefore job.height (plate_at job j d) (plate_at job k d) = is.order j k d less within in
    let ended : last_in job.height (plate_at job j d) < (plate_at job k d).first = order.apart same in
    let begun : (plate_at job k d).first < n = given-begun job.height n (plate_at job k d) some in
    open-all job.height n (plate_at job j d) (given-all job.height n (plate_at job j d) (omega arith) (omega arith))))

-- no plate of the slot is open
pub closed : (job : SiteJob) (n slot : ℕ)
    → ((j : ℕ) (d : SitePlate) → j < length job.plates → (plate_at job j d).slot ≡ slot
    → is_open job.height n (plate_at job j d) ≡ false) → open_in job n slot ≡ None
unfolding open_in
closed job n slot each = find-fails (stands job n slot) job.plates (λ j d less. stands-not job n slot (plate_at job j d) (each j d less))

-- the plates of the slot have as many rows below one row as below the other
pub open_in-alike : (job : SiteJob) (n m slot : ℕ)
    → ((j : ℕ) (d : SitePlate) → j < length job.plates → (plate_at job j d).slot ≡ slot
    → given job.height (plate_at job j d) n ≡ given job.height (plate_at job j d) m)
    → open_in job n slot ≡ open_in job m slot
unfolding open_in
open_in-alike job n m slot each = find-alike (stands job n slot) (stands job m slot) job.plates (λ j d less. stands-alike job n m slot (plate_at job j d) (each j d less))

-- the open plate of a slot is one of the site's
pub record StandsAs (job : SiteJob) (slot' : ℕ) (plate : SitePlate) : Type 0 where
  pub index : ℕ
  pub within : index < length job.plates
  pub is : plate_at job index plate ≡ plate
  pub slot : plate.slot ≡ slot'

pub open_in-plate : (job : SiteJob) (n slot : ℕ) (plate : SitePlate) → open_in job n slot ≡ Some plate
    → StandsAs job slot plate
unfolding open_in
open_in-plate job n slot plate open' =
    let found = find-passes (stands job n slot) job.plates plate open' in
    record {
      index = found.0;
      within = found.1;
      is = found.2;
      slot = eqb-true plate.slot slot (and_parts (plate.slot == slot) (is_open job.height n plate) found.3).0;
    }

-- ---- row n is row y of plate k

-- it is not a row of another plate
pub no_other : (job : SiteJob) (n k y j z : ℕ) (d : SitePlate) → IsJob job → IsRowOf job n k y
    → j < length job.plates → j ≢ k → z < job.height → number_in (plate_at job j d) z ≢ n
no_other job n k y j z d is row within other below =
    let here : number_in (plate_at job k d) y ≡ n = row.number d in
    ⊎_elim
    (λ (same : j ≡ k). absurd (other same))
    (λ (sides : (j < k) ⊎ (k < j)).
    ⊎_elim
    (λ (less : j < k). λ e. (is.order j k d less row.within).other z y below row.below (e ∙ sym here))
    (λ (more : k < j). λ e. (is.order k j d more within).other y z row.below below (here ∙ sym e))
    sides)
    (cases_order j k)

-- so no other plate gains a row
pub other-stays : (job : SiteJob) (n k y j : ℕ) (d : SitePlate) → IsJob job → IsRowOf job n k y
    → j < length job.plates → j ≢ k
    → given job.height (plate_at job j d) (n + 1) ≡ given job.height (plate_at job j d) n
other-stays job n k y j d is row within other =
    given-stays job.height n (plate_at job j d) (λ z below. no_other job n k y j z d is row within other below)

-- a row lies between the first of its plate and the last
pub row-first : (job : SiteJob) (n k y : ℕ) (d : SitePlate) → IsRowOf job n k y → (plate_at job k d).first ≤ n
row-first job n k y d row =
    let here : number_in (plate_at job k d) y ≡ n = row.number d in
    let from : number_in (plate_at job k d) 0 ≤ number_in (plate_at job k d) y = number-within (plate_at job k d) 0 y (omega arith) in omega arith

pub row-last : (job : SiteJob) (n k y : ℕ) (d : SitePlate) → IsRowOf job n k y
    → n ≤ last_in job.height (plate_at job k d)
row-last job n k y d row =
    let here : number_in (plate_at job k d) y ≡ n = row.number d in
    let below : y < job.height = row.below in
    let to : number_in (plate_at job k d) y ≤ last_in job.height (plate_at job k d) = number-within (plate_at job k d) y (job.height - 1) (omega arith) in omega arith

-- and no other plate of its slot is open
pub others-closed : (job : SiteJob) (n k y j : ℕ) (d : SitePlate) → IsJob job → IsRowOf job n k y
    → j < length job.plates → j ≢ k → (plate_at job j d).slot ≡ (plate_at job k d).slot
    → (given job.height (plate_at job j d) n ≡ 0) ⊎ (given job.height (plate_at job j d) n ≡ job.height)
others-closed job n k y j d is row within other same =
    let from : (plate_at job k d).first ≤ n = row-first job n k y d row in
    let to : n ≤ last_in job.height (plate_at job k d) = row-last job n k y d row in
    let high : 0 < job.height = is.height.0 in
    ⊎_elim
    (λ (e : j ≡ k). absurd (other e))
    (λ (sides : (j < k) ⊎ (k < j)).
    ⊎_elim
    (λ (less : j < k).
    let ended : last_in job.height (plate_at job j d) < (plate_at job k d).first = (is.order j k d less row.within).apart same in
    inr (given-all job.height n (plate_at job j d) high (omega arith)))
    (λ (more : k < j).
    let later : last_in job.height (plate_at job k d) < (plate_at job j d).first = (is.order k j d more within).apart (sym same) in
    inl (given-none job.height n (plate_at job j d) (omega arith)))
    sides)
    (cases_order j k)

pub closed-cases : (height n : ℕ) (plate : SitePlate)
    → (given height plate n ≡ 0) ⊎ (given height plate n ≡ height) → is_open height n plate ≡ false
closed-cases height n plate either = ⊎_elim (open-none height n plate) (open-all height n plate) either

-- ---- finished plates

abbrev ended : SiteJob → ℕ → SitePlate → Bool
ended job n plate = nat_lt (last_in job.height plate) n

-- the first k plates have their last row below row n
pub finished-is : (job : SiteJob) (n k : ℕ) → k ≤ length job.plates
    → ((j : ℕ) (d : SitePlate) → j < k → last_in job.height (plate_at job j d) < n)
    → ((j : ℕ) (d : SitePlate) → k ≤ j → j < length job.plates → n ≤ last_in job.height (plate_at job j d))
    → finished_count job n ≡ k
unfolding finished_count
finished-is job n k within less more =
    count_by-front (ended job n) job.plates k within
    (λ j d first. lt-ltb (last_in job.height (plate_at job j d)) n (less j d first))
    (λ j d from inside. le-ltb (last_in job.height (plate_at job j d)) n (more j d from inside))

ended-front : (job : SiteJob) (n : ℕ) → IsJob job → IsFront (ended job n) job.plates
ended-front job n is = record {
  before = λ i j d less inside e.
      let order : last_in job.height (plate_at job i d) < last_in job.height (plate_at job j d) = (is.order i j d less inside).ends in
      let later : last_in job.height (plate_at job j d) < n = ltb-true (last_in job.height (plate_at job j d)) n e in
      lt-ltb (last_in job.height (plate_at job i d)) n (omega arith);
}

pub finished-within : (job : SiteJob) (n : ℕ) → finished_count job n ≤ length job.plates
unfolding finished_count
finished-within job n = count_by-le-length (ended job n) job.plates

pub finished-below : (job : SiteJob) (n j : ℕ) (d : SitePlate) → IsJob job → j < finished_count job n
    → last_in job.height (plate_at job j d) < n
unfolding finished_count
finished-below job n j d is first = ltb-true (last_in job.height (plate_at job j d)) n (front-pass (ended job n) job.plates j d (ended-front job n is) first)

pub finished-above : (job : SiteJob) (n j : ℕ) (d : SitePlate) → IsJob job → finished_count job n ≤ j
    → j < length job.plates → n ≤ last_in job.height (plate_at job j d)
unfolding finished_count
finished-above job n j d is from within = ltb-false (last_in job.height (plate_at job j d)) n (front-fail (ended job n) job.plates j d (ended-front job n is) from within)

-- no plate has row n as its last
pub finished-stays : (job : SiteJob) (n : ℕ)
    → ((j : ℕ) (d : SitePlate) → j < length job.plates → last_in job.height (plate_at job j d) ≢ n)
    → finished_count job (n + 1) ≡ finished_count job n
unfolding finished_count
finished-stays job n other =
    count_by-alike (ended job (n + 1)) (ended job n) job.plates
    (λ j d less. let never : last_in job.height (plate_at job j d) ≢ n = other j d less in
    ⊎_elim
    (λ (below : last_in job.height (plate_at job j d) < n).
    lt-ltb (last_in job.height (plate_at job j d)) (n + 1) (omega arith) ∙ sym (lt-ltb (last_in job.height (plate_at job j d)) n below))
    (λ (above : n ≤ last_in job.height (plate_at job j d)).
    le-ltb (last_in job.height (plate_at job j d)) (n + 1) (omega arith) ∙ sym (le-ltb (last_in job.height (plate_at job j d)) n above))
    (cases_lt (last_in job.height (plate_at job j d)) n))
