-- Finding the plate of a row among the unfinished plates.
use Rattle.std.proofs.Common.{◌≡◌, ◌≢◌, ℕ, ◌-◌, ◌<◌, ◌≤◌, ◌⊎◌, length, refl, sym, ap, ◌∙◌, ⊎_elim, arith}
use Rattle.std.specs.Option.{option_map_or}
use Rattle.std.proofs.lemmas.Bool.{cases_eq, cases_lt, cases_order}
use Rattle.site_agent.specs.declared.plate.SitePlate.{SitePlate}
use Rattle.site_agent.specs.Job.{SiteJob, IsJob, number_in, last_in}
use Rattle.site_agent.specs.Given.{given, open_rows, finished_count, IsRowOf, IsNoRow}
use Rattle.site_agent.proofs.Givens.{number-less, number-within, given-none, given-some, given-not_all, given-below, given-above}
use Rattle.site_agent.proofs.Opens.{plate_at, opened, finished-below, finished-above}
use Rattle.site_agent.proofs.Steps.{fresh-before, same-plate}

-- row n is not a row of plate j
abbrev pub IsNoRowOf : SiteJob → ℕ → ℕ → Type 0
IsNoRowOf job n j = (z : ℕ) (d : SitePlate) → z < job.height → number_in (plate_at job j d) z ≢ n

-- the count in the slot of a begun, unfinished plate is that plate's
pub rows-known : (job : SiteJob) (n i : ℕ) (d : SitePlate) → IsJob job → finished_count job n ≤ i
    → i < length job.plates → (plate_at job i d).first ≤ n
    → open_rows job n (plate_at job i d).slot ≡ given job.height (plate_at job i d) n
rows-known job n i d is from within begun =
    let high : 0 < job.height = is.height.0 in
    let open' : given job.height (plate_at job i d) n < job.height = given-not_all job.height n (plate_at job i d) high (finished-above job n i d is from within) in
    ⊎_elim
    (λ (some : (plate_at job i d).first < n).
    ap (λ p. option_map_or (λ q. given job.height q n) p 0) (opened job n i d is within (given-some job.height n (plate_at job i d) high some) open'))
    (λ (most : n ≤ (plate_at job i d).first).
    let none : given job.height (plate_at job i d) n ≡ 0 = given-none job.height n (plate_at job i d) most in
    let row : IsRowOf job n i 0 = record {
      within = within;
      below = high;
      number = λ e.
          let first : (plate_at job i e).first ≡ n = ap (λ p. p.first) (same-plate job i e d within) ∙ omega arith in omega arith;
    } in
    ap (λ p. option_map_or (λ q. given job.height q n) p 0) (fresh-before job n i 0 d is row refl) ∙ sym none)
    (cases_lt (plate_at job i d).first n)

-- so the row is this one of the plate
pub row-found : (job : SiteJob) (n i y : ℕ) (d : SitePlate) → IsJob job → finished_count job n ≤ i
    → i < length job.plates → (plate_at job i d).first ≤ n
    → y ≡ open_rows job n (plate_at job i d).slot → number_in (plate_at job i d) y ≡ n → IsRowOf job n i y
row-found job n i y d is from within begun rows here =
    let high : 0 < job.height = is.height.0 in
    let known : y ≡ given job.height (plate_at job i d) n = rows ∙ rows-known job n i d is from within begun in
    record {
      within = within;
      below = let h : given job.height (plate_at job i d) n < job.height = given-not_all job.height n (plate_at job i d) high (finished-above job n i d is from within) in omega arith;
      number = λ e. ap (λ p. number_in p y) (same-plate job i e d within) ∙ here;
    }

-- the number of a plate's next row is below the number of all rows
pub next-within : (job : SiteJob) (n i y : ℕ) (d : SitePlate) → IsJob job → finished_count job n ≤ i
    → i < length job.plates → (plate_at job i d).first ≤ n
    → y ≡ open_rows job n (plate_at job i d).slot → number_in (plate_at job i d) y < job.total
next-within job n i y d is from within begun rows =
    let high : 0 < job.height = is.height.0 in
    let known : y ≡ given job.height (plate_at job i d) n = rows ∙ rows-known job n i d is from within begun in
    let below : given job.height (plate_at job i d) n < job.height = given-not_all job.height n (plate_at job i d) high (finished-above job n i d is from within) in
    let last : number_in (plate_at job i d) y ≤ last_in job.height (plate_at job i d) = number-within (plate_at job i d) y (job.height - 1) (omega arith) in
    let inside : last_in job.height (plate_at job i d) < job.total = is.within i d within in
    omega arith

-- or it is not a row of the plate
pub no-row_next : (job : SiteJob) (n i y : ℕ) (d : SitePlate) → IsJob job → finished_count job n ≤ i
    → i < length job.plates → (plate_at job i d).first ≤ n
    → y ≡ open_rows job n (plate_at job i d).slot → number_in (plate_at job i d) y ≢ n → IsNoRowOf job n i
no-row_next job n i y d is from within begun rows other z e below same =
    let known : y ≡ given job.height (plate_at job i d) n = rows ∙ rows-known job n i d is from within begun in
    let here : number_in (plate_at job i d) z ≡ n = ap (λ p. number_in p z) (same-plate job i d e within) ∙ same in
    ⊎_elim
    (λ (less : z < given job.height (plate_at job i d) n). let h : number_in (plate_at job i d) z < n = given-below job.height n (plate_at job i d) z less in omega arith)
    (λ (more : given job.height (plate_at job i d) n ≤ z).
    ⊎_elim
    (λ (e : z ≡ y). other (ap (number_in (plate_at job i d)) (sym e) ∙ here))
    (λ (apart : z ≢ y).
    let next : n ≤ number_in (plate_at job i d) y = given-above job.height n (plate_at job i d) y (omega arith) (omega arith) in
    let later : number_in (plate_at job i d) y < number_in (plate_at job i d) z = number-less (plate_at job i d) y z (is.each i d within).step (omega arith) in
    omega arith)
    (cases_eq z y))
    (cases_lt z (given job.height (plate_at job i d) n))

-- a plate that is finished or not begun
pub no-row_finished : (job : SiteJob) (n j : ℕ) → IsJob job → j < finished_count job n → IsNoRowOf job n j
no-row_finished job n j is first z d below same =
    let ended : last_in job.height (plate_at job j d) < n = finished-below job n j d is first in
    let most : number_in (plate_at job j d) z ≤ last_in job.height (plate_at job j d) = number-within (plate_at job j d) z (job.height - 1) (omega arith) in
    omega arith

pub no-row_later : (job : SiteJob) (n i j : ℕ) (d : SitePlate) → IsJob job → i ≤ j → j < length job.plates
    → n < (plate_at job i d).first → IsNoRowOf job n j
no-row_later job n i j d is to within before z e below same =
    let least : number_in (plate_at job j e) 0 ≤ number_in (plate_at job j e) z = number-within (plate_at job j e) 0 z (omega arith) in
    ⊎_elim
    (λ (here : i ≡ j). let first : (plate_at job i d).first ≡ (plate_at job j e).first = ap (λ k. (plate_at job k d).first) here ∙ ap (λ p. p.first) (same-plate job j d e within) in omega arith)
    (λ (sides : (i < j) ⊎ (j < i)).
    ⊎_elim
    (λ (less : i < j).
    let first : (plate_at job i d).first ≡ (plate_at job i e).first = ap (λ p. p.first) (same-plate job i d e (omega arith)) in
    let order : (plate_at job i e).first < (plate_at job j e).first = (is.order i j e less within).starts in omega arith)
    (λ (more : j < i). omega arith)
    sides)
    (cases_order i j)

-- a row that belongs to none of the plates is not one of the site's
pub no-row_all : (job : SiteJob) (n : ℕ) → ((j : ℕ) → j < length job.plates → IsNoRowOf job n j)
    → IsNoRow job n
no-row_all job n each = record { none = λ k y d within below. each k within y d below }
