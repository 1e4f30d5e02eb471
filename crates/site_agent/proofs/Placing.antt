-- How a site finds the place of the next row from its counts.
use Rattle.std.proofs.Common.{◌≡◌, ◌≢◌, ℕ, ◌^◌, ◌<◌, ◌≤◌, List, length, get_or, sym, ap, subst, ◌∙◌, ⊎_elim, arith}
use Rattle.std.proofs.lemmas.Bool.{cases_lt}
use Rattle.site_agent.specs.declared.plate.SitePlate.{SitePlate}
use Rattle.plate_bytes.specs.Strips.{StripState}
use Rattle.site_agent.specs.Job.{SiteJob, number_in}
use Rattle.site_agent.specs.Given.{open_rows, finished_count, IsNoRow}
use Rattle.site_agent.specs.Site.{IsCounting, IsPlateRow}
use Rattle.site_agent.proofs.Opens.{plate_at}
use Rattle.site_agent.proofs.Steps.{same-plate}
use Rattle.site_agent.proofs.Finding.{IsNoRowOf, row-found, next-within, no-row_next, no-row_finished, no-row_later, no-row_all}

-- a plate under examination, with its slot
pub record Looked (job : SiteJob) (n finished : ℕ) (slots : List StripState) (i : ℕ) (plate' : SitePlate)
    (slot' : StripState) : Type 0 where
  pub counting : IsCounting job n finished slots
  pub from : finished ≤ i
  pub within : i < length job.plates
  pub plate : plate' ≡ plate_at job i plate'
  pub slot : slot' ≡ get_or slots plate'.slot slot'
  pub begun : plate'.first ≤ n

-- the slot's number of rows is the plate's
rows-are : (job : SiteJob) (n finished : ℕ) (slots : List StripState) (i : ℕ) (plate : SitePlate)
    (slot : StripState) → Looked job n finished slots i plate slot
    → slot.next ≡ open_rows job n (plate_at job i plate).slot
rows-are job n finished slots i plate slot looked =
    let inside : plate.slot < 5 = let P : SitePlate → Type 0 = λ p. p.slot < 5 in subst P (sym looked.plate) (looked.counting.is.each i plate looked.within).slot in
    ap (λ s. s.next) looked.slot ∙ (looked.counting.each plate.slot slot inside).rows ∙ ap (λ p. open_rows job n p.slot) looked.plate

from-count : (job : SiteJob) (n finished : ℕ) (slots : List StripState) (i : ℕ) (plate : SitePlate)
    (slot : StripState) → Looked job n finished slots i plate slot → finished_count job n ≤ i
from-count job n finished slots i plate slot looked = let is : finished ≡ finished_count job n = looked.counting.finished in let from : finished ≤ i = looked.from in omega arith

begun-there : (job : SiteJob) (n finished : ℕ) (slots : List StripState) (i : ℕ) (plate : SitePlate)
    (slot : StripState) → Looked job n finished slots i plate slot → (plate_at job i plate).first ≤ n
begun-there job n finished slots i plate slot looked = let P : SitePlate → Type 0 = λ p. p.first ≤ n in subst P looked.plate looked.begun

pub place-found : (job : SiteJob) (n finished : ℕ) (slots : List StripState) (i : ℕ) (plate : SitePlate)
    (slot : StripState) → Looked job n finished slots i plate slot
    → number_in plate slot.next ≡ n → IsPlateRow job n (record { plate = i; slot = plate.slot; y = slot.next })
place-found job n finished slots i plate slot looked here = record {
  row = row-found job n i slot.next plate looked.counting.is (from-count job n finished slots i plate slot looked) looked.within (begun-there job n finished slots i plate slot looked) (rows-are job n finished slots i plate slot looked)
      (ap (λ p. number_in p slot.next) (sym looked.plate) ∙ here);
  slot = λ d. ap (λ p. p.slot) (same-plate job i d plate looked.within ∙ sym looked.plate);
}

pub place-fits : (job : SiteJob) (n finished : ℕ) (slots : List StripState) (i : ℕ) (plate : SitePlate)
    (slot : StripState) → Looked job n finished slots i plate slot → number_in plate slot.next < 2 ^ 64
place-fits job n finished slots i plate slot looked =
    let rows : job.total < 2 ^ 64 = looked.counting.is.rows in
    let below : number_in (plate_at job i plate) slot.next < job.total =
    next-within job n i slot.next plate looked.counting.is (from-count job n finished slots i plate slot looked) looked.within (begun-there job n finished slots i plate slot looked) (rows-are job n finished slots i plate slot looked) in
    let same : number_in plate slot.next ≡ number_in (plate_at job i plate) slot.next = ap (λ p. number_in p slot.next) looked.plate in
    omega arith

pub place-other : (job : SiteJob) (n finished : ℕ) (slots : List StripState) (i : ℕ) (plate : SitePlate)
    (slot : StripState) → Looked job n finished slots i plate slot
    → number_in plate slot.next ≢ n → IsNoRowOf job n i
place-other job n finished slots i plate slot looked other =
    no-row_next job n i slot.next plate looked.counting.is (from-count job n finished slots i plate slot looked) looked.within (begun-there job n finished slots i plate slot looked) (rows-are job n finished slots i plate slot looked)
    (λ e. other (ap (λ p. number_in p slot.next) looked.plate ∙ e))

pub place-past : (job : SiteJob) (n finished : ℕ) (slots : List StripState) (i : ℕ) (plate : SitePlate)
    → IsCounting job n finished slots → i < length job.plates → plate ≡ plate_at job i plate
    → n < plate.first → ((j : ℕ) → j < i → IsNoRowOf job n j) → IsNoRow job n
place-past job n finished slots i plate counting within is before none =
    no-row_all job n (λ j less z d.
    ⊎_elim
    (λ (first : j < i). none j first z d)
    (λ (later : i ≤ j). no-row_later job n i j plate counting.is later less (let P : SitePlate → Type 0 = λ p. n < p.first in subst P is before) z d)
    (cases_lt j i))

pub place-start : (job : SiteJob) (n finished : ℕ) (slots : List StripState) → IsCounting job n finished slots
    → (j : ℕ) → j < finished → IsNoRowOf job n j
place-start job n finished slots counting j first = no-row_finished job n j counting.is (let is : finished ≡ finished_count job n = counting.finished in omega arith)
