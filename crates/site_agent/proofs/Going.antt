-- A run of a site over all rows: it starts, each row takes it one further, and what `Site::keep` requires
-- holds at each. A run over any carrier of rows maintains `IsGoing` and cites these lemmas.
use Rattle.std.proofs.Common.{◌≡◌, ℕ, zero, suc, ◌+◌, ◌<◌, true, false, List, length, map, Option, Some, None, refl, sym, ap, subst, ◌∙◌, arith}
use Rattle.std.specs.Prelude.{All, IfSome, is_some, slice_get}
use Rattle.std.specs.Option.{option_map}
use Rattle.std.proofs.lemmas.Option.{same_Some, slice_get-map, slice_get_within, get_or_from_slice_get}
use Rattle.pr_rack.specs.Rack.{Plate, Slots, none_begun}
use Rattle.ring_lanes.specs.declared.source.Source.{Source}
use Rattle.pr_base.specs.Row.{row_size}
use Rattle.pr_rack.specs.Told.{Tells}
use Rattle.plan_json.specs.Data.{PlanData, plate_width}
use Rattle.plan_json.specs.Plan.{IsPlan}
use Rattle.plan_rows.specs.Rows.{row_places}
use Rattle.plan_rows.specs.Plates.{site_files}
use Rattle.site_agent.specs.Going.{IsGoing}
use Rattle.site_agent.specs.Job.{SiteJob}
use Rattle.site_agent.specs.Kept.{GoesOn}
use Rattle.site_agent.specs.Plan.{job_of, fresh_site}
use Rattle.site_agent.specs.Site.{SiteData}
use Rattle.site_agent.specs.Stands.{AreAsLong, AreBegun, StandsAfter, grown}
use Rattle.site_agent.proofs.Jobs.{job_is}
use Rattle.site_agent.proofs.Runs.{IsIdle, asks_begun, asks_working, site_at_end, stands_at_start}

false_at : (n : ℕ) → n < 5 → slice_get none_begun n ≡ Some false
false_at zero less = refl
false_at (suc zero) less = refl
false_at (suc (suc zero)) less = refl
false_at (suc (suc (suc zero))) less = refl
false_at (suc (suc (suc (suc zero)))) less = refl
false_at (suc (suc (suc (suc (suc n))))) less = absurd (omega arith)

empty_at : (slot : Option (Option Plate)) → option_map is_some slot ≡ Some false → slot ≡ Some None
empty_at None empty = absurd (cc)
empty_at (Some None) empty = refl
empty_at (Some (Some plate)) empty = absurd (let e : true ≡ false = same_Some true false empty in cc)

-- a rack without begun slots is idle
pub idle_at_first : (tells : Tells) → tells.begun ≡ none_begun
    → IfSome tells.working (λ slots. tells.begun ≡ map is_some slots) → IsIdle tells
idle_at_first tells begun told = record {
  begun = λ n less. ap (λ list. slice_get list n) begun ∙ false_at n less;
  working = by_told tells.working told;
} where
  by_told : (working : Option Slots) → IfSome working (λ slots. tells.begun ≡ map is_some slots)
      → IfSome working (λ slots. (n : ℕ) → n < 5 → slice_get slots n ≡ Some None)
  by_told None none = tt
  by_told (Some slots) are = λ n less.
      empty_at (slice_get slots n) (sym (slice_get-map is_some slots n) ∙ ap (λ list. slice_get list n) (sym are ∙ begun) ∙ false_at n less)

-- a new site with such a rack
pub going_at_start : (plan : PlanData) (rows : List (List ℕ)) (out : List ℕ) (site : ℕ) (source : Source)
    (tells : Tells) → IsPlan plan → IsIdle tells → length rows ≡ length (row_places plan)
    → All (λ row. length row ≡ row_size (plate_width plan)) rows
    → IsGoing rows source tells tells (fresh_site plan out site)
going_at_start plan rows out site source tells is idle total sides = record {
  on = refl;
  total = total;
  sides = sides;
  stands = stands_at_start (job_of plan out site) rows source tells (fresh_site plan out site).counts (job_is plan out site is) idle;
}

-- one more row, by what `Site::keep` ensures when the result is Done
pub going_further : (rows : List (List ℕ)) (source : Source) (before old now : Tells) (site next : SiteData)
    → IsGoing rows source before old site → GoesOn site next
    → (StandsAfter site.job rows source site.next before old site.counts
    → StandsAfter site.job rows source (site.next + 1) before now next.counts)
    → IsGoing rows source before now next
going_further rows source before old now site next going goes keeps =
    let P : SiteJob → Type 0 = λ job. length rows ≡ job.total in
    let Q : SiteJob → Type 0 = λ job. All (λ row. length row ≡ row_size job.width) rows in
    let R : SiteJob → ℕ → Type 0 = λ job n. StandsAfter job rows source n before now next.counts in
    record {
      on = goes.going;
      total = subst P (sym goes.job) going.total;
      sides = subst Q (sym goes.job) going.sides;
      stands = subst (λ (n : ℕ). R next.job n) (sym goes.next) (subst (λ (job : SiteJob). R job (site.next + 1)) (sym goes.job) (keeps going.stands));
    }

-- ---- what `Site::keep` requires when the next of these rows is given to it

pub going_within : (rows : List (List ℕ)) (source : Source) (before now : Tells) (site : SiteData)
    (row : List ℕ) → IsGoing rows source before now site → slice_get rows site.next ≡ Some row
    → site.next < site.job.total
going_within rows source before now site row going there = omega (arith, slice_get_within rows site.next row there, going.total)

pub going_sides : (rows : List (List ℕ)) (source : Source) (before now : Tells) (site : SiteData)
    (row : List ℕ) → IsGoing rows source before now site → slice_get rows site.next ≡ Some row
    → length row ≡ row_size site.job.width
going_sides rows source before now site row going there =
    ap length (sym (get_or_from_slice_get rows site.next row row there)) ∙ going.sides site.next row (slice_get_within rows site.next row there)

pub going_begun : (rows : List (List ℕ)) (source : Source) (before now : Tells) (site : SiteData)
    → IsGoing rows source before now site → AreBegun site.job site.next now.begun
going_begun rows source before now site going = asks_begun site.job rows source site.next before now site.counts going.stands

pub going_working : (rows : List (List ℕ)) (source : Source) (before now : Tells) (site : SiteData)
    → IsGoing rows source before now site → IfSome now.working (AreAsLong site.job site.next site.counts)
going_working rows source before now site going = asks_working site.job rows source site.next before now site.counts going.stands

-- ---- after the last row

-- the rack's finished plates grew by exactly the site's files
pub going_at_end : (plan : PlanData) (rows : List (List ℕ)) (out : List ℕ) (index : ℕ) (source : Source)
    (before now : Tells) (site : SiteData) → IsPlan plan → site.job ≡ job_of plan out index
    → site.next ≡ length (row_places plan) → IsGoing rows source before now site
    → now.finished ≡ grown (site_files plan rows out index) before.finished
going_at_end plan rows out index source before now site is job last going =
    site_at_end plan rows out index source before now site.counts is
    (subst (λ (n : ℕ). StandsAfter (job_of plan out index) rows source n before now site.counts) last
    (subst (λ (j : SiteJob). StandsAfter j rows source site.next before now site.counts) job going.stands))
