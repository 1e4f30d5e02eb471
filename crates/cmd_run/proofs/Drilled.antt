-- A run over racks that don't fail: each site finishes, and its rack holds its files.
use Rattle.std.proofs.Common.{◌≡◌, ℕ, ◌<◌, List, [], ◌++◌, length, map, get_or, is_some, All, codes, Some, option_map, sym, ap, subst, ◌∙◌, inl, inr, arith}
use Rattle.std.specs.Prelude.{slice_get}
use Rattle.std.specs.List.{range_with_len}
use Rattle.std.proofs.lemmas.List.{ext_get_or, length-map}
use Rattle.std.proofs.lemmas.List.FromFn.{get_or-map-range_with_len, length-range_with_len}
use Rattle.std.proofs.lemmas.Option.{get_or_from_slice_get, same_Some, slice_get-get_or, slice_get-map, slice_get_within}
use Rattle.pr_base.specs.Count.{Rose}
use Rattle.pr_rack.specs.Mem.{MemState, empty_slots}
use Rattle.pr_rack.specs.Told.{RackTells}
use Rattle.plan_rows.specs.Plates.{site_plates}
use Rattle.press_job.specs.Job.{JobData}
use Rattle.site_agent.specs.Racks.{AreIdle}
use Rattle.cmd_run.specs.Drill.{HaveRun, finished_end, finished_ends, rows_in}
use Rattle.ring_run.specs.Fits.{Delivery, FitsEnd, RunFits, by_ring, drawn_for, files_for}
use Rattle.ring_run.specs.declared.site_end.SiteEnd.{SiteEnd}
use Rattle.ring_run.specs.declared.site_end.SiteEnd.TheVariants.{Finished, Left}
use Rattle.cmd_base.proofs.Owed.{there}

-- what is known of a rack that doesn't fail
abbrev pub sure_told : MemState → RackTells
sure_told rack = record {
  tells = record {
    finished = Some rack.files;
    working = Some rack.slots;
    begun = map is_some rack.slots;
    taken = Some rack.taken;
  };
  missed = Some rack.misses.missed;
  faults = 0;
}

-- racks with empty slots have begun none of them
pub idle : (racks : List MemState) (count : ℕ) → All (λ rack. rack.slots ≡ empty_slots) racks → AreIdle count (map sure_told racks)
idle racks count empty = record {
  each = λ site told within at.
      let inside : site < length racks = omega (arith, slice_get_within (map sure_told racks) site told at, length-map racks sure_told) in
      let rack = there racks site inside in
      let same : sure_told rack.0 ≡ told =
      same_Some _ _ (ap (option_map sure_told) (sym rack.1) ∙ sym (slice_get-map sure_told racks site) ∙ at) in
      let slots : rack.0.slots ≡ empty_slots =
      ap (λ (r : MemState). r.slots) (sym (get_or_from_slice_get racks site rack.0 rack.0 rack.1)) ∙ empty site rack.0 inside in
      ap (λ (t : RackTells). t.tells.begun) (sym same) ∙ ap (map is_some) slots;
}

never : Rose 0 0 → ⊥
never (inl less) = absurd (omega arith)
never (inr last) = absurd (omega arith)

-- the site of a rack that doesn't fail finishes
end_is : (delivery : Delivery) (site : ℕ) (old new : MemState) (end : SiteEnd)
    → FitsEnd delivery site (sure_told old) (sure_told new) end → end ≡ finished_end delivery.plan site
end_is delivery site old new (Finished plates rows) fits =
    ap {A = ℕ} (λ p. Finished p rows) fits.plates_are ∙ ap {A = ℕ} (λ r. Finished (length (site_plates delivery.plan site)) r) fits.rows_are
end_is delivery site old new (Left cause) fits = absurd (never fits.counted)

-- the rack holds the files of its site, if it held none before
files_at : (delivery : Delivery) (site : ℕ) (old new : MemState) (end : SiteEnd) → old.files ≡ []
    → FitsEnd delivery site (sure_told old) (sure_told new) end → new.files ≡ files_for delivery site
files_at delivery site old new (Finished plates rows) none fits =
    same_Some _ _ fits.finished ∙ ap (λ l. l ++ files_for delivery site) none
files_at delivery site old new (Left cause) none fits = absurd (never fits.counted)

-- the rack took the rows of its site, if it had taken none before
taken_at : (delivery : Delivery) (site : ℕ) (old new : MemState) (end : SiteEnd) → old.taken ≡ []
    → FitsEnd delivery site (sure_told old) (sure_told new) end → new.taken ≡ drawn_for delivery site
taken_at delivery site old new (Finished plates rows) none fits =
    same_Some _ _ fits.taken ∙ ap (λ l. l ++ drawn_for delivery site) none
taken_at delivery site old new (Left cause) none fits = absurd (never fits.counted)

-- the end of a site of a run
module _ (delivery : Delivery) (racks racks' : List MemState) (ends : List SiteEnd)
    (count : length racks ≡ length delivery.plan.sites) (kept : length racks' ≡ length racks)
    (fits : RunFits delivery (map sure_told racks) (map sure_told racks') ends) where
  fits_at : (site : ℕ) (old new : MemState) (end : SiteEnd) → slice_get racks site ≡ Some old → slice_get racks' site ≡ Some new
      → slice_get ends site ≡ Some end → FitsEnd delivery site (sure_told old) (sure_told new) end
  fits_at site old new end before after at =
      fits.each site (sure_told old) (sure_told new) end (slice_get-map sure_told racks site ∙ ap (option_map sure_told) before)
      (slice_get-map sure_told racks' site ∙ ap (option_map sure_told) after) at

  ends_are : ends ≡ finished_ends delivery.plan
  unfolding finished_ends
  ends_are =
      let sites : ℕ = length delivery.plan.sites in
      let many : length (map (finished_end delivery.plan) (range_with_len 0 sites)) ≡ sites =
      length-map (range_with_len 0 sites) (finished_end delivery.plan) ∙ length-range_with_len 0 sites in
      ext_get_or (Finished 0 0) ends (map (finished_end delivery.plan) (range_with_len 0 sites)) (fits.count ∙ sym many)
      (λ k less.
      let within : k < sites = omega (arith, less, fits.count) in
      let old = there racks k (omega (arith, within, count)) in
      let new = there racks' k (omega (arith, within, count, kept)) in
      end_is delivery k old.0 new.0 (get_or ends k (Finished 0 0))
      (fits_at k old.0 new.0 _ old.1 new.1 (slice_get-get_or ends k (Finished 0 0) less))
      ∙ sym (get_or-map-range_with_len (finished_end delivery.plan) 0 sites k k (Finished 0 0) within (omega arith)))

  -- a property that follows from an end, for a rack that was empty, holds for each rack
  each_was : (P : MemState → Type 0) (Q : ℕ → MemState → Type 0) → All P racks
      → ((site : ℕ) (old new : MemState) (end : SiteEnd) → P old → FitsEnd delivery site (sure_told old) (sure_told new) end → Q site new)
      → (site : ℕ) (rack : MemState) → slice_get racks' site ≡ Some rack → Q site rack
  each_was P Q empty step site rack at =
      let inside : site < length racks' = slice_get_within racks' site rack at in
      let within : site < length racks = omega (arith, inside, kept) in
      let old = there racks site within in
      let less : site < length ends = omega (arith, within, count, fits.count) in
      let was : P old.0 = subst P (get_or_from_slice_get racks site old.0 old.0 old.1) (empty site old.0 within) in
      step site old.0 rack (get_or ends site (Finished 0 0)) was
      (fits_at site old.0 rack _ old.1 at (slice_get-get_or ends site (Finished 0 0) less))

-- the same for a job's run over a ring
module _ (job : JobData) (ring : ℕ) (racks racks' : List MemState) (ends : List SiteEnd)
    (count : length racks ≡ length job.plan.sites) (kept : length racks' ≡ length racks)
    (fits : RunFits (by_ring job.plan (rows_in job) (codes "drill") (length job.plan.sites) ring) (map sure_told racks)
    (map sure_told racks') ends) where
  abbrev delivery : Delivery
  delivery = by_ring job.plan (rows_in job) (codes "drill") (length job.plan.sites) ring

  pub job_ends : ends ≡ finished_ends job.plan
  job_ends = ends_are delivery racks racks' ends count kept fits

  pub job_run : All (λ rack. rack.files ≡ []) racks → All (λ rack. rack.taken ≡ []) racks → HaveRun job ring racks'
  job_run unfilled untaken = record {
    files = record {
      count = kept ∙ count;
      each = each_was delivery racks racks' ends count kept fits (λ rack. rack.files ≡ [])
          (λ site rack. rack.files ≡ files_for delivery site) unfilled (files_at delivery);
    };
    taken = each_was delivery racks racks' ends count kept fits (λ rack. rack.taken ≡ [])
        (λ site rack. rack.taken ≡ drawn_for delivery site) untaken (taken_at delivery);
  }
