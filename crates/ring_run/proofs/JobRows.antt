-- The rows of a job, and a run's contract over them.
use Rattle.std.proofs.Common.{◌≡◌, ℕ, Option, Result, List, ◌++◌, length, drop, map, refl, sym, ap, subst, ◌∙◌}
use Rattle.std.proofs.lemmas.List.{length-map}
use Rattle.std.proofs.Math.Seq.{drop-append_seam}
use Rattle.pr_base.specs.Row.{row_size}
use Rattle.tif_packbits.specs.Frame.{AreFrames, framed_row}
use Rattle.pr_rack.specs.Told.{RackTells}
use Rattle.plan_json.specs.Data.{PlanData, plate_width}
use Rattle.plan_json.specs.Plan.{IsPlan}
use Rattle.press_job.specs.Rows.{plate_frames, plate_rows}
use Rattle.press_job.proofs.FrameLemmas.{are_frames, length-plate_frames, rows_are}
use Rattle.ring_rule.specs.Views.{ring_of}
use Rattle.site_agent.proofs.Racks.{all_keep, over_wide}
use Rattle.ring_run.specs.declared.site_end.Outcome.{Outcome}
use Rattle.ring_run.specs.declared.site_end.SiteEnd.{SiteEnd}
use Rattle.ring_run.specs.Fits.{Delivery, RunFits, RunPart, by_ring}
use Rattle.ring_run.specs.JobRun.{RunLeaves}
use Rattle.ring_run.specs.Keyed.{CountsFit}
use Rattle.ink_keys.specs.Counts.{CountsData}
use Rattle.ink_keys.specs.Turn.{KeyReaderData}
use Rattle.ring_run.specs.Served.{Carries}
use Rattle.site_agent.proofs.Results.{if_err, if_ok}
use Rattle.ring_run.proofs.Running.{fits_wide, part_wide}

-- a job is what a ring can carry
pub job_carries : (plan : PlanData) (files : List (List ℕ)) (out : List ℕ) (readers ring size : ℕ) → IsPlan plan
    → Carries (by_ring plan (map framed_row (plate_frames plan files)) out readers ring) (ring_of ring readers (plate_frames plan files) size)
job_carries plan files out readers ring size is = record {
  plan_is = is;
  are = subst (λ (rows : List (List ℕ)). AreFrames (row_size (plate_width plan)) rows (plate_frames plan files)) (sym (rows_are plan files is)) (are_frames plan files is);
  count = length-map (plate_frames plan files) framed_row ∙ length-plate_frames plan files;
  total = refl;
  source_is = λ site. refl;
}

-- what holds of the job's frames on a ring holds of its rows
pub over_job : (P : Delivery → Type 0) (own plan : PlanData) (files : List (List ℕ)) (out : List ℕ) (readers ring : ℕ) → own ≡ plan → IsPlan own → P (by_ring own (map framed_row (plate_frames plan files)) out readers ring)
    → P (by_ring plan (plate_rows plan files) out readers ring)
over_job P own plan files out readers ring same is p =
    let is' : IsPlan plan = subst (λ (q : PlanData). IsPlan q) same is in
    subst (λ (rows : List (List ℕ)). P (by_ring plan rows out readers ring)) (rows_are plan files is')
    (subst (λ (q : PlanData). P (by_ring q (map framed_row (plate_frames plan files)) out readers ring)) same p)

-- ---- the racks of the sites, and those after them

job_fits : {X : Type 0} (tell : X → RackTells) (own plan : PlanData) (files : List (List ℕ)) (out : List ℕ) (readers ring : ℕ) (racks racks' front front' rest : List X) (ends : List SiteEnd) → racks ≡ front ++ rest → racks' ≡ front' ++ rest
    → length front ≡ length own.sites → length front' ≡ length front → own ≡ plan → IsPlan own → RunFits (by_ring own (map framed_row (plate_frames plan files)) out readers ring) (map tell front) (map tell front') ends
    → RunFits (by_ring plan (plate_rows plan files) out readers ring) (map tell racks) (map tell racks') ends
job_fits tell own plan files out readers ring racks racks' front front' rest ends is is' long same plan-is is-plan fits =
    over_job (λ (d : Delivery). RunFits d (map tell racks) (map tell racks') ends) own plan files out readers ring plan-is is-plan
    (over_wide tell (λ old new. RunFits (by_ring own (map framed_row (plate_frames plan files)) out readers ring) old new ends) racks racks' front front' rest is is'
    (fits_wide (by_ring own (map framed_row (plate_frames plan files)) out readers ring) (map tell front) (map tell front') (map tell rest) ends (length-map front tell ∙ long) (length-map front' tell ∙ same ∙ long) fits))

job_part : {X : Type 0} (tell : X → RackTells) (own plan : PlanData) (files : List (List ℕ)) (out : List ℕ) (readers ring : ℕ) (racks racks' front front' rest : List X) → racks ≡ front ++ rest → racks' ≡ front' ++ rest
    → length front ≡ length own.sites → length front' ≡ length front → own ≡ plan → IsPlan own → RunPart (by_ring own (map framed_row (plate_frames plan files)) out readers ring) (map tell front) (map tell front')
    → RunPart (by_ring plan (plate_rows plan files) out readers ring) (map tell racks) (map tell racks')
job_part tell own plan files out readers ring racks racks' front front' rest is is' long same plan-is is-plan part =
    over_job (λ (d : Delivery). RunPart d (map tell racks) (map tell racks')) own plan files out readers ring plan-is is-plan
    (over_wide tell (λ old new. RunPart (by_ring own (map framed_row (plate_frames plan files)) out readers ring) old new) racks racks' front front' rest is is'
    (part_wide (by_ring own (map framed_row (plate_frames plan files)) out readers ring) (map tell front) (map tell front') (map tell rest) (length-map front tell ∙ long) (length-map front' tell ∙ same ∙ long) part))

-- so what a run leaves on the racks of its sites, it leaves on all racks
pub job_leaves : {X E : Type 0} (tell : X → RackTells) (own plan : PlanData) (files : List (List ℕ)) (out : List ℕ) (readers ring : ℕ) (keys : Option KeyReaderData) (racks racks' front front' rest : List X) (answer : Result (Outcome × Option CountsData) E) → racks ≡ front ++ rest → racks' ≡ front' ++ rest
    → length front ≡ length own.sites → length front' ≡ length front → own ≡ plan → IsPlan own → RunLeaves (by_ring own (map framed_row (plate_frames plan files)) out readers ring) keys (map tell front) (map tell front') answer
    → RunLeaves (by_ring plan (plate_rows plan files) out readers ring) keys (map tell racks) (map tell racks') answer
job_leaves tell own plan files out readers ring keys racks racks' front front' rest answer is is' long same plan-is is-plan leaves = record {
  fits = if_ok answer _ _ (λ pair fits. job_fits tell own plan files out readers ring racks racks' front front' rest pair.0.sites.items is is' long same plan-is is-plan fits) leaves.fits;
  counts_fit = if_ok answer _ _ (λ pair fits. over_job (λ (d : Delivery). CountsFit d.plan d.rows keys pair.1) own plan files out readers ring plan-is is-plan fits) leaves.counts_fit;
  part = if_err answer _ _ (λ part. job_part tell own plan files out readers ring racks racks' front front' rest is is' long same plan-is is-plan part) leaves.part;
  counts = all_keep tell racks racks' front front' rest is is' same leaves.counts;
}

-- and the racks after them are unchanged
behind : {X : Type 0} (count : ℕ) (racks front rest : List X) → racks ≡ front ++ rest → length front ≡ count → drop count racks ≡ rest
behind count racks front rest is long = ap (drop count) is ∙ ap (λ n. drop n (front ++ rest)) (sym long) ∙ drop-append_seam front rest

pub others_stay : {X : Type 0} (own plan : PlanData) (racks racks' front front' rest : List X) → racks ≡ front ++ rest → racks' ≡ front' ++ rest → length front ≡ length own.sites → length front' ≡ length front → own ≡ plan
    → drop (length plan.sites) racks' ≡ drop (length plan.sites) racks
others_stay own plan racks racks' front front' rest is is' long same plan-is =
    let sites = long ∙ ap (λ (p : PlanData). length p.sites) plan-is in
    behind (length plan.sites) racks' front' rest is' (same ∙ sites) ∙ sym (behind (length plan.sites) racks front rest is sites)
