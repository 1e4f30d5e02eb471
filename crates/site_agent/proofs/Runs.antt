-- A run of a site over all rows of a plan: its start, its end, and its state where it dropped out. A run over
-- any carrier of rows cites these, and `row_passed` and the clause `keeps` of `Site::keep` in between.
use Rattle.std.proofs.Common.{◌≡◌, ℕ, ◌+◌, ◌<◌, ◌≤◌, false, List, [], ◌∷◌, length, map, sum, take, Option, Some, None, refl, sym, ap, subst, ◌∙◌, arith}
use Rattle.std.specs.Prelude.{is_some, slice_get, slice_index_or, IfSome}
use Rattle.std.specs.List.{flat_map, range_with_len}
use Rattle.std.specs.Option.{option_map}
use Rattle.std.proofs.lemmas.List.{append-nil, length-append, length-map, take_all}
use Rattle.ring_lanes.specs.declared.source.Source.{Source}
use Rattle.pr_rack.specs.Told.{Tells}
use Rattle.std.proofs.lemmas.Simd.{map-map}
use Rattle.plan_json.specs.Data.{PlanData, plate_width, plate_height}
use Rattle.plan_json.specs.Plan.{IsPlan}
use Rattle.plan_rows.specs.Plates.{PlateOf, site_plates, site_files, plate_rows, file_of as plan_file_of}
use Rattle.plan_rows.specs.Rows.{row_places, row_number}
use Rattle.pr_rack.specs.Rack.{Plate, Slots}
use Rattle.tif_plate.specs.Plate.{plate_file}
use Rattle.tif_plate.specs.Tail.{counts_so_far, front_bytes}
use Rattle.tif_plate.proofs.Growth.{sum-counts_so_far}
use Rattle.tif_packbits.specs.Packbits.{packing}
use Rattle.std.proofs.lemmas.Option.{get_or_from_slice_get}
use Rattle.site_agent.specs.declared.plate.SitePlate.{SitePlate}
use Rattle.site_agent.specs.Job.{SiteJob, IsJob, number_in}
use Rattle.site_agent.specs.Given.{given, rows_of, open_in, finished_count, kept_below}
use Rattle.site_agent.specs.Plan.{plate_of, job_of}
use Rattle.site_agent.specs.Stands.{AreAsLong, AreBegun, path_and_length, grown, file_of, files_of, plate_below, rows_below, begun_plate, StandsAfter}
use Rattle.site_agent.proofs.Givens.{given-none, given-within}
use Rattle.site_agent.proofs.Steps.{length-rows_of}
use Rattle.site_agent.proofs.Opens.{plate_at, closed, closed-cases, finished-is}
use Rattle.site_agent.proofs.Jobs.{job_is}
use Rattle.std.proofs.Common.{inl}

-- ---- the start

grown-nothing : {X : Type 0} (list : Option (List X)) → list ≡ grown [] list
grown-nothing None = refl
grown-nothing (Some list) = ap Some (sym (append-nil list))

open-start : (job : SiteJob) (slot : ℕ) → open_in job 0 slot ≡ None
open-start job slot = closed job 0 slot (λ j d less same. closed-cases job.height 0 (plate_at job j d) (inl (given-none job.height 0 (plate_at job j d) (omega arith))))

kept-start : (job : SiteJob) → kept_below job 0 ≡ []
unfolding kept_below
kept-start job = refl

-- no slot of the rack is begun, and where the contents are known, none holds a plate
pub record IsIdle (tells : Tells) : Type 0 where
  pub begun : (slot : ℕ) → slot < 5 → slice_get tells.begun slot ≡ Some false
  pub working : IfSome tells.working (λ slots. (slot : ℕ) → slot < 5 → slice_get slots slot ≡ Some None)

pub stands_at_start : (job : SiteJob) (rows : List (List ℕ)) (source : Source) (tells : Tells)
    (counts : List (List ℕ)) → IsJob job → IsIdle tells → StandsAfter job rows source 0 tells tells counts
stands_at_start job rows source tells counts is idle = record {
  rack = record {
    finished = grown-nothing tells.finished ∙ ap (λ k. grown (take k (files_of job rows)) tells.finished) (sym none);
    taken = grown-nothing tells.taken ∙ ap (λ list. grown (map (λ k. (k, source)) list) tells.taken) (sym (kept-start job));
    begun = λ slot less. idle.begun slot less ∙ ap (λ p. Some (is_some (option_map (begun_plate job rows 0) p))) (sym (open-start job slot));
    working = slots tells.working idle.working;
  };
  strips = λ slot less. subst (λ (p : Option SitePlate). IfSome p (λ plate. slice_index_or counts slot [] ≡ counts_so_far job.width job.height (rows_below job rows 0 plate))) (sym (open-start job slot)) tt;
} where
  none : finished_count job 0 ≡ 0
  none = finished-is job 0 0 (omega arith) (λ j d less. absurd (omega arith)) (λ j d from less. omega arith)

  slots : (working : Option Slots)
      → IfSome working (λ slots. (slot : ℕ) → slot < 5 → slice_get slots slot ≡ Some None)
      → IfSome working (λ slots. (slot : ℕ) → slot < 5
      → slice_get slots slot ≡ Some (plate_below job rows 0 slot))
  slots None idle' = tt
  slots (Some held) idle' = λ slot less. idle' slot less ∙ ap (λ p. Some (option_map (begun_plate job rows 0) p)) (sym (open-start job slot))

-- ---- what the site requires of its rack for the next row

shown : (f : SitePlate → Plate) (plate : Option SitePlate) → is_some (option_map f plate) ≡ is_some plate
shown f None = refl
shown f (Some plate) = refl

pub asks_begun : (job : SiteJob) (rows : List (List ℕ)) (source : Source) (n : ℕ) (before now : Tells)
    (counts : List (List ℕ)) → StandsAfter job rows source n before now counts → AreBegun job n now.begun
asks_begun job rows source n before now counts stands =
    record {
      each = λ slot less. stands.rack.begun slot less ∙ ap Some
          (shown (begun_plate job rows n) (open_in job n slot));
    }

pub asks_working : (job : SiteJob) (rows : List (List ℕ)) (source : Source) (n : ℕ) (before now : Tells)
    (counts : List (List ℕ)) → StandsAfter job rows source n before now counts
    → IfSome now.working (AreAsLong job n counts)
asks_working job rows source n before now counts stands = by_told now.working stands.rack.working where
  long : (slot : ℕ) (plate : Option SitePlate)
      → IfSome plate (λ p. slice_index_or counts slot []
      ≡ counts_so_far job.width job.height (rows_below job rows n p))
      → option_map path_and_length (option_map (begun_plate job rows n) plate)
      ≡ option_map (λ p. (p.path, 8 + sum (slice_index_or counts slot []))) plate
  long slot None are = refl
  long slot (Some p) are =
      let given-rows : List (List ℕ) = rows_below job rows n p in
      let few : length given-rows ≤ job.height = omega (arith, length-rows_of rows p (given job.height p n), given-within job.height n p) in
      ap (λ m. Some (p.path, m))
      (omega (arith, length-append front_bytes (flat_map packing given-rows))
      ∙ ap (λ m. 8 + m) (sym (sum-counts_so_far job.width job.height given-rows few) ∙ ap sum (sym are)))

  by_told : (working : Option Slots)
      → IfSome working (λ slots. (slot : ℕ) → slot < 5
      → slice_get slots slot ≡ Some (plate_below job rows n slot)) → IfSome working (AreAsLong job n counts)
  by_told None told = tt
  by_told (Some slots) told = record {
    each = λ slot less. ap (option_map path_and_length) (get_or_from_slice_get slots slot (plate_below job rows n slot) None (told slot less)) ∙ long slot (open_in job n slot) (stands.strips slot less);
  }

-- ---- the end

pub finished-end : (job : SiteJob) → IsJob job → finished_count job job.total ≡ length job.plates
finished-end job is = finished-is job job.total (length job.plates) (omega arith) (λ j d less. is.within j d less) (λ j d from less. absurd (omega arith))

-- the rack's finished plates grew by exactly the files of the job
pub finished_at_end : (job : SiteJob) (rows : List (List ℕ)) (source : Source) (before now : Tells)
    (counts : List (List ℕ)) → IsJob job → StandsAfter job rows source job.total before now counts
    → now.finished ≡ grown (files_of job rows) before.finished
finished_at_end job rows source before now counts is stands =
    stands.rack.finished
    ∙ ap (λ k. grown (take k (files_of job rows)) before.finished) (finished-end job is)
    ∙ ap (λ files. grown files before.finished) (take_all (length job.plates) (files_of job rows) (omega (arith, length-map job.plates (file_of job rows))))

-- ---- in terms of the plan

pub number-is : (plan : PlanData) (out : List ℕ) (site y : ℕ) (plate : PlateOf)
    → number_in (plate_of plan out site plate) y ≡ row_number plate.0 y plate.1
number-is plan out site y plate = omega arith

map-alike : {X Y : Type 0} (f g : X → Y) (xs : List X) → ((x : X) → f x ≡ g x) → map f xs ≡ map g xs
map-alike f g [] same = refl
map-alike f g (x ∷ xs) same = ap (λ y. y ∷ map f xs) (same x) ∙ ap (λ ys. g x ∷ ys) (map-alike f g xs same)

rows-are : (plan : PlanData) (rows : List (List ℕ)) (out : List ℕ) (site : ℕ) (plate : PlateOf)
    → rows_of rows (plate_of plan out site plate) (plate_height plan) ≡ plate_rows plan rows plate
unfolding rows_of
rows-are plan rows out site plate =
    map-alike (λ y. slice_index_or rows (number_in (plate_of plan out site plate) y) []) (λ y. slice_index_or rows (row_number plate.0 y plate.1) []) (range_with_len 0 (plate_height plan))
    (λ y. ap (λ n. slice_index_or rows n []) (number-is plan out site y plate))

-- the files of a site's job are the site's files of the plan
pub files_are : (plan : PlanData) (rows : List (List ℕ)) (out : List ℕ) (site : ℕ)
    → files_of (job_of plan out site) rows ≡ site_files plan rows out site
files_are plan rows out site =
    map-map (file_of (job_of plan out site) rows) (plate_of plan out site) (site_plates plan site)
    ∙ map-alike (λ plate. file_of (job_of plan out site) rows (plate_of plan out site plate)) (plan_file_of plan rows out site) (site_plates plan site)
    (λ plate. ap (λ list. ((plate_of plan out site plate).path, plate_file (plate_width plan) plan.dpi list)) (rows-are plan rows out site plate))

-- after the last row, the rack's finished plates grew by exactly the site's files
pub site_at_end : (plan : PlanData) (rows : List (List ℕ)) (out : List ℕ) (site : ℕ) (source : Source)
    (before now : Tells) (counts : List (List ℕ)) → IsPlan plan
    → StandsAfter (job_of plan out site) rows source (length (row_places plan)) before now counts
    → now.finished ≡ grown (site_files plan rows out site) before.finished
site_at_end plan rows out site source before now counts is stands =
    finished_at_end (job_of plan out site) rows source before now counts (job_is plan out site is) stands ∙ ap (λ files. grown files before.finished) (files_are plan rows out site)
