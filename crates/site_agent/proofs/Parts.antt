-- A site of some of its plates: they are in order too, and their files are the picked ones of the site's
-- files.
use Rattle.std.proofs.Common.{◌≡◌, ℕ, suc, ◌+◌, ◌<◌, ◌≤◌, Bool, true, false, cond, if◌then◌else◌, List, [], ◌∷◌, ◌++◌, length, map, take, get_or, refl, sym, ap, subst, ◌∙◌, ⊎_elim, arith}
use Rattle.std.specs.Prelude.{All, AllPairs, count_by}
use Rattle.std.proofs.lemmas.Bool.{cases_lt}
use Rattle.std.proofs.lemmas.List.{get_or-map, length-map, take_all}
use Rattle.std.proofs.lemmas.List.Elements.{All-cons, All-head, All-nil, All-tail}
use Rattle.std.proofs.lemmas.List.Kept.{AllPairs-cons}
use Rattle.std.proofs.lemmas.List.Sums.{sum_by-cons}
use Rattle.pr_base.specs.Row.{row_size}
use Rattle.ring_lanes.specs.declared.source.Source.{Source}
use Rattle.pr_rack.specs.Rack.{Plate}
use Rattle.pr_rack.specs.Told.{Tells}
use Rattle.plan_json.specs.Data.{PlanData, plate_width}
use Rattle.plan_json.specs.Plan.{IsPlan}
use Rattle.plan_rows.specs.Rows.{row_places}
use Rattle.site_agent.specs.declared.plate.SitePlate.{SitePlate}
use Rattle.site_agent.specs.declared.kept.LeftCause.{LeftCause}
use Rattle.site_agent.specs.Given.{IsRowOf, finished_count}
use Rattle.site_agent.specs.Going.{IsGoing}
use Rattle.site_agent.specs.Job.{IsBefore, IsJob, IsSitePlate, SiteJob, last_in}
use Rattle.site_agent.specs.Kept.{IsCauseAt}
use Rattle.site_agent.specs.Picked.{kept_where, part_of, picked_files, picked_job, picked_site}
use Rattle.site_agent.specs.Plan.{job_of}
use Rattle.site_agent.specs.Stands.{StandsAfter, file_of, files_below, files_of, grown}
use Rattle.site_agent.proofs.Jobs.{job_is}
use Rattle.site_agent.proofs.Opens.{finished-below, row-last}
use Rattle.site_agent.proofs.Runs.{IsIdle, files_are, stands_at_start}

-- ---- lists

pub kept-nil : {X : Type 0} (bits : List Bool) → kept_where {X = X} bits [] ≡ []
kept-nil [] = refl
kept-nil (bit ∷ bits) = refl

-- one more entry at the end
pub kept-more : {X : Type 0} (bits : List Bool) (xs : List X) (x : X) → length xs < length bits
    → kept_where bits (xs ++ x ∷ [])
    ≡ kept_where bits xs ++ (if get_or bits (length xs) false then x ∷ [] else [])
kept-more [] xs x less = absurd (omega (arith, less))
kept-more {X} (bit ∷ bits) [] x less = by bit where
  by : (b : Bool) → (if b then x ∷ kept_where bits [] else kept_where bits []) ≡ (if b then x ∷ [] else [])
  by true = ap (λ list. x ∷ list) (kept-nil bits)
  by false = kept-nil bits
kept-more {X} (bit ∷ bits) (z ∷ xs) x less = by bit (kept-more bits xs x (omega (arith, less))) where
  by : (b : Bool)
      → kept_where bits (xs ++ x ∷ []) ≡ kept_where bits xs ++
      (if get_or bits (length xs) false then x ∷ [] else [])
      → (if b then z ∷ kept_where bits (xs ++ x ∷ []) else kept_where bits (xs ++ x ∷ []))
      ≡ (if b then z ∷ kept_where bits xs else kept_where bits xs) ++
      (if get_or bits (length xs) false then x ∷ [] else [])
  by true next = ap (λ list. z ∷ list) next
  by false next = next

pub map-kept : {X Y : Type 0} (f : X → Y) (bits : List Bool) (xs : List X)
    → map f (kept_where bits xs) ≡ kept_where bits (map f xs)
map-kept f [] xs = refl
map-kept f (bit ∷ bits) [] = refl
map-kept {X} {Y} f (bit ∷ bits) (x ∷ xs) = by bit (map-kept f bits xs) where
  by : (b : Bool) → map f (kept_where bits xs) ≡ kept_where bits (map f xs)
      → map f (if b then x ∷ kept_where bits xs else kept_where bits xs)
      ≡ (if b then f x ∷ kept_where bits (map f xs) else kept_where bits (map f xs))
  by true next = ap (λ list. f x ∷ list) next
  by false next = next

-- as many entries are kept as there are true bits
pub length-kept : {X : Type 0} (bits : List Bool) (xs : List X) → length bits ≡ length xs
    → length (kept_where bits xs) ≡ count_by (λ bit. bit) bits
length-kept [] xs same = refl
length-kept (bit ∷ bits) [] same = absurd (omega (arith, same))
length-kept {X} (bit ∷ bits) (x ∷ xs) same = by bit (length-kept bits xs (omega (arith, same))) ∙ sym (sum_by-cons (λ b. cond b 1 0) bit bits) where
  by : (b : Bool) → length (kept_where bits xs) ≡ count_by (λ c. c) bits
      → length (if b then x ∷ kept_where bits xs else kept_where bits xs)
      ≡ cond b 1 0 + count_by (λ c. c) bits
  by true next = omega (arith, next)
  by false next = omega (arith, next)

pub kept-most : {X : Type 0} (bits : List Bool) (xs : List X) → length (kept_where bits xs) ≤ length xs
kept-most [] xs = omega arith
kept-most (bit ∷ bits) [] = omega arith
kept-most {X} (bit ∷ bits) (x ∷ xs) = by bit (kept-most bits xs) where
  by : (b : Bool) → length (kept_where bits xs) ≤ length xs
      → length (if b then x ∷ kept_where bits xs else kept_where bits xs) ≤ length (x ∷ xs)
  by true next = omega (arith, next)
  by false next = omega (arith, next)

-- what holds of every entry holds of every kept one
All-kept : {X : Type 0} (P : X → Type 0) (bits : List Bool) (xs : List X) → All P xs
    → All P (kept_where bits xs)
All-kept P [] xs all = All-nil P
All-kept P (bit ∷ bits) [] all = All-nil P
All-kept {X} P (bit ∷ bits) (x ∷ xs) all = by bit (All-kept P bits xs (All-tail P x xs all)) where
  by : (b : Bool) → All P (kept_where bits xs)
      → All P (if b then x ∷ kept_where bits xs else kept_where bits xs)
  by true next = All-cons P x (kept_where bits xs) (All-head P x xs all) next
  by false next = next

-- and the kept ones are in the same order
AllPairs-kept : {X : Type 0} (R : X → X → Type 0) (bits : List Bool) (xs : List X) → AllPairs R xs
    → AllPairs R (kept_where bits xs)
AllPairs-kept R [] xs all = λ i j d less within. absurd (omega (arith, within))
AllPairs-kept R (bit ∷ bits) [] all = λ i j d less within. absurd (omega (arith, within))
AllPairs-kept {X} R (bit ∷ bits) (x ∷ xs) all =
    by bit (AllPairs-kept R bits xs (λ i j d less within. all (suc i) (suc j) d (omega (arith, less)) (omega (arith, within))))
    (All-kept (R x) bits xs (λ k d less. all 0 (suc k) d (omega arith) (omega (arith, less)))) where
      by : (b : Bool) → AllPairs R (kept_where bits xs) → All (R x) (kept_where bits xs)
          → AllPairs R (if b then x ∷ kept_where bits xs else kept_where bits xs)
      by true next first = AllPairs-cons R x (kept_where bits xs) first next
      by false next first = next

-- ---- jobs

-- a selection of a job's plates is a job
pub part_is : (job : SiteJob) (bits : List Bool) → IsJob job → IsJob (part_of job bits)
part_is job bits is = record {
  width = is.width;
  height = is.height;
  dpi = is.dpi;
  each = All-kept IsSitePlate bits job.plates is.each;
  order = AllPairs-kept (IsBefore job.height) bits job.plates is.order;
  within = All-kept (λ plate. last_in job.height plate < job.total) bits job.plates is.within;
  rows = is.rows;
  few = (let few = is.few in let most = kept-most bits job.plates in omega (arith, few, most));
}

pub picked_is : (plan : PlanData) (out : List ℕ) (site : ℕ) (bits : List Bool) → IsPlan plan
    → IsJob (picked_job plan out site bits)
picked_is plan out site bits is = part_is (job_of plan out site) bits (job_is plan out site is)

-- its files are the picked ones of the site's files
pub picked_files_are : (plan : PlanData) (rows : List (List ℕ)) (out : List ℕ) (site : ℕ) (bits : List Bool)
    → files_of (picked_job plan out site bits) rows ≡ picked_files plan rows out site bits
picked_files_are plan rows out site bits =
    map-kept (file_of (job_of plan out site) rows) bits (job_of plan out site).plates ∙ ap (kept_where bits) (files_are plan rows out site)

-- ---- a run

-- a new site of the picked plates, with a rack without begun slots
pub picked_at_start : (plan : PlanData) (rows : List (List ℕ)) (out : List ℕ) (site : ℕ) (bits : List Bool)
    (source : Source) (tells : Tells) → IsPlan plan → IsIdle tells
    → length rows ≡ length (row_places plan) → All (λ row. length row ≡ row_size (plate_width plan)) rows
    → IsGoing rows source tells tells (picked_site plan out site bits)
picked_at_start plan rows out site bits source tells is idle total sides = record {
  on = refl;
  total = total;
  sides = sides;
  stands = stands_at_start (picked_job plan out site bits) rows source tells (picked_site plan out site bits).counts (picked_is plan out site bits is) idle;
}

-- below a row, the rack's finished plates grew by the first of the picked files
pub picked_below : (plan : PlanData) (rows : List (List ℕ)) (out : List ℕ) (site n : ℕ) (bits : List Bool)
    → files_below (picked_job plan out site bits) rows n
    ≡ take (finished_count (picked_job plan out site bits) n) (picked_files plan rows out site bits)
picked_below plan rows out site n bits = ap (take (finished_count (picked_job plan out site bits) n)) (picked_files_are plan rows out site bits)

-- once all its plates are finished, by exactly the picked files
pub picked_at_end : (plan : PlanData) (rows : List (List ℕ)) (out : List ℕ) (site n : ℕ) (bits : List Bool)
    (source : Source) (before now : Tells) (counts : List (List ℕ))
    → finished_count (picked_job plan out site bits) n ≡ length (picked_job plan out site bits).plates
    → StandsAfter (picked_job plan out site bits) rows source n before now counts
    → now.finished ≡ grown (picked_files plan rows out site bits) before.finished
picked_at_end plan rows out site n bits source before now counts all stands =
    let job : SiteJob = picked_job plan out site bits in
    stands.rack.finished
    ∙ ap (λ k. grown (take k (files_of job rows)) before.finished) all
    ∙ ap (λ files. grown files before.finished)
    (take_all (length job.plates) (files_of job rows) (omega (arith, length-map job.plates (file_of job rows))) ∙ picked_files_are plan rows out site bits)

-- ---- a site that dropped out

-- at a row, no more plates are finished than precede the row's plate
pub finished_before : (job : SiteJob) (n k y : ℕ) (d : SitePlate) → IsJob job → IsRowOf job n k y
    → finished_count job n ≤ k
finished_before job n k y d is row =
    ⊎_elim
    (λ (more : k < finished_count job n). absurd (omega (arith, finished-below job n k d is more, row-last job n k y d row)))
    (λ (most : finished_count job n ≤ k). most)
    (cases_lt k (finished_count job n))

-- its plate is one of the unfinished ones
pub record IsLeftAt (files : List Plate) (made : ℕ) (path : List ℕ) : Type 0 where
  pub index : ℕ
  pub from : made ≤ index
  pub within : index < length files
  pub is : (d : Plate) → (get_or files index d).0 ≡ path

pub picked_left : (plan : PlanData) (rows : List (List ℕ)) (out : List ℕ) (site n : ℕ) (bits : List Bool)
    (cause : LeftCause) → IsPlan plan → IsCauseAt (picked_job plan out site bits) n cause
    → IsLeftAt (picked_files plan rows out site bits) cause.plates cause.path
picked_left plan rows out site n bits cause is at =
    let job : SiteJob = picked_job plan out site bits in
    let none : SitePlate = record { path = []; first = 0; step = 0; slot = 0 } in
    let before : finished_count job n ≤ at.index = finished_before job n at.index at.y none (picked_is plan out site bits is) at.is in
    let plates : cause.plates ≡ finished_count job n = at.plates in
    let inside : at.index < length job.plates = at.is.within in
    subst (λ (files : List Plate). IsLeftAt files cause.plates cause.path) (picked_files_are plan rows out site bits)
    (record {
      index = at.index;
      from = omega (arith, before, plates);
      within = omega (arith, inside, length-map job.plates (file_of job rows));
      is = λ d. ap (λ (file : Plate). file.0) (get_or-map (file_of job rows) job.plates at.index none d inside) ∙ sym (at.path none);
    })
