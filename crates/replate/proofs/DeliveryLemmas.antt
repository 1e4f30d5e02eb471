-- A site of a delivery, from the first row to the last, and the racks of all.
use Rattle.std.proofs.Common.{◌≡◌, ℕ, zero, suc, ◌+◌, ◌-◌, ◌<◌, ◌≤◌, Bool, true, false, not, List, [], ◌∷◌}
use Rattle.std.proofs.Common.{◌++◌, length, map, get_or, eqb, Option, Some, None, refl, sym, ap, subst, ◌∙◌}
use Rattle.std.proofs.Common.{append-nil, ⊎_elim, inl, arith}
use Rattle.std.specs.Prelude.{All, count_by, drop, slice_get}
use Rattle.std.specs.Option.{option_map}
use Rattle.std.proofs.lemmas.Bool.{cases_lt, eq-eqb, eqb-true, false≢true}
use Rattle.std.proofs.lemmas.List.{length-map}
use Rattle.std.proofs.lemmas.List.Sums.{count_by-le-length}
use Rattle.std.proofs.lemmas.Option.{same_Some, slice_get-get_or, slice_get-map, slice_get_within}
use Rattle.std.proofs.Math.Seq.{drop-cons}
use Rattle.pr_base.specs.Row.{FitsNext}
use Rattle.ring_lanes.specs.declared.source.Source.TheVariants.{Deck}
use Rattle.tif_packbits.specs.Frame.{framed_row}
use Rattle.pr_rack.specs.Rack.{none_begun}
use Rattle.pr_rack.specs.Told.{RackTells}
use Rattle.plan_json.specs.Data.{PlanData}
use Rattle.plan_json.specs.Plan.{IsPlan}
use Rattle.plan_rows.specs.Plates.{site_files, site_plates}
use Rattle.plan_rows.specs.Rows.{row_places}
use Rattle.site_agent.specs.Given.{finished_count, kept_below}
use Rattle.site_agent.specs.Job.{SiteJob, IsJob}
use Rattle.site_agent.specs.Picked.{picked_job}
use Rattle.site_agent.specs.Racks.{TellsSlots}
use Rattle.site_agent.specs.Site.{SiteData}
use Rattle.site_agent.specs.Stands.{StandsAfter, grown, taken_below}
use Rattle.site_agent.proofs.Parts.{length-kept, picked_at_end, picked_at_start, picked_is}
use Rattle.site_agent.proofs.Racks.{idle_is, over_wide, slice_get-front}
use Rattle.site_agent.proofs.Runs.{finished-end}
use Rattle.replate.specs.declared.maker.Maker.{Maker}
use Rattle.replate.specs.declared.remade.RemadeEnd.{RemadeEnd}
use Rattle.replate.specs.declared.remade.RemadeEnd.TheVariants.{Done, Left}
use Rattle.replate.specs.Making.{Carries, IsServed, ServedBy, UpBy, fresh_maker}
use Rattle.replate.specs.Making.{is_making, making_by, HasPart}
use Rattle.replate.specs.Picks.{PicksData}
use Rattle.replate.specs.Remade.{FitsEnd, FitsPart, Making, RemadeFits, RemadePart, by_picks, picked_bits}
use Rattle.replate.proofs.DoneLemmas.{none_begun_at, stands_on}
use Rattle.replate.proofs.MakerLemmas.{stands_at}
use Rattle.replate.proofs.RowLemmas.{there_is}
use Rattle.replate.proofs.WantedLemmas.{length-picked_bits}

-- each site has handled the rows below row n, or has left
pub record AreServed (making : Making) (n : ℕ) (before now : List RackTells) (makers : List Maker)
    : Type 0 where
  pub count : length makers ≡ length making.plan.sites
  pub each : (site : ℕ) (old new : RackTells) (maker : Maker) → slice_get before site ≡ Some old
      → slice_get now site ≡ Some new → slice_get makers site ≡ Some maker
      → IsServed making site n old new maker

-- each rack has at least a part of its files
pub record HaveParts (making : Making) (before now : List RackTells) : Type 0 where
  pub each : (site : ℕ) (old new : RackTells) → site < length making.plan.sites
      → slice_get before site ≡ Some old → slice_get now site ≡ Some new → HasPart making site old new

-- ---- racks

-- the rack that reports this
pub rack_at : {R : Type 0} (tell : R → RackTells) (racks : List R) (i : ℕ) (told : RackTells)
    → slice_get (map tell racks) i ≡ Some told
    → (rack : R) × (slice_get racks i ≡ Some rack) × (tell rack ≡ told)
rack_at tell [] i told there = absurd (none there) where
  none : None ≡ Some told → ⊥
  none e = cc
rack_at tell (rack ∷ racks) zero told there = (rack, refl, same_Some (tell rack) told there)
rack_at tell (rack ∷ racks) (suc i) told there = rack_at tell racks i told there

pub tells_at : {R : Type 0} (tell : R → RackTells) (racks : List R) (i : ℕ) (rack : R)
    → slice_get racks i ≡ Some rack → slice_get (map tell racks) i ≡ Some (tell rack)
tells_at tell racks i rack there = slice_get-map tell racks i ∙ ap (option_map tell) there

-- ---- the start

-- a site before the first row
pub begins_at : (plan : PlanData) (frames : List (List ℕ)) (out : List ℕ) (picks : PicksData) (site : ℕ)
    (told : RackTells) → Carries (by_picks plan (map framed_row frames) out picks) frames
    → site < length plan.sites
    → TellsSlots told → told.tells.begun ≡ none_begun
    → IsServed (by_picks plan (map framed_row frames) out picks) site 0 told told
    (fresh_maker plan out picks site)
begins_at plan frames out picks site told carries within slots idle = record {
  job_is = refl;
  next_is = refl;
  is = picked_at_start plan rows out site bits Deck told.tells carries.plan_is (idle_is told slots idle)
      (length-map frames framed_row ∙ carries.rows_are.count) carries.rows_are.are.each;
  made_are = sym (length-kept bits (site_files plan rows out site) long);
  kept_are = (let most : count_by (λ (bit : Bool). bit) bits ≤ length bits =
      count_by-le-length (λ (bit : Bool). bit) bits in omega (arith, most, long));
  missed = refl;
  faults = (let e : told.faults ≤ told.faults = omega arith in e);
} where
  rows : List (List ℕ)
  rows = map framed_row frames

  bits : List Bool
  bits = picked_bits picks plan site

  long : length bits ≡ length (site_files plan rows out site)
  long = length-picked_bits picks plan site ∙ sym (length-map (site_plates plan site) _)

-- ---- plates that are left to make

pub up_of : (making : Making) (site n : ℕ) (before now : RackTells) (going : SiteData) (end : RemadeEnd)
    → ServedBy making site n before now going end → UpBy end going
up_of making site n before now going (Done made kept) at = at.is.on
up_of making site n before now going (Left made path) left = tt

-- a site and its rack
pub served_at : (making : Making) (n : ℕ) (before now : List RackTells) (makers : List Maker) (i : ℕ)
    (d : Maker) → length before ≡ length makers → length now ≡ length makers
    → AreServed making n before now makers → i < length makers
    → (old : RackTells) × ((new : RackTells) × IsServed making i n old new (get_or makers i d))
served_at making n before now makers i d olds news served less =
    let old = there_is before i (omega (arith, less, olds)) in
    let new = there_is now i (omega (arith, less, news)) in (
      old.0,
      (
        new.0,
        served.each i old.0 new.0 (get_or makers i d) old.1 new.1
            (slice_get-get_or makers i d less),
      ),
    )

-- after the last row no site has plates left to make
none_left : (making : Making) (site n : ℕ) (before now : RackTells) (going : SiteData) (end : RemadeEnd)
    → IsPlan making.plan → n ≡ length (row_places making.plan) → ServedBy making site n before now going end
    → making_by end going ≡ false
none_left making site n before now going (Done made kept) is last at =
    let job : SiteJob = picked_job making.plan making.out site (making.bits site) in
    let all : finished_count job going.next ≡ length job.plates =
    ap (finished_count job) (at.next_is ∙ last)
    ∙ finished-end job (picked_is making.plan making.out site (making.bits site) is) in
    let all' : finished_count going.job going.next ≡ length going.job.plates =
    subst (λ (j : SiteJob). finished_count j going.next ≡ length j.plates) (sym at.job_is) all in
    ap not (eq-eqb (finished_count going.job going.next) (length going.job.plates) all')
none_left making site n before now going (Left made path) is last left = refl

-- so a row is left while some site has plates left to make
pub row_is_left : (making : Making) (frames : List (List ℕ)) (n : ℕ) (before now : List RackTells)
    (makers : List Maker) (i : ℕ) (d : Maker) → Carries making frames → length before ≡ length makers
    → length now ≡ length makers
    → AreServed making n before now makers → n ≤ length frames → i < length makers
    → is_making (get_or makers i d) ≡ true → n < length frames
row_is_left making frames n before now makers i d carries olds news served most less some =
    ⊎_elim
    (λ (more : n < length frames). more)
    (λ (last : length frames ≤ n).
    let at = served_at making n before now makers i d olds news served less in
    let none : is_making (get_or makers i d) ≡ false =
    none_left making i n at.0 at.1.0 (get_or makers i d).site (get_or makers i d).end carries.plan_is
    ((let e : n ≡ length frames = omega (arith, last, most) in e) ∙ carries.rows_are.count) at.1.1 in
    absurd (false≢true (sym none ∙ some)))
    (cases_lt n (length frames))

-- ---- the feed

-- the next of the remaining rows
pub next_is : (rows : List (List ℕ)) (n : ℕ) (row : List ℕ) (rest : List (List ℕ)) → drop n rows ≡ row ∷ rest
    → (slice_get rows n ≡ Some row) × (rest ≡ drop (n + 1) rows)
next_is [] zero row rest is = absurd (none is) where
  none : [] ≡ row ∷ rest → ⊥
  none e = cc
next_is [] (suc n) row rest is = absurd (none is) where
  none : [] ≡ row ∷ rest → ⊥
  none e = cc
next_is (x ∷ xs) zero row rest is = (cc, cc)
next_is (x ∷ xs) (suc n) row rest is =
    let next = next_is xs n row rest is in
    (next.0, next.1 ∙ ap (λ k. drop k (x ∷ xs)) (let e : suc (n + 1) ≡ suc n + 1 = omega arith in e))

pub fits_next : (rows left : List (List ℕ)) (n size : ℕ) → left ≡ drop n rows → n < length rows
    → All (λ row. length row ≡ size) rows → FitsNext left size
fits_next rows left n size is less all =
    subst (λ (l : List (List ℕ)). FitsNext l size) (sym (is ∙ drop-cons rows n [] less)) (sym (all n [] less))

-- ---- the end

pub remade_part : {making : Making} {before now : List RackTells} → HaveParts making before now
    → RemadePart making before now
remade_part parts = record { each = λ site old new less b r. (parts.each site old new less b r).part }

grown-nothing : {X : Type 0} (list : Option (List X)) → list ≡ grown [] list
grown-nothing None = refl
grown-nothing (Some list) = ap Some (sym (append-nil list))

-- no file at all is a part
pub none_part : (making : Making) (before : List RackTells) → RemadePart making before before
unfolding kept_below
none_part making before = record {
  each = λ site old new less b r.
      subst (λ (now : RackTells). FitsPart making site old now) (same_Some old new (sym b ∙ r))
      (record {
        files = 0;
        finished = grown-nothing old.tells.finished;
        row = 0;
        taken = inl (grown-nothing old.tells.taken);
        calls = inl refl;
      });
}

-- a site without plates left to make fits its end
pub end_fits : (making : Making) (site n : ℕ) (before now : RackTells) (going : SiteData) (end : RemadeEnd)
    → IsPlan making.plan → n ≤ length (row_places making.plan) → making_by end going ≡ false
    → ServedBy making site n before now going end → FitsEnd making site before now end
end_fits making site n before now going (Done made kept) is within none at =
    let job : SiteJob = picked_job making.plan making.out site (making.bits site) in
    let all : finished_count going.job going.next ≡ length going.job.plates =
    eqb-true (finished_count going.job going.next) (length going.job.plates)
    (not_false (eqb (finished_count going.job going.next) (length going.job.plates)) none) in
    let last : ℕ = length (row_places making.plan) in
    let own : IsJob job = picked_is making.plan making.out site (making.bits site) is in
    let stands : StandsAfter job making.rows Deck n before.tells now.tells going.counts =
    stands_at making site n before now going made kept at in
    let all' : finished_count job n ≡ length job.plates =
    subst (λ (m : ℕ). finished_count job m ≡ length job.plates) at.next_is
    (subst (λ (j : SiteJob). finished_count j going.next ≡ length j.plates) at.job_is all) in
    record {
      made_are = at.made_are;
      kept_are = at.kept_are;
      finished = picked_at_end making.plan making.rows making.out site n (making.bits site) Deck before.tells
          now.tells going.counts all' stands;
      taken = (stands_on job making.rows Deck n (last - n) before.tells now.tells going.counts own all'
          stands).rack.taken
          ∙ ap (λ m. grown (taken_below job Deck m) before.tells.taken)
          (let e : n + (last - n) ≡ last = omega (arith, within) in e);
      begun = none_begun_at job making.rows Deck n before.tells now.tells going.counts own all' stands;
      missed = at.missed;
    } where
      not_false : (b : Bool) → not b ≡ false → b ≡ true
      not_false true e = refl
      not_false false e = sym e
end_fits making site n before now going (Left made path) is within none left = left.fits

-- ---- the racks of the sites, and those after them

pub fits_wide : {X : Type 0} (tell : X → RackTells) (making : Making)
    (racks racks' front front' rest : List X) (ends : List RemadeEnd) → racks ≡ front ++ rest
    → racks' ≡ front' ++ rest → length front ≡ length making.plan.sites
    → length front' ≡ length front → RemadeFits making (map tell front) (map tell front') ends
    → RemadeFits making (map tell racks) (map tell racks') ends
fits_wide tell making racks racks' front front' rest ends is is' long same fits =
    over_wide tell (λ old new. RemadeFits making old new ends) racks racks' front front' rest is is'
    (record {
      count = fits.count;
      each = λ site old new end b r e.
          let count = fits.count in
          let inside : site < length making.plan.sites =
          omega (arith, slice_get_within ends site end e, count) in
          fits.each site old new end
          (sym (slice_get-front (map tell front) (map tell rest) site
          (omega (arith, inside, long, length-map front tell))) ∙ b)
          (sym (slice_get-front (map tell front') (map tell rest) site
          (omega (arith, inside, long, same, length-map front' tell))) ∙ r) e;
    })

pub part_wide : {X : Type 0} (tell : X → RackTells) (making : Making)
    (racks racks' front front' rest : List X) → racks ≡ front ++ rest → racks' ≡ front' ++ rest
    → length front ≡ length making.plan.sites
    → length front' ≡ length front → RemadePart making (map tell front) (map tell front')
    → RemadePart making (map tell racks) (map tell racks')
part_wide tell making racks racks' front front' rest is is' long same part =
    over_wide tell (λ old new. RemadePart making old new) racks racks' front front' rest is is'
    (record {
      each = λ site old new less b r.
          part.each site old new less
          (sym (slice_get-front (map tell front) (map tell rest) site
          (omega (arith, less, long, length-map front tell))) ∙ b)
          (sym (slice_get-front (map tell front') (map tell rest) site
          (omega (arith, less, long, same, length-map front' tell))) ∙ r);
    })
