-- The outcome of making the changed plates, from the outcomes of its steps.
use Rattle.std.proofs.Common.{◌≡◌, ◌<◌, ◌&&◌, ℕ, Bool, true, eqb, List, length, map, drop, get_or, IfOk, OnErr, Result, Ok, Err, refl, sym, ap, subst, ◌∙◌, arith}
use Rattle.std.specs.Prelude.{All, ◌↔◌, IsTrue}
use Rattle.std.specs.Global.{Vec}
use Rattle.std.proofs.lemmas.Bool.{and_parts, eq-eqb, eqb-true}
use Rattle.std.proofs.lemmas.List.Elements.{All-filter}
use Rattle.std.proofs.lemmas.List.Folds.{list_any_at}
use Rattle.pr_rack.specs.declared.rack.Rack as rack
use Rattle.pr_rack.specs.Told.{all_told}
use Rattle.tif_packbits.specs.Frame.{framed_row}
use Rattle.plan_json.specs.Data.{PlanData}
use Rattle.plan_json.specs.Plan.{IsPlan}
use Rattle.plan_rows.specs.Groups.{groups_of}
use Rattle.plan_rows.specs.Rows.{row_places}
use Rattle.press_job.specs.Job.{JobData}
use Rattle.press_job.specs.Rows.{plate_frames}
use Rattle.press_job.proofs.FrameLemmas.{length-plate_frames}
use Rattle.replate.specs.declared.remade.RemadeEnd.{RemadeEnd}
use Rattle.replate.specs.Inputs as replate
use Rattle.replate.specs.Picks.{MustMake, PicksData, dropped_of, is_dropped, is_made}
use Rattle.replate.specs.Plates.{IsPlateOf, PlateAt, all_plates}
use Rattle.replate.specs.Remade.{AreRowsOf, RemadeFits, RemadePart, by_picks}
use Rattle.replate.proofs.PlateLemmas.{some_plate}
use Rattle.cmd_replate.specs.declared.change.Late.{Late}
use Rattle.cmd_replate.specs.Change.{ArePicks, DeliversPicked, IsLoadedLate, IsPlaced, PrintsRemade, Remakes, compared, Change}
use Rattle.cmd_replate.specs.Remade.{dropped_lines, remade_text, status_of_remade, text_with}
use Rattle.cmd_base.specs.Seen.{AreReady, ShelfSeen}
use Rattle.cmd_base.proofs.Rows.{frames_in, over_job}

-- ---- dropped plates

-- a plan has the site and the group of each of its plates
placed : (plan : PlanData) → All (IsPlaced plan) (all_plates plan)
placed plan i d less =
    let at : PlateAt = get_or (all_plates plan) i d in
    let test : PlateAt → Bool = λ p. eqb p.site at.site && eqb p.group at.group in
    let here : test at ≡ true = rw (eq-eqb at.site at.site refl, eq-eqb at.group at.group refl) refl in
    let found = some_plate plan test (list_any_at test (all_plates plan) i d less here) in
    let same = and_parts (eqb found.0.site at.site) (eqb found.0.group at.group) found.2 in
    let site : found.0.site ≡ at.site = eqb-true found.0.site at.site same.0 in
    let group : found.0.group ≡ at.group = eqb-true found.0.group at.group same.1 in
    let S : ℕ → Type 0 = λ n. n < length plan.sites in
    let G : ℕ → Type 0 = λ n. n < length (groups_of plan) in
    record { site = subst S site found.1.site; group = subst G group found.1.group }

pub dropped_placed : (before after : PlanData) → All (IsPlaced before) (dropped_of before after)
unfolding dropped_of
dropped_placed before after = All-filter (is_dropped before after) (IsPlaced before) (all_plates before) (placed before)

-- ---- picks

-- the picks of two jobs as the comparison takes them are the picks of the jobs
pub picks_are : (before job : JobData) (olds news : replate.JobData) (picks : PicksData) → olds ≡ compared before → news ≡ compared job
    → ((new : PlateAt) → IsPlateOf news.plan new → IsTrue (is_made picks new.site new.group new.ink) ↔ MustMake olds news new)
    → ArePicks before job picks
picks_are before job olds news picks old new are =
    let Of : replate.JobData → replate.JobData → Type 0 = λ o n. (plate : PlateAt) → IsPlateOf n.plan plate
    → IsTrue (is_made picks plate.site plate.group plate.ink) ↔ MustMake o n plate in
    subst (λ (n : replate.JobData). Of (compared before) n) new (subst (λ (o : replate.JobData). Of o news) old are)

-- ---- the text

pub text_is : (before job plan : PlanData) (out : List ℕ) (ends items : List RemadeEnd) (dropped : List ℕ) → plan ≡ job → ends ≡ items
    → dropped ≡ dropped_lines before out (dropped_of before job) → text_with plan.sites ends dropped ≡ remade_text before job out items
text_is before job plan out ends items dropped same e d =
    ap (λ (p : PlanData). text_with p.sites ends dropped) same ∙ ap (λ (list : List RemadeEnd). text_with job.sites list dropped) e
    ∙ ap (text_with job.sites items) d

-- ---- the delivery

-- the rows of the feed are those of the job
pub rows_for : (own : PlanData) (job : JobData) → own ≡ job.plan → IsPlan job.plan → AreRowsOf own (plate_frames job.plan job.files)
rows_for own job same is = record {
  count = length-plate_frames job.plan job.files ∙ ap (λ (p : PlanData). length (row_places p)) (sym same);
  are = frames_in own job (plate_frames job.plan job.files) same is refl;
}

module _ {R E : Type 0} (g : rack.Ghosts R) (change : Change) (job : JobData) (picks : PicksData) (own : PlanData) (racks racks' : List R)
    (result : Result (Vec RemadeEnd) E) (same : own ≡ job.plan) (is : IsPlan job.plan)
    (others : drop (length own.sites) racks' ≡ drop (length own.sites) racks) where
  others_in : drop (length job.plan.sites) racks' ≡ drop (length job.plan.sites) racks
  others_in = subst (λ (p : PlanData). drop (length p.sites) racks' ≡ drop (length p.sites) racks) same others

  pub remakes : AreReady g racks → length racks' ≡ length racks
      → IfOk result (λ ends. RemadeFits (by_picks own (map framed_row (plate_frames job.plan job.files)) change.out picks) (all_told g racks) (all_told g racks') ends.items)
      → OnErr result (RemadePart (by_picks own (map framed_row (plate_frames job.plan job.files)) change.out picks) (all_told g racks) (all_told g racks'))
      → Remakes g change job picks racks racks' result
  remakes ready kept = by result where
    by : (result : Result (Vec RemadeEnd) E)
        → IfOk result (λ ends. RemadeFits (by_picks own (map framed_row (plate_frames job.plan job.files)) change.out picks) (all_told g racks) (all_told g racks') ends.items)
        → OnErr result (RemadePart (by_picks own (map framed_row (plate_frames job.plan job.files)) change.out picks) (all_told g racks) (all_told g racks'))
        → Remakes g change job picks racks racks' result
    by (Ok ends) fits part = record {
      enough = (let few = is.site_count.most in let enough = ready.enough in omega (arith, few, enough));
      kept = kept;
      fits = over_job own job (plate_frames job.plan job.files) same is refl
          (λ plan rows. RemadeFits (by_picks plan rows change.out picks) (all_told g racks) (all_told g racks') ends.items) fits;
      others = others_in;
    }
    by (Err memory) fits part = record {
      part = over_job own job (plate_frames job.plan job.files) same is refl
          (λ plan rows. RemadePart (by_picks plan rows change.out picks) (all_told g racks) (all_told g racks')) part;
      others = others_in;
    }

-- ---- the whole command

-- what it prints, where both jobs were loaded and the racks took the plates
pub prints_late : {R : Type 0} (g : rack.Ghosts R) (change : Change) (shelf : ShelfSeen) (late : Late) (loaded : IsLoadedLate change shelf.held late) (racks racks' : List R) (ends : List RemadeEnd) (text : List ℕ) (status : ℕ)
    → DeliversPicked g change late.job late.picks racks racks' ends → text ≡ remade_text loaded.before.plan late.job.plan change.out ends → status ≡ status_of_remade ends
    → PrintsRemade g change shelf racks racks' text status
prints_late g change shelf late loaded racks racks' ends text status delivers text_is status_is = record {
  before = loaded.before;
  job = late.job;
  picks = late.picks;
  compared_are = record { old_prepared = loaded.old_prepared; prepared = loaded.prepared; are_picks = loaded.is.are_picks };
  ends = ends;
  delivers = delivers;
  text_is = text_is;
  status_is = status_is;
}
