-- The command `replate`: makes the plates of an edition that changed, and only these.
use Rattle.std.specs.Prelude.{◌≡◌, ◌≤◌, ◌<◌, ◌↔◌, ℕ, ◌⊎◌, IsTrue, List, length, drop, Option, Result, Ok, Err}
use Rattle.std.specs.Prelude.{string_bytes}
use Rattle.std.specs.Global.{Vec}
use Rattle.std.specs.Option.{option_or}
use Rattle.pr_rack.specs.declared.rack.Rack.{Ghosts}
use Rattle.pr_rack.specs.Told.{all_told}
use Rattle.plan_json.specs.Data.{PlanData}
use Rattle.plan_rows.specs.Groups.{groups_of}
use Rattle.press_job.specs.Job.{JobData}
use Rattle.press_job.specs.Rows.{plate_rows}
use Rattle.replate.specs.declared.remade.RemadeEnd.{RemadeEnd}
use Rattle.replate.specs.Inputs as replate
use Rattle.replate.specs.Picks.{MustMake, PicksData, dropped_of, is_made}
use Rattle.replate.specs.Plates.{IsPlateOf, PlateAt}
use Rattle.replate.specs.Remade.{Making, RemadeFits, RemadePart, by_picks}
use Rattle.cmd_replate.specs.declared.change.Late.{Late}
use Rattle.cmd_base.specs.declared.refusal.Refusal.{Refusal}
use Rattle.cmd_base.specs.declared.refusal.Stop.{Stop}
use Rattle.cmd_base.specs.declared.refusal.Stop.TheVariants.{Refused, Memory, Printing}
use Rattle.cmd_base.specs.declared.refusal.Whose.TheVariants.{New, Old}
use Rattle.cmd_base.specs.Job.{IsPrepared, JobMeets, verdict_on_job}
use Rattle.cmd_replate.specs.Remade.{dropped_lines, remade_text, status_of_remade}
use Rattle.cmd_base.specs.Seen.{Files, ShelfSeen, SinkSeen}
use Rattle.cmd_base.specs.Task.{Answers, Makes, Rules}
use Rattle.cmd_replate.specs.declared.change.Change as coded

-- an edition whose changed plates are made: the plan made before it, the folder of that plan's files, its
-- own plan, the folder of its files, and the folder of its plates
pub record Change : Type 0 where
  pub old_plan : List ℕ
  pub old_files : List ℕ
  pub plan : List ℕ
  pub files : List ℕ
  pub out : List ℕ

-- the texts of an edition whose changed plates are made
abbrev pub change_told : coded.Change → Change
change_told change = record {
  old_plan = change.old_plan.now;
  old_files = change.old_files.now;
  plan = change.paths.plan.now;
  files = change.paths.files.now;
  out = change.paths.out.now;
}

-- ---- plates to make

-- a job as the comparison takes it
abbrev pub compared : JobData → replate.JobData
compared job = record { plan = job.plan; files = job.files }

-- the picks of an old and a new job: they mark exactly the plates that must be made
abbrev pub ArePicks : JobData → JobData → PicksData → Type 0
ArePicks before after picks = (new : PlateAt) → IsPlateOf after.plan new
    → IsTrue (is_made picks new.site new.group new.ink) ↔ MustMake (compared before) (compared after) new

-- the plates of a job to make
abbrev pub making_of : Change → JobData → PicksData → Making
making_of change job picks = by_picks job.plan (plate_rows job.plan job.files) change.out picks

-- an old and a new job were prepared, and these are their picks
pub record AreCompared (change : Change) (held : Option Files) (before job : JobData) (picks : PicksData)
    : Type 0 where
  pub old_prepared : IsPrepared held change.old_plan change.old_files before
  pub prepared : IsPrepared held change.plan change.files job
  pub are_picks : ArePicks before job picks

-- ---- refusals

-- the verdict on the old job or, where it passes, that on the new one
abbrev pub verdict_on_change : Change → Files → Option Refusal
verdict_on_change change files = option_or (verdict_on_job Old change.old_plan change.old_files files)
    (verdict_on_job New change.plan change.files files)

-- the old job is refused, or it was prepared and the new one is refused
abbrev pub ChangeMeets : Change → ShelfSeen → Refusal → Type 0
ChangeMeets change shelf refusal =
    JobMeets Old change.old_plan change.old_files shelf refusal
    ⊎ (((before : JobData) × IsPrepared shelf.held change.old_plan change.old_files before)
    × JobMeets New change.plan change.files shelf refusal)

abbrev pub change_rules : Change → Rules
change_rules change = record {
  verdict = verdict_on_change change;
  Meets = ChangeMeets change;
  Ends = λ files status. status ≡ 0;
}

-- ---- the racks and the text

module _ {R : Type 0} (g : Ghosts R) where
  -- each site's end fits what its rack gained, and the racks past the last site are unchanged
  pub record DeliversPicked (change : Change) (job : JobData) (picks : PicksData) (racks racks' : List R)
      (ends : List RemadeEnd) : Type 0 where
    pub enough : length job.plan.sites ≤ length racks
    pub kept : length racks' ≡ length racks
    pub fits : RemadeFits (making_of change job picks) (all_told g racks) (all_told g racks') ends
    pub others : drop (length job.plan.sites) racks' ≡ drop (length job.plan.sites) racks

  -- memory ran out: each rack gained the first of the files that its site was to make, and the racks past
  -- the last site are unchanged
  pub record DeliversPickedPart (change : Change) (job : JobData) (picks : PicksData) (racks racks' : List R)
      : Type 0 where
    pub part : RemadePart (making_of change job picks) (all_told g racks) (all_told g racks')
    pub others : drop (length job.plan.sites) racks' ≡ drop (length job.plan.sites) racks

  -- the racks after the plates were made, by the result
  abbrev pub Remakes : {Z : Type 0} → Change → JobData → PicksData → List R → List R
      → Result (Vec RemadeEnd) Z → Type 0
  Remakes change job picks racks racks' (Ok ends) = DeliversPicked change job picks racks racks' ends.items
  Remakes change job picks racks racks' (Err memory) = DeliversPickedPart change job picks racks racks'

  -- both jobs were prepared, the racks took what the sites' ends report, and the text lists the ends and
  -- the dropped plates
  pub record PrintsRemade (change : Change) (shelf : ShelfSeen) (racks racks' : List R) (text : List ℕ)
      (status : ℕ) : Type 0 where
    pub before : JobData
    pub job : JobData
    pub picks : PicksData
    pub compared_are : AreCompared change shelf.held before job picks
    pub ends : List RemadeEnd
    pub delivers : DeliversPicked change job picks racks racks' ends
    pub text_is : text ≡ remade_text before.plan job.plan change.out ends
    pub status_is : status ≡ status_of_remade ends

  -- both jobs were prepared, and memory ran out while plates were made
  pub record BeginsRemade (change : Change) (shelf : ShelfSeen) (racks racks' : List R) : Type 0 where
    pub before : JobData
    pub job : JobData
    pub picks : PicksData
    pub compared_are : AreCompared change shelf.held before job picks
    pub part : DeliversPickedPart change job picks racks racks'

  abbrev pub change_makes : Change → Makes R
  change_makes change = record {
    Prints = PrintsRemade change;
    Begins = BeginsRemade change;
  }

  -- the outcome of a call of the command
  abbrev pub AnswersChange : Change → ShelfSeen → List R → List R → SinkSeen → Result ℕ Stop → Type 0
  AnswersChange change shelf racks racks' out answer =
      Answers (change_rules change) (change_makes change) shelf racks racks' out answer

-- ---- private calls

-- the plan has the plate's site and group
pub record IsPlaced (plan : PlanData) (plate : PlateAt) : Type 0 where
  pub site : plate.site < length plan.sites
  pub group : plate.group < length (groups_of plan)

-- the data kept of two compared jobs: the picks are those of the new one, and the lines are those of the
-- dropped plates
pub record IsLate (before : JobData) (out : List ℕ) (late : Late) : Type 0 where
  pub are_picks : ArePicks before late.job late.picks
  pub groups : length late.picks.kept ≡ length (groups_of late.job.plan)
  pub dropped : string_bytes late.dropped
      ≡ dropped_lines before.plan out (dropped_of before.plan late.job.plan)

-- both jobs were loaded, and then compared
pub record IsLoadedLate (change : Change) (held : Option Files) (late : Late) : Type 0 where
  pub before : JobData
  pub old_prepared : IsPrepared held change.old_plan change.old_files before
  pub prepared : IsPrepared held change.plan change.files late.job
  pub is : IsLate before change.out late

-- why they were not
abbrev pub ChangeRefused : Change → ShelfSeen → Stop → Type 0
ChangeRefused change shelf (Refused refusal) = ChangeMeets change shelf refusal
ChangeRefused change shelf Memory = Unit {0}
ChangeRefused change shelf Printing = ⊥
