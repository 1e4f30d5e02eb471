-- The command `verify`: checks whether stored plates are those of an edition.
use Rattle.std.specs.Prelude.{◌≡◌, ℕ, ◌⊎◌, List, [], ◌∷◌, ◌++◌, length, codes, Some, None, IfSome, Result, Ok}
use Rattle.std.specs.Prelude.{Err}
use Rattle.std.specs.Fmt.{decimal}
use Rattle.pr_base.specs.Count.{Rose}
use Rattle.press_job.specs.Job.{JobData}
use Rattle.press_job.specs.Rows.{plate_rows}
use Rattle.plate_verify.specs.declared.checked.Checked.{Checked}
use Rattle.plate_verify.specs.declared.checked.Checked.TheVariants.{Long}
use Rattle.plate_verify.specs.Verifying.{IfLong, NoneWrong, UnlessLong, path_at, told}
use Rattle.plate_verify.specs.Order.{SitePlate, plates_in_order}
use Rattle.plate_verify.specs.Wrong.{Found, AllRight, OtherAt, TooMany, NotHeld, first_wrong}
use Rattle.cmd_base.specs.declared.refusal.Whose.TheVariants.{New}
use Rattle.cmd_base.specs.declared.refusal.Refusal.{Refusal}
use Rattle.cmd_base.specs.declared.refusal.Refusal.TheVariants.{Shelf}
use Rattle.cmd_base.specs.declared.refusal.Stop.{Stop}
use Rattle.cmd_base.specs.declared.refusal.Stop.TheVariants.{Refused, Memory, Printing}
use Rattle.cmd_base.specs.Job.{HasMissed, IsPrepared, JobMeets, verdict_on_job}
use Rattle.cmd_base.specs.Loads.{NoneLong, UnlessLong as UnlessRefused}
use Rattle.cmd_base.specs.Seen.{Files, ShelfSeen}
use Rattle.cmd_base.specs.Task.{Rules}
use Rattle.cmd_base.specs.declared.paths.Paths.{Paths}

-- an edition whose plates are verified: its plan, the folder of its files, and the folder of its plates
pub record Asked : Type 0 where
  pub plan : List ℕ
  pub files : List ℕ
  pub out : List ℕ

-- the texts of an edition whose plates are verified
abbrev pub asked_told : Paths → Asked
asked_told paths = record { plan = paths.plan.now; files = paths.files.now; out = paths.out.now }

-- ---- the result

-- all plates of all sites match
abbrev pub same_line : ℕ → ℕ → List ℕ
same_line plates sites =
    codes "same plates " ++ decimal plates ++ codes " sites " ++ decimal sites ++ codes "\n"

-- a plate first differs at a byte that is in a packed row
abbrev pub row_line : List ℕ → ℕ → ℕ → List ℕ
row_line path at row =
    codes "differs " ++ path ++ codes " byte " ++ decimal at ++ codes " row " ++ decimal row ++ codes "\n"

-- a plate first differs at a byte outside all rows
abbrev pub byte_line : List ℕ → ℕ → List ℕ
byte_line path at = codes "differs " ++ path ++ codes " byte " ++ decimal at ++ codes "\n"

-- a stored plate is longer than the most bytes loaded of a plate
abbrev pub long_line : List ℕ → List ℕ
long_line path = codes "differs " ++ path ++ codes " long\n"

-- the line of a result for the plates of this many sites; a plate that is not present has no line
abbrev pub found_line : ℕ → Found → List ℕ
found_line sites (AllRight plates) = same_line plates sites
found_line sites (OtherAt path at (Some row)) = row_line path at row
found_line sites (OtherAt path at None) = byte_line path at
found_line sites (TooMany path) = long_line path
found_line sites (NotHeld path) = []

-- the exit status of a result; that of a plate that is not present is that of a failed load
abbrev pub found_status : Found → ℕ
found_status (AllRight plates) = 0
found_status (OtherAt path at row) = 8
found_status (TooMany path) = 8
found_status (NotHeld path) = 5

-- the first wrong plate of a job among the stored files
abbrev pub wrong_of : JobData → List ℕ → Files → Found
wrong_of job out files = first_wrong job.plan (plate_rows job.plan job.files) out files

-- the result for the plates of a job: the first wrong one, where the shelf's contents are known; a plate is
-- reported as too long only where the shelf counted that, and with any other result it counted no such file
pub record IsFound (job : JobData) (out : List ℕ) (shelf : ShelfSeen) (checked : Checked) : Type 0 where
  pub first : IfSome shelf.held (λ files. wrong_of job out files ≡ told checked)
  pub long : IfLong checked (Rose shelf.longs shelf.longs')
  pub short : UnlessLong checked (NoneLong shelf)

-- the text is the line of the result for the prepared job
pub record PrintsFound (asked : Asked) (shelf : ShelfSeen) (text : List ℕ) (status : ℕ) : Type 0 where
  pub job : JobData
  pub prepared : IsPrepared shelf.held asked.plan asked.files job
  pub checked : Checked
  pub found : IsFound job asked.out shelf checked
  pub text_is : text ≡ found_line (length job.plan.sites) (told checked)
  pub status_is : status ≡ found_status (told checked)

-- the job was prepared, and the plate at this path is too long
pub record FindsLong (asked : Asked) (shelf : ShelfSeen) : Type 0 where
  pub job : JobData
  pub prepared : IsPrepared shelf.held asked.plan asked.files job
  pub path : List ℕ
  pub found : IsFound job asked.out shelf (Long path)

-- no file was counted as too long, or a plate of the prepared job is
abbrev pub MayFindLong : Asked → ShelfSeen → Type 0
MayFindLong asked shelf = NoneLong shelf ⊎ FindsLong asked shelf

-- no file was counted as too long, unless it is what the result reports: a refusal of the job, or a plate,
-- whose line the output took whole, in part, or not at all
abbrev pub CheckLengths : Asked → ShelfSeen → Result ℕ Stop → Type 0
CheckLengths asked shelf (Ok status) = MayFindLong asked shelf
CheckLengths asked shelf (Err (Refused refusal)) = UnlessRefused refusal (NoneLong shelf)
CheckLengths asked shelf (Err Memory) = MayFindLong asked shelf
CheckLengths asked shelf (Err Printing) = MayFindLong asked shelf

-- ---- refusals

-- the plate of a job at a path failed to load; every plate before it matches, where the contents are known
pub record IsLost (job : JobData) (out : List ℕ) (shelf : ShelfSeen) (path : List ℕ) : Type 0 where
  pub before : List SitePlate
  pub at : SitePlate
  pub behind : List SitePlate
  pub are : plates_in_order job.plan ≡ before ++ at ∷ behind
  pub named : path ≡ path_at job.plan out at
  pub right : NoneWrong job.plan (plate_rows job.plan job.files) out shelf.held before
  pub missed : HasMissed shelf path
  -- no file was counted as too long
  pub longs : NoneLong shelf

-- the job was prepared, and one of its plates failed to load
pub record LosesPlate (asked : Asked) (shelf : ShelfSeen) (refusal : Refusal) : Type 0 where
  pub job : JobData
  pub prepared : IsPrepared shelf.held asked.plan asked.files job
  pub path : List ℕ
  pub is : refusal ≡ Shelf path
  pub lost : IsLost job asked.out shelf path

-- the command returns a refusal of the job, or a plate failed to load
abbrev pub CheckMeets : Asked → ShelfSeen → Refusal → Type 0
CheckMeets asked shelf refusal =
    JobMeets New asked.plan asked.files shelf refusal ⊎ LosesPlate asked shelf refusal

-- the status of the first wrong plate of the job prepared from these files
pub record EndsFound (asked : Asked) (files : Files) (status : ℕ) : Type 0 where
  pub job : JobData
  pub prepared : IsPrepared (Some files) asked.plan asked.files job
  pub is : status ≡ found_status (wrong_of job asked.out files)

abbrev pub check_rules : Asked → Rules
check_rules asked = record {
  verdict = verdict_on_job New asked.plan asked.files;
  Meets = CheckMeets asked;
  Ends = EndsFound asked;
}

-- ---- private calls

-- the outcome of verifying the plates of a job
abbrev pub Verifies : JobData → List ℕ → ShelfSeen → Result Checked Stop → Type 0
Verifies job out shelf (Ok checked) = IsFound job out shelf checked
Verifies job out shelf (Err (Refused refusal)) =
    (path : List ℕ) × (refusal ≡ Shelf path) × IsLost job out shelf path
Verifies job out shelf (Err Memory) = NoneLong shelf
Verifies job out shelf (Err Printing) = ⊥
