-- The command `keys`: a run whose ring has one further reader, which counts the ink keys of all plates. The
-- counts follow the report.
use Rattle.std.specs.Prelude.{ℕ, List, ◌++◌, Result, codes, map}
use Rattle.std.specs.Fmt.{decimal}
use Rattle.std.specs.List.{enumerate_from, flat_map, range_with_len}
use Rattle.pr_base.specs.declared.ink.Ink.{Ink}
use Rattle.pr_base.specs.Number.{IsWithin}
use Rattle.pr_rack.specs.declared.rack.Rack.{Ghosts}
use Rattle.plan_json.specs.Data.{PlanData}
use Rattle.plan_rows.specs.declared.group.Group.{Group}
use Rattle.plan_rows.specs.Groups.{groups_of}
use Rattle.plan_rows.specs.Inks.{inks_of}
use Rattle.plan_rows.specs.Paths.{plate_name_of}
use Rattle.press_job.specs.Job.{JobData}
use Rattle.press_job.specs.Rows.{plate_rows}
use Rattle.ink_keys.specs.Counts.{CountsData, number_at}
use Rattle.ink_keys.specs.Keys.{key_count}
use Rattle.cmd_run.specs.declared.edition.Edition as coded
use Rattle.cmd_run.specs.Edition.{Edition, Further, HasNumbers, makes_with, run_rules}
use Rattle.cmd_base.specs.declared.refusal.Stop.{Stop}
use Rattle.cmd_base.specs.Seen.{ShelfSeen, SinkSeen}
use Rattle.cmd_base.specs.Task.{Answers, Makes}

-- ---- the lines

-- a count, after a space
abbrev pub count_text : ℕ → List ℕ
count_text count = codes " " ++ decimal count

-- the line of a plate, from the index of its group, its name and its counts
abbrev pub key_line : ℕ → List ℕ → List ℕ → List ℕ
key_line index name counts =
    codes "keys " ++ decimal index ++ codes " " ++ name ++ flat_map count_text counts ++ codes "\n"

-- the line of a group's plate in an ink, from a function that gives a plate's counts
abbrev pub plate_line : PlanData → (ℕ → Group → Ink → List ℕ) → ℕ → Group → Ink → List ℕ
plate_line plan counts index group ink =
    key_line index (plate_name_of plan group ink) (counts index group ink)

-- the lines of a group, ink by ink
abbrev pub group_lines : PlanData → (ℕ → Group → Ink → List ℕ) → ℕ × Group → List ℕ
group_lines plan counts (index, group) = flat_map (plate_line plan counts index group) (inks_of group)

-- the lines of all groups, each with its index over all sections, from 0
unfoldable pub lines_with : PlanData → (ℕ → Group → Ink → List ℕ) → List ℕ
lines_with plan counts = flat_map (group_lines plan counts) (enumerate_from 0 (groups_of plan))

-- ---- the counts

-- the counts of a plate from key 0 up, taken over all rows in order
abbrev pub key_counts : PlanData → List (List ℕ) → ℕ → ℕ → Group → Ink → List ℕ
key_counts plan rows keys index group ink = map (key_count plan rows group ink keys) (range_with_len 0 keys)

-- the keys lines of a job
unfoldable pub keys_lines : ℕ → JobData → List ℕ
keys_lines keys job = lines_with job.plan (key_counts job.plan (plate_rows job.plan job.files) keys)

-- ---- the command

-- the key reader, and the keys lines
abbrev pub further_keys : ℕ → Further
further_keys keys = record { readers = 1; told = keys_lines keys }

abbrev pub keys_makes : {R : Type 0} → Ghosts R → Edition → ℕ → Makes R
keys_makes g edition keys = makes_with g edition (further_keys keys)

-- the numbers of an edition and the number of its keys are in their ranges
pub record HasKeys (edition : coded.Edition) (keys : ℕ) : Type 0 where
  pub numbers : HasNumbers edition
  pub keys' : IsWithin 1 64 keys

-- the contract of `keys`
abbrev pub KeysAnswers : {R : Type 0} → Ghosts R → Edition → ℕ → ShelfSeen → List R → List R → SinkSeen
    → Result ℕ Stop → Type 0
KeysAnswers g edition keys = Answers (run_rules edition) (keys_makes g edition keys)

-- ---- private functions

-- the counts that `counts` holds for a group in an ink, key by key
abbrev pub numbers_at : CountsData → ℕ → Ink → List ℕ
numbers_at counts index ink = map (number_at counts index ink) (range_with_len 0 counts.keys)

-- the same, as a function that gives a plate's counts
abbrev pub numbers_for : CountsData → ℕ → Group → Ink → List ℕ
numbers_for counts index group ink = numbers_at counts index ink
