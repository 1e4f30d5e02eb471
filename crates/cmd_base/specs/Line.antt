-- Lines that report a refusal.
use Rattle.std.specs.Prelude.{ℕ, List, [], ◌++◌, codes}
use Rattle.std.specs.Fmt.{decimal}
use Rattle.pr_base.specs.declared.fault.FileFault.{FileFault}
use Rattle.pr_base.specs.Fault.{kind_text}
use Rattle.plan_parts.specs.declared.fault.PlanFault.{PlanFault}
use Rattle.plan_parts.specs.declared.fault.PlanFault.TheVariants.{NotJson, Missing, Kind, Range, Unknown}
use Rattle.plan_parts.specs.declared.fault.PlanFault.TheVariants.{Repeat, Memory}
use Rattle.cmd_base.specs.declared.refusal.Whose.{Whose}
use Rattle.cmd_base.specs.declared.refusal.Whose.TheVariants.{New, Old}

abbrev pub words_line : List ℕ
words_line = codes "plateroom: words\n"

-- the start of a line about a job
abbrev pub job_word : Whose → List ℕ
job_word New = codes "plateroom: "
job_word Old = codes "plateroom: old "

-- a plan longer than the limit for plans
abbrev pub long_plan_line : Whose → List ℕ
long_plan_line whose = job_word whose ++ codes "plan: too long\n"

-- a plan with a fault of a kind at a path
abbrev pub plan_line_at : Whose → List ℕ → List ℕ → List ℕ
plan_line_at whose path kind = job_word whose ++ codes "plan " ++ path ++ codes ": " ++ kind ++ codes "\n"

-- a plan with a fault; running out of memory is not one
abbrev pub plan_line : Whose → PlanFault → List ℕ
plan_line whose NotJson = job_word whose ++ codes "plan: not JSON\n"
plan_line whose (Missing path) = plan_line_at whose path (codes "missing")
plan_line whose (Kind path) = plan_line_at whose path (codes "kind")
plan_line whose (Range path) = plan_line_at whose path (codes "range")
plan_line whose (Unknown path) = plan_line_at whose path (codes "unknown")
plan_line whose (Repeat path) = plan_line_at whose path (codes "repeat")
plan_line whose Memory = []

abbrev pub shelf_line : List ℕ → List ℕ
shelf_line path = codes "plateroom: shelf: " ++ path ++ codes "\n"

abbrev pub file_line : Whose → FileFault → List ℕ
file_line whose fault =
    job_word whose ++ codes "file " ++ fault.file ++ codes ": tag " ++ decimal fault.tag
    ++ codes ": " ++ kind_text fault.kind ++ codes "\n"

abbrev pub memory_line : List ℕ
memory_line = codes "plateroom: memory\n"
