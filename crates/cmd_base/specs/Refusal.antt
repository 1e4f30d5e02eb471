-- The status and the line of each refusal.
use Rattle.std.specs.Prelude.{ℕ, List}
use Rattle.cmd_base.specs.declared.refusal.Refusal.{Refusal}
use Rattle.cmd_base.specs.declared.refusal.Refusal.TheVariants.{Words, LongPlan, Plan, File, Shelf}
use Rattle.cmd_base.specs.Line.{words_line, long_plan_line, plan_line, file_line, shelf_line}

abbrev pub status_of : Refusal → ℕ
status_of Words = 2
status_of (LongPlan whose) = 3
status_of (Plan whose fault) = 3
status_of (File whose fault) = 4
status_of (Shelf path) = 5

abbrev pub line_of : Refusal → List ℕ
line_of Words = words_line
line_of (LongPlan whose) = long_plan_line whose
line_of (Plan whose fault) = plan_line whose fault
line_of (File whose fault) = file_line whose fault
line_of (Shelf path) = shelf_line path
