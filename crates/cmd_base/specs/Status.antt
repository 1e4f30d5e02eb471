-- Exit statuses and their numbers.
use Rattle.std.specs.Prelude.{◌≡◌, ℕ, ◌⊎◌}
use Rattle.cmd_base.specs.declared.status.Status.{Status}
use Rattle.cmd_base.specs.declared.status.Status.TheVariants as is

abbrev pub number_of : Status → ℕ
number_of is.Done = 0
number_of is.Left = 1
number_of is.Words = 2
number_of is.Plan = 3
number_of is.File = 4
number_of is.Shelf = 5
number_of is.Memory = 6
number_of is.Printing = 7
number_of is.Differs = 8

-- the command completed; 1 where a site dropped out, and 8 where a stored plate does not match
abbrev pub IsDoneStatus : ℕ → Type 0
IsDoneStatus status = (status ≡ 0) ⊎ (status ≡ 1) ⊎ (status ≡ 8)

-- the status of a refusal: of the arguments, the plan, a file or the shelf
abbrev pub IsRefusal : ℕ → Type 0
IsRefusal status = (status ≡ 2) ⊎ (status ≡ 3) ⊎ (status ≡ 4) ⊎ (status ≡ 5)

-- the command was cut short: memory ran out, or a sink failed
abbrev pub IsCutShort : ℕ → Type 0
IsCutShort status = (status ≡ 6) ⊎ (status ≡ 7)

-- an exit status of a command
abbrev pub IsStatus : ℕ → Type 0
IsStatus status = IsDoneStatus status ⊎ IsRefusal status ⊎ IsCutShort status
