-- The obligations of all commands, with one case for each command.
use Rattle.std.proofs.Common.{◌≡◌, ◌⊎◌, ℕ, List, Some, arith}
use Rattle.pr_rack.specs.declared.rack.Rack.{Ghosts}
use Rattle.cmd_base.specs.declared.refusal.Refusal.{Refusal}
use Rattle.plate_room.specs.Command.{AsksDrill, AsksVerify, Command, Drill, Keys, One, Replate, Run, Verify}
use Rattle.cmd_run.specs.Edition.{none_further}
use Rattle.cmd_run.specs.Keys.{further_keys}
use Rattle.cmd_base.specs.Seen.{ShelfSeen}
use Rattle.plate_room.specs.Tasks.{makes_of, rules_of}
use Rattle.cmd_base.proofs.Owed.{Owes}
use Rattle.cmd_one.proofs.Owed.{one_owes}
use Rattle.cmd_run.proofs.Owed.{drill_owes, run_status, run_owes}
use Rattle.cmd_verify.proofs.Owed.{check_status, check_owes}
use Rattle.cmd_replate.proofs.Owed.{remade_status, change_owes}

pub owes : {R : Type 0} (g : Ghosts R) (command : Command) → Owes g (rules_of command) (makes_of g command)
owes g (One file) = one_owes g file
owes g (Run edition) = run_owes g edition none_further
owes g (Keys edition keys) = run_owes g edition (further_keys keys)
owes g (Drill number ring patience) = drill_owes g number ring
owes g (Verify asked) = check_owes g asked
owes g (Replate change) = change_owes g change

-- a drill isn't refused
pub drill_unmet : (shelf : ShelfSeen) (command : Command) (refusal : Refusal) → AsksDrill (Some command)
    → (rules_of command).Meets shelf refusal → ⊥
drill_unmet shelf (One file) refusal drill met = drill
drill_unmet shelf (Run edition) refusal drill met = drill
drill_unmet shelf (Keys edition keys) refusal drill met = drill
drill_unmet shelf (Drill number ring patience) refusal drill met = met
drill_unmet shelf (Verify asked) refusal drill met = drill
drill_unmet shelf (Replate change) refusal drill met = drill

module _ {R : Type 0} (g : Ghosts R) (shelf : ShelfSeen) (racks racks' : List R) (text : List ℕ) (status : ℕ) where
  -- a drill that is done has status 0
  pub drill_zero : (command : Command) → AsksDrill (Some command)
      → (makes_of g command).Prints shelf racks racks' text status → status ≡ 0
  drill_zero (One file) drill made = absurd drill
  drill_zero (Run edition) drill made = absurd drill
  drill_zero (Keys edition keys) drill made = absurd drill
  drill_zero (Drill number ring patience) drill made = made.0.zero
  drill_zero (Verify asked) drill made = absurd drill
  drill_zero (Replate change) drill made = absurd drill

  -- a command that ends with 8 is a verification
  pub eight_looks : (command : Command) → (makes_of g command).Prints shelf racks racks' text status → status ≡ 8
      → AsksVerify (Some command)
  eight_looks (One file) made is = absurd (let zero = made.0.zero in omega arith)
  eight_looks (Run edition) made is =
      absurd (by (run_status made.reports.ends status made.reports.status_is)) where
        by : (status ≡ 0) ⊎ (status ≡ 1) → ⊥
        by h = grind arith
  eight_looks (Keys edition keys) made is =
      absurd (by (run_status made.reports.ends status made.reports.status_is)) where
        by : (status ≡ 0) ⊎ (status ≡ 1) → ⊥
        by h = grind arith
  eight_looks (Drill number ring patience) made is = absurd (let zero = made.0.zero in omega arith)
  eight_looks (Verify asked) made is = tt
  eight_looks (Replate change) made is = absurd (by (remade_status made.ends status made.status_is)) where
    by : (status ≡ 0) ⊎ (status ≡ 1) → ⊥
    by h = grind arith

  -- a verification never ends with 1
  pub look_not_one : (command : Command) → AsksVerify (Some command)
      → (makes_of g command).Prints shelf racks racks' text status → status ≡ 1 → ⊥
  look_not_one (One file) look made is = look
  look_not_one (Run edition) look made is = look
  look_not_one (Keys edition keys) look made is = look
  look_not_one (Drill number ring patience) look made is = look
  look_not_one (Replate change) look made is = look
  look_not_one (Verify asked) look made is = by (check_status asked shelf text status made.0) where
    by : (status ≡ 0) ⊎ (status ≡ 8) → ⊥
    by h = grind arith

  -- a verification doesn't change the racks
  pub look_leaves : (command : Command) → AsksVerify (Some command)
      → (makes_of g command).Prints shelf racks racks' text status → racks' ≡ racks
  look_leaves (One file) look made = absurd look
  look_leaves (Run edition) look made = absurd look
  look_leaves (Keys edition keys) look made = absurd look
  look_leaves (Drill number ring patience) look made = absurd look
  look_leaves (Verify asked) look made = made.1
  look_leaves (Replate change) look made = absurd look

  -- a verification never begins to produce anything
  pub look_begins : (command : Command) → AsksVerify (Some command) → (makes_of g command).Begins shelf racks racks' → ⊥
  look_begins (One file) look begun = begun
  look_begins (Run edition) look begun = look
  look_begins (Keys edition keys) look begun = look
  look_begins (Drill number ring patience) look begun = begun
  look_begins (Verify asked) look begun = begun
  look_begins (Replate change) look begun = look
