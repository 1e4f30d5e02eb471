-- All commands: the rules of each, what it produces, and what a call therefore satisfies.
use Rattle.std.specs.Prelude.{◌≡◌, ℕ, ◌⊎◌, List, Option, Some, None}
use Rattle.pr_rack.specs.declared.rack.Rack.{Ghosts}
use Rattle.cmd_base.specs.declared.refusal.Refusal.{Refusal}
use Rattle.cmd_base.specs.declared.refusal.Refusal.TheVariants as refused
use Rattle.plate_room.specs.Command.{Command, Drill, Keys, One, Replate, Run, Verify, command_of}
use Rattle.cmd_replate.specs.Change.{change_makes, change_rules}
use Rattle.cmd_verify.specs.Check.{Asked, FindsLong, PrintsFound, check_rules}
use Rattle.cmd_run.specs.Drill.{PrintsDrill, drill_rules}
use Rattle.cmd_run.specs.Edition.{run_makes, run_rules}
use Rattle.cmd_run.specs.Keys.{keys_makes}
use Rattle.cmd_one.specs.OneFile.{PrintsPlate, one_rules}
use Rattle.cmd_base.specs.Loads.{AllLoaded, NoneLong}
use Rattle.cmd_base.specs.Seen.{Files, IsUntouched, PutFailed, ShelfSeen, SinkSeen}
use Rattle.cmd_base.specs.Task.{IsNothing, IsPart, Makes, PrintsFront, PrintsWhole, Rules, telling}

-- the rules of a command
abbrev pub rules_of : Command → Rules
rules_of (One file) = one_rules file
rules_of (Run edition) = run_rules edition
rules_of (Keys edition keys) = run_rules edition
rules_of (Drill number ring patience) = drill_rules
rules_of (Verify asked) = check_rules asked
rules_of (Replate change) = change_rules change

-- the arguments meet this refusal: either they aren't a command, and nothing is loaded, or their command
-- meets it
abbrev pub Meets : List (List ℕ) → ShelfSeen → Refusal → Type 0
Meets words shelf refusal =
    ((command_of words ≡ None) × (refusal ≡ refused.Words) × IsUntouched shelf)
    ⊎ ((command : Command) × (command_of words ≡ Some command) × (rules_of command).Meets shelf refusal)

-- no file was counted as too long, or the arguments verify plates, of which one is too long
abbrev pub IsShort : List (List ℕ) → ShelfSeen → Type 0
IsShort words shelf =
    NoneLong shelf
    ⊎ ((asked : Asked) × (command_of words ≡ Some (Verify asked)) × FindsLong asked shelf)

-- the verdict on a command: its refusal, or none
abbrev pub verdict_for : Option Command → Files → Option Refusal
verdict_for None files = Some refused.Words
verdict_for (Some command) files = (rules_of command).verdict files

-- the verdict on a command line
abbrev pub verdict_of : List (List ℕ) → Files → Option Refusal
verdict_of words files = verdict_for (command_of words) files

-- the arguments are a command that ends with this status if the shelf holds these files and nothing fails
pub record IsEnd (words : List (List ℕ)) (files : Files) (status : ℕ) : Type 0 where
  pub command : Command
  pub asked : command_of words ≡ Some command
  pub ends : (rules_of command).Ends files status

module _ {R : Type 0} (g : Ghosts R) where
  -- what a command produces
  abbrev pub makes_of : Command → Makes R
  makes_of (One file) = telling (PrintsPlate file)
  makes_of (Run edition) = run_makes g edition
  makes_of (Keys edition keys) = keys_makes g edition keys
  makes_of (Drill number ring patience) = telling (PrintsDrill number ring)
  makes_of (Verify asked) = telling (PrintsFound asked)
  makes_of (Replate change) = change_makes g change

  -- the arguments are a command, and the output received its complete text
  pub record IsDone (words : List (List ℕ)) (shelf : ShelfSeen) (racks racks' : List R) (out : SinkSeen)
      (status : ℕ) : Type 0 where
    pub command : Command
    pub asked : command_of words ≡ Some command
    pub made : PrintsWhole (makes_of command) shelf racks racks' out status

  -- the arguments are a command that produced everything but its complete text: the output failed after a
  -- prefix of it. No load failed, and no file was counted as too long but a plate that a verification found
  pub record IsUnprinted (words : List (List ℕ)) (shelf : ShelfSeen) (racks racks' : List R) (out : SinkSeen)
      : Type 0 where
    pub command : Command
    pub asked : command_of words ≡ Some command
    pub made : PrintsFront (makes_of command) shelf racks racks' out
    pub rose : PutFailed out
    pub loads : AllLoaded shelf
    pub longs : IsShort words shelf

  -- the arguments are a command that was cut short
  pub record IsBegun (words : List (List ℕ)) (shelf : ShelfSeen) (racks racks' : List R) (out : SinkSeen)
      : Type 0 where
    pub command : Command
    pub asked : command_of words ≡ Some command
    pub made : IsPart (makes_of command) shelf racks racks' out

  -- the result of an allocation failure or a failed sink: nothing was produced, or a part
  abbrev pub IsCut : List (List ℕ) → ShelfSeen → List R → List R → SinkSeen → Type 0
  IsCut words shelf racks racks' out = IsNothing racks racks' out ⊎ IsBegun words shelf racks racks' out
