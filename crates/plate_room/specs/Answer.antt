-- How the code's types correspond to the specification's. These are the contracts of private functions.
use Rattle.std.specs.Prelude.{◌≡◌, Option, Some, None}
use Rattle.plate_room.specs.Command as line
use Rattle.plate_room.specs.declared.command.Command as asked_type
use Rattle.plate_room.specs.declared.command.Command.TheVariants as asked
use Rattle.cmd_base.specs.declared.paths.Paths.{Paths}
use Rattle.cmd_replate.specs.declared.change.Change.{Change}
use Rattle.cmd_run.specs.declared.edition.Edition.{Edition}
use Rattle.cmd_run.specs.declared.drill.Drill.{Drill}
use Rattle.cmd_run.specs.Edition.{Edition as EditionMeant, HasNumbers, edition_told}
use Rattle.cmd_run.specs.Keys.{HasKeys}
use Rattle.cmd_run.specs.Drill.{HasTurns}
use Rattle.cmd_verify.specs.Check.{Asked as AskedMeant, asked_told}
use Rattle.cmd_replate.specs.Change.{Change as ChangeMeant, change_told}

-- the numbers of a command are in their ranges
abbrev pub IfRun : Option asked_type.Command → Type 0
IfRun None = Unit {0}
IfRun (Some (asked.One file)) = Unit {0}
IfRun (Some (asked.Run edition)) = HasNumbers edition
IfRun (Some (asked.Keys edition keys)) = HasKeys edition keys
IfRun (Some (asked.Drill drill)) = HasTurns drill
IfRun (Some (asked.Verify asked')) = Unit {0}
IfRun (Some (asked.Replate change)) = Unit {0}

-- the command of the specification that a drill of the code stands for
abbrev pub drill_told : Drill → line.Command
drill_told drill = line.Drill drill.number drill.ring drill.patience

-- the code's command is this one of the specification
abbrev pub IsCommand : Option asked_type.Command → Option line.Command → Type 0
IsCommand None meant = meant ≡ None
IsCommand (Some (asked.One file)) meant = meant ≡ Some (line.One file.now)
IsCommand (Some (asked.Run edition)) meant = meant ≡ Some (line.Run (edition_told edition))
IsCommand (Some (asked.Keys edition keys)) meant = meant ≡ Some (line.Keys (edition_told edition) keys)
IsCommand (Some (asked.Drill drill)) meant = meant ≡ Some (drill_told drill)
IsCommand (Some (asked.Verify asked')) meant = meant ≡ Some (line.Verify (asked_told asked'))
IsCommand (Some (asked.Replate change)) meant = meant ≡ Some (line.Replate (change_told change))

-- the code's edition is this one of the specification
abbrev pub IsEdition : Option Edition → Option EditionMeant → Type 0
IsEdition None meant = meant ≡ None
IsEdition (Some edition) meant = meant ≡ Some (edition_told edition)

-- the code's drill is this command of the specification
abbrev pub IsDrill : Option Drill → Option line.Command → Type 0
IsDrill None meant = meant ≡ None
IsDrill (Some drill) meant = meant ≡ Some (drill_told drill)

-- the code's verification is this one of the specification
abbrev pub IsAskedFor : Option Paths → Option AskedMeant → Type 0
IsAskedFor None meant = meant ≡ None
IsAskedFor (Some asked') meant = meant ≡ Some (asked_told asked')

-- the code's change is this one of the specification
abbrev pub IsChange : Option Change → Option ChangeMeant → Type 0
IsChange None meant = meant ≡ None
IsChange (Some change) meant = meant ≡ Some (change_told change)
