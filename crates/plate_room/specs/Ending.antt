-- How a call of `plate_main` ends: one of six ways. This is its contract, and the headline of the project.
use Rattle.std.specs.Prelude.{◌≡◌, ℕ, List, [], Some, Result, Ok, Err, false}
use Rattle.pr_ports.specs.Sink.{Grew, GrewByPrefix}
use Rattle.pr_rack.specs.declared.rack.Rack.{Ghosts}
use Rattle.cmd_base.specs.declared.refusal.Refusal.{Refusal}
use Rattle.cmd_base.specs.declared.refusal.Stop.{Stop}
use Rattle.cmd_base.specs.declared.refusal.Stop.TheVariants as stop
use Rattle.plate_room.specs.Command.{Command, command_of}
use Rattle.cmd_base.specs.Line.{memory_line}
use Rattle.cmd_base.specs.Refusal.{status_of, line_of}
use Rattle.plate_room.specs.Tasks.{IsCut, IsDone, IsShort, IsUnprinted, Meets}
use Rattle.cmd_base.specs.Note.{GrewByTwo}
use Rattle.cmd_base.specs.Loads.{AllLoaded, NoneLong, UnlessLong, names_load}
use Rattle.cmd_base.specs.Seen.{Seen, ShelfSeen, SinkSeen, FailsOnce, IsSilent, PutFailed}

-- the arguments are a command
abbrev pub IsAsked : List (List ℕ) → Type 0
IsAsked words = (command : Command) × (command_of words ≡ Some command)

-- the state that a command observes
abbrev pub seen_of : {R : Type 0} → List (List ℕ) → ShelfSeen → List R → List R → SinkSeen → Seen R
seen_of words shelf racks racks' out = record {
  words = words;
  shelf = shelf;
  racks = racks;
  racks' = racks';
  out = out;
}

-- the command met a refusal, and produced nothing; no load failed, unless the refusal names it
pub record IsStopped {R : Type 0} (seen : Seen R) (refusal : Refusal) : Type 0 where
  pub met : Meets seen.words seen.shelf refusal
  pub racks : seen.racks' ≡ seen.racks
  pub silent : IsSilent seen.out
  pub loads : names_load refusal ≡ false → AllLoaded seen.shelf
  pub longs : UnlessLong refusal (NoneLong seen.shelf)

-- the note took the whole line of a refusal, and no write failed
pub record IsNoted (note : SinkSeen) (line : List ℕ) : Type 0 where
  pub grew : Grew note.given note.given' line
  pub faults : note.faults' ≡ note.faults

-- the note took a prefix of the line of a refusal, and then one of the line on memory; at most one write
-- failed
pub record IsNotedInPart (note : SinkSeen) (line : List ℕ) : Type 0 where
  pub grew : GrewByTwo note.given note.given' line memory_line
  pub once : FailsOnce note

module _ {R : Type 0} (g : Ghosts R) where
  -- the command is done, and no load failed
  pub record IsFinished (seen : Seen R) (status : ℕ) : Type 0 where
    pub made : IsDone g seen.words seen.shelf seen.racks seen.racks' seen.out status
    pub loads : AllLoaded seen.shelf
    pub longs : IsShort seen.words seen.shelf

  -- the command was cut short, and no load failed
  pub record IsBroken (seen : Seen R) : Type 0 where
    pub asked : IsAsked seen.words
    pub cut : IsCut g seen.words seen.shelf seen.racks seen.racks' seen.out
    pub loads : AllLoaded seen.shelf
    pub longs : IsShort seen.words seen.shelf

  -- the command produced everything but its complete text
  abbrev pub IsSpoilt : Seen R → Type 0
  IsSpoilt seen = IsUnprinted g seen.words seen.shelf seen.racks seen.racks' seen.out

  -- the state after a command, by its result
  abbrev pub Answered : Seen R → Result ℕ Stop → Type 0
  Answered seen (Ok status) = IsFinished seen status
  Answered seen (Err (stop.Refused refusal)) = IsStopped seen refusal
  Answered seen (Err stop.Memory) = IsBroken seen
  Answered seen (Err stop.Printing) = IsSpoilt seen

  -- the six ways to end
  pub data Ending (seen : Seen R) (note : SinkSeen) (status : ℕ) : Type 0 where
    -- Done: the racks and the output received exactly what the command produces, and no load failed. The
    -- note is unchanged. The status is 0, or 1 where a site dropped out, or 8 where a plate does not match
    Done : IsFinished seen status → IsSilent note → Ending seen note status
    -- Refused, the line written whole: the arguments met a refusal with this status, nothing was produced,
    -- and the note received the refusal's complete line
    Refused : (refusal : Refusal) → status ≡ status_of refusal → IsStopped seen refusal
        → IsNoted note (line_of refusal) → Ending seen note status
    -- Refused, but memory ran out over the line: nothing was produced, and the note received the start of the
    -- refusal's line and then of the out-of-memory line
    Untold : (refusal : Refusal) → status ≡ 6 → IsStopped seen refusal
        → IsNotedInPart note (line_of refusal) → Ending seen note status
    -- Refused, but the note failed: nothing was produced, and the note failed after the start of the
    -- refusal's line
    NotNoted : (refusal : Refusal) → status ≡ 7 → IsStopped seen refusal → PutFailed note
        → GrewByPrefix note.given note.given' (line_of refusal) → Ending seen note status
    -- Memory ran out in the command: nothing was produced, or a part, no load failed, and the note received
    -- the start of the out-of-memory line
    Wanted : status ≡ 6 → IsBroken seen → IsNotedInPart note [] → Ending seen note status
    -- The output failed: everything was produced but the complete text, of which the output received the
    -- start. What the note received is unchanged
    NotPrinted : status ≡ 7 → IsSpoilt seen → note.given' ≡ note.given → Ending seen note status

  -- this holds of each end of a call: whatever it observed, and whatever its note and its status
  abbrev pub AtEachEnd : (Seen R → SinkSeen → ℕ → Type 0) → Type 0
  AtEachEnd P = (seen : Seen R) (note : SinkSeen) (status : ℕ) → Ending seen note status → P seen note status
