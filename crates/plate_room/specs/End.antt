-- How a command may end, as the contract of `plate_main` states it.
use Rattle.std.specs.Prelude.{◌≡◌, ℕ, ◌⊎◌, List, [], Some, None, false}
use Rattle.pr_ports.specs.Sink.{Grew, GrewByPrefix}
use Rattle.pr_rack.specs.declared.rack.Rack.{Ghosts}
use Rattle.cmd_base.specs.Line.{memory_line}
use Rattle.cmd_base.specs.declared.refusal.Refusal.{Refusal}
use Rattle.cmd_base.specs.Refusal.{status_of, line_of}
use Rattle.plate_room.specs.Tasks.{IsEnd, IsShort, Meets, verdict_of}
use Rattle.cmd_base.specs.Loads.{AllLoaded, NoneLong, UnlessLong, names_load}
use Rattle.cmd_base.specs.Seen.{Files, IsSilent, LoadFailed, PutFailed, RackFailed, ShelfSeen, SinkSeen}
use Rattle.cmd_base.specs.Note.{GrewByTwo}
use Rattle.cmd_base.specs.Status.{IsCutShort}

-- the note received the complete line of a refusal that has this status and that the arguments met
pub record Tells (words : List (List ℕ)) (shelf : ShelfSeen) (note : SinkSeen) (status : ℕ) : Type 0 where
  pub refusal : Refusal
  pub is : status_of refusal ≡ status
  pub met : Meets words shelf refusal
  pub line : Grew note.given note.given' (line_of refusal)
  -- no file was counted as too long, unless the refusal reports it
  pub longs : UnlessLong refusal (NoneLong shelf)

-- the verdict is a refusal with this status, and the note received its complete line
pub record TellsVerdict (words : List (List ℕ)) (files : Files) (note : SinkSeen) (status : ℕ) : Type 0 where
  pub refusal : Refusal
  pub verdict : verdict_of words files ≡ Some refusal
  pub is : status_of refusal ≡ status
  pub line : Grew note.given note.given' (line_of refusal)

-- the arguments met this refusal, and no load failed, unless the refusal names it, nor was a file counted as
-- too long, unless the refusal reports it
pub record IsMet (words : List (List ℕ)) (shelf : ShelfSeen) (refusal : Refusal) : Type 0 where
  pub met : Meets words shelf refusal
  pub loads : names_load refusal ≡ false → AllLoaded shelf
  pub longs : UnlessLong refusal (NoneLong shelf)

-- the line that a command which was cut short may have begun to write: that of the refusal it met, or none,
-- where no load failed, and no file was counted as too long but a plate that a verification found
abbrev pub MayTell : List (List ℕ) → ShelfSeen → List ℕ → Type 0
MayTell words shelf line =
    ((line ≡ []) × AllLoaded shelf × IsShort words shelf)
    ⊎ ((refusal : Refusal) × IsMet words shelf refusal × (line ≡ line_of refusal))

-- the arguments met a refusal, and the note failed at its line. The command produced nothing
pub record IsUnnoted {R : Type 0} (words : List (List ℕ)) (shelf : ShelfSeen) (racks racks' : List R)
    (out note : SinkSeen) : Type 0 where
  pub refusal : Refusal
  pub is : IsMet words shelf refusal
  pub line : GrewByPrefix note.given note.given' (line_of refusal)
  pub rose : PutFailed note
  pub racks_stay : racks' ≡ racks
  pub silent : IsSilent out

-- the note received a prefix of such a line, then a prefix of the out-of-memory line
abbrev pub TellsOfMemory : List (List ℕ) → ShelfSeen → SinkSeen → Type 0
TellsOfMemory words shelf note =
    (line : List ℕ) × MayTell words shelf line × GrewByTwo note.given note.given' line memory_line

-- the note received a prefix of such a line
abbrev pub TellsPart : List (List ℕ) → ShelfSeen → SinkSeen → Type 0
TellsPart words shelf note =
    (line : List ℕ) × MayTell words shelf line × GrewByPrefix note.given note.given' line

-- ---- where the files of the shelf are known

-- if no load failed, a verdict that refuses is reported unless the command was cut short
abbrev pub IsToldThere : List (List ℕ) → ShelfSeen → ℕ → Type 0
IsToldThere words shelf status = (files : Files) → shelf.held ≡ Some files
    → (refusal : Refusal) → verdict_of words files ≡ Some refusal
    → (LoadFailed shelf → ⊥) → (status ≡ status_of refusal) ⊎ IsCutShort status

-- if the verdict is a pass and no load failed, status 7 means that the output failed
abbrev pub FailsByOut : List (List ℕ) → ShelfSeen → SinkSeen → ℕ → Type 0
FailsByOut words shelf out status = (files : Files) → shelf.held ≡ Some files
    → verdict_of words files ≡ None → (LoadFailed shelf → ⊥) → status ≡ 7 → PutFailed out

-- no load, no call of a rack and no write to the output or the note failed
pub record NoneFailed {R : Type 0} (g : Ghosts R) (shelf : ShelfSeen) (racks racks' : List R)
    (out note : SinkSeen) : Type 0 where
  pub loads : LoadFailed shelf → ⊥
  pub calls : RackFailed g racks racks' → ⊥
  pub output : PutFailed out → ⊥
  pub notes : PutFailed note → ⊥

-- if the verdict is a pass and nothing fails, the command ends with its own status or with 6 (out of memory)
abbrev pub IsComplete : {R : Type 0} → Ghosts R → List (List ℕ) → ShelfSeen → List R → List R → SinkSeen
    → SinkSeen → ℕ → Type 0
IsComplete g words shelf racks racks' out note status = (files : Files) → shelf.held ≡ Some files
    → verdict_of words files ≡ None → NoneFailed g shelf racks racks' out note
    → IsEnd words files status ⊎ (status ≡ 6)
