-- The contract of any command of `plate_main`, over what the call observed of its shelf, its racks and its
-- output.
use Rattle.std.specs.Prelude.{◌≡◌, ℕ, ◌⊎◌, List, Option, Result, Ok, Err}
use Rattle.pr_ports.specs.Sink.{Grew, GrewByPrefix}
use Rattle.cmd_base.specs.declared.refusal.Refusal.{Refusal}
use Rattle.cmd_base.specs.declared.refusal.Stop.{Stop}
use Rattle.cmd_base.specs.declared.refusal.Stop.TheVariants.{Refused, Memory, Printing}
use Rattle.cmd_base.specs.Seen.{Files, ShelfSeen, SinkSeen, IsSilent, PutFailed}

-- what a command requires of the files of a shelf
pub record Rules : Type 1 where
  -- the refusal, if any, of the files that a shelf holds
  pub verdict : Files → Option Refusal
  -- a refusal that the command may return, with its cause
  pub Meets : ShelfSeen → Refusal → Type 0
  -- the exit status where a shelf holds these files and nothing fails
  pub Ends : Files → ℕ → Type 0

-- what a command produces, over racks of a type
pub record Makes (R : Type 0) : Type 1 where
  -- for this shelf and these racks, it prints this text and ends with this status
  pub Prints : ShelfSeen → List R → List R → List ℕ → ℕ → Type 0
  -- how it may leave the racks before it prints anything
  pub Begins : ShelfSeen → List R → List R → Type 0

-- a command that prints texts of this kind and leaves the racks unchanged
abbrev pub telling : {R : Type 0} → (ShelfSeen → List ℕ → ℕ → Type 0) → Makes R
telling Tells = record {
  Prints = λ shelf racks racks' text status. Tells shelf text status × (racks' ≡ racks);
  Begins = λ shelf racks racks'. ⊥;
}

-- the output took the whole text of a command
pub record PrintsWhole {R : Type 0} (makes : Makes R) (shelf : ShelfSeen) (racks racks' : List R)
    (out : SinkSeen) (status : ℕ) : Type 0 where
  pub text : List ℕ
  pub prints : makes.Prints shelf racks racks' text status
  pub grew : Grew out.given out.given' text

-- the output took a prefix of the text of a command
pub record PrintsFront {R : Type 0} (makes : Makes R) (shelf : ShelfSeen) (racks racks' : List R)
    (out : SinkSeen) : Type 0 where
  pub text : List ℕ
  pub status : ℕ
  pub prints : makes.Prints shelf racks racks' text status
  pub grew : GrewByPrefix out.given out.given' text

-- a command was cut short: the output took a prefix of its text, or nothing yet
abbrev pub IsPart : {R : Type 0} → Makes R → ShelfSeen → List R → List R → SinkSeen → Type 0
IsPart makes shelf racks racks' out =
    PrintsFront makes shelf racks racks' out
    ⊎ (makes.Begins shelf racks racks' × (out.given' ≡ out.given))

-- racks and output are unchanged
abbrev pub IsNothing : {R : Type 0} → List R → List R → SinkSeen → Type 0
IsNothing racks racks' out = (racks' ≡ racks) × (out.given' ≡ out.given)

-- the outcome of a command; where the output failed, all else was done, since printing comes last
abbrev pub Answers : {R : Type 0} → Rules → Makes R → ShelfSeen → List R → List R → SinkSeen
    → Result ℕ Stop → Type 0
Answers rules makes shelf racks racks' out (Ok status) = PrintsWhole makes shelf racks racks' out status
Answers rules makes shelf racks racks' out (Err (Refused refusal)) =
    rules.Meets shelf refusal × (racks' ≡ racks) × IsSilent out
Answers rules makes shelf racks racks' out (Err Memory) =
    IsNothing racks racks' out ⊎ IsPart makes shelf racks racks' out
Answers rules makes shelf racks racks' out (Err Printing) =
    PrintsFront makes shelf racks racks' out × PutFailed out

-- ---- a command that leaves the racks unchanged

-- the output took the whole text of such a command
pub record TellsWhole (Tells : ShelfSeen → List ℕ → ℕ → Type 0) (shelf : ShelfSeen) (out : SinkSeen)
    (status : ℕ) : Type 0 where
  pub text : List ℕ
  pub tells : Tells shelf text status
  pub grew : Grew out.given out.given' text

-- the output took a prefix of it
pub record TellsFront (Tells : ShelfSeen → List ℕ → ℕ → Type 0) (shelf : ShelfSeen) (out : SinkSeen)
    : Type 0 where
  pub text : List ℕ
  pub status : ℕ
  pub tells : Tells shelf text status
  pub grew : GrewByPrefix out.given out.given' text

-- the outcome of such a command, for shelf and output
abbrev pub Told : Rules → (ShelfSeen → List ℕ → ℕ → Type 0) → ShelfSeen → SinkSeen → Result ℕ Stop → Type 0
Told rules Tells shelf out (Ok status) = TellsWhole Tells shelf out status
Told rules Tells shelf out (Err (Refused refusal)) = rules.Meets shelf refusal × IsSilent out
Told rules Tells shelf out (Err Memory) = (out.given' ≡ out.given) ⊎ TellsFront Tells shelf out
Told rules Tells shelf out (Err Printing) = TellsFront Tells shelf out × PutFailed out

-- the outcome of writing a whole text to the output, for a command that ends with status `own`
abbrev pub Puts : List ℕ → ℕ → SinkSeen → Result ℕ Stop → Type 0
Puts text own out (Ok status) = (status ≡ own) × Grew out.given out.given' text
Puts text own out (Err (Refused refusal)) = ⊥
Puts text own out (Err Memory) = GrewByPrefix out.given out.given' text
Puts text own out (Err Printing) = GrewByPrefix out.given out.given' text × PutFailed out
