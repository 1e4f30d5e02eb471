-- Reporting why a command did not complete. These are contracts of private functions.
use Rattle.std.specs.Prelude.{◌≡◌, ℕ, ◌⊎◌, List, ◌++◌, take, Option}
use Rattle.pr_ports.specs.Sink.{Grew, GrewByPrefix}
use Rattle.cmd_base.specs.Line.{memory_line}
use Rattle.cmd_base.specs.declared.refusal.Refusal.{Refusal}
use Rattle.cmd_base.specs.Refusal.{status_of, line_of}
use Rattle.cmd_base.specs.Seen.{SinkSeen, FailsOnce, PutFailed}
use Rattle.cmd_base.specs.declared.refusal.Stop.{Stop}
use Rattle.cmd_base.specs.declared.refusal.Stop.TheVariants.{Refused, Memory, Printing}

-- where the sink's contents are known, they grew by a prefix of the first text and then a prefix of the
-- second
abbrev pub GrewByTwo : Option (List ℕ) → Option (List ℕ) → List ℕ → List ℕ → Type 0
GrewByTwo old new first second = (n m : ℕ) × Grew old new (take n first ++ take m second)

-- how a refusal's line is written: whole, or a prefix of it where the note failed or memory ran out. The line
-- of a refusal that failed is never followed by the one on memory, so at most one write failed
abbrev pub TellsRefusal : Refusal → SinkSeen → ℕ → Type 0
TellsRefusal refusal note status =
    ((status ≡ status_of refusal) × Grew note.given note.given' (line_of refusal)
    × (note.faults' ≡ note.faults))
    ⊎ ((status ≡ 7) × PutFailed note × GrewByPrefix note.given note.given' (line_of refusal))
    ⊎ ((status ≡ 6) × GrewByTwo note.given note.given' (line_of refusal) memory_line × FailsOnce note)

-- what is written about why a command did not complete
abbrev pub TellsStop : Stop → SinkSeen → ℕ → Type 0
TellsStop (Refused refusal) note status = TellsRefusal refusal note status
TellsStop Memory note status =
    (status ≡ 6) × GrewByPrefix note.given note.given' memory_line × FailsOnce note
TellsStop Printing note status = (status ≡ 7) × (note.given' ≡ note.given)
