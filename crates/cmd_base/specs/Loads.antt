-- Whether a load failed, or a file was counted as too long, in a call of a command.
use Rattle.std.specs.Prelude.{◌≡◌, ◌≢◌, Bool, true, false, Result, Ok, Err}
use Rattle.pr_base.specs.declared.fault.FaultKind.TheVariants.{TooLong}
use Rattle.cmd_base.specs.declared.refusal.Refusal.{Refusal}
use Rattle.cmd_base.specs.declared.refusal.Refusal.TheVariants.{Words, LongPlan, Plan, File, Shelf}
use Rattle.cmd_base.specs.declared.refusal.Stop.{Stop}
use Rattle.cmd_base.specs.declared.refusal.Stop.TheVariants.{Refused, Memory, Printing}
use Rattle.cmd_base.specs.Seen.{ShelfSeen}

-- no load failed: the path that the shelf last missed and its count of failures are unchanged
pub record AllLoaded (shelf : ShelfSeen) : Type 0 where
  pub missed : shelf.missed' ≡ shelf.missed
  pub faults : shelf.faults' ≡ shelf.faults

-- the refusal names a load that failed
abbrev pub names_load : Refusal → Bool
names_load Words = false
names_load (LongPlan whose) = false
names_load (Plan whose fault) = false
names_load (File whose fault) = false
names_load (Shelf path) = true

-- a command that wasn't done was refused because a load failed
abbrev pub refused_load : Stop → Bool
refused_load (Refused refusal) = names_load refusal
refused_load Memory = false
refused_load Printing = false

-- the result is the refusal that names a load that failed
abbrev pub is_failed_load : {T : Type 0} → Result T Stop → Bool
is_failed_load (Ok value) = false
is_failed_load (Err stop) = refused_load stop

-- no load failed, unless the result is the refusal that names it
abbrev pub Loads : {T : Type 0} → ShelfSeen → Result T Stop → Type 0
Loads shelf result = is_failed_load result ≡ false → AllLoaded shelf

-- ---- files that are too long

-- P unless the refusal reports a file that is too long
abbrev pub UnlessLong : Refusal → Type 0 → Type 0
UnlessLong Words P = P
UnlessLong (LongPlan whose) P = Unit {0}
UnlessLong (Plan whose fault) P = P
UnlessLong (File whose fault) P = fault.kind ≢ TooLong → P
UnlessLong (Shelf path) P = P

-- no file was counted as too long
abbrev pub NoneLong : ShelfSeen → Type 0
NoneLong shelf = shelf.longs' ≡ shelf.longs

-- the same of a command that wasn't done, unless the refusal reports such a file
abbrev pub StopLengths : ShelfSeen → Stop → Type 0
StopLengths shelf (Refused refusal) = UnlessLong refusal (NoneLong shelf)
StopLengths shelf Memory = NoneLong shelf
StopLengths shelf Printing = NoneLong shelf

-- no file was counted as too long, unless the result is the refusal that reports it
abbrev pub Lengths : {T : Type 0} → ShelfSeen → Result T Stop → Type 0
Lengths shelf (Ok value) = NoneLong shelf
Lengths shelf (Err stop) = StopLengths shelf stop
