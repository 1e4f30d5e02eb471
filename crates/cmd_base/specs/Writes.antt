-- Whether a write to the output failed in a call of a command.
use Rattle.std.specs.Prelude.{◌≡◌, Bool, true, false, Result, Ok, Err}
use Rattle.cmd_base.specs.declared.refusal.Stop.{Stop}
use Rattle.cmd_base.specs.declared.refusal.Stop.TheVariants.{Refused, Memory, Printing}
use Rattle.cmd_base.specs.Seen.{SinkSeen}

-- the output failed
abbrev pub is_printing : Stop → Bool
is_printing (Refused refusal) = false
is_printing Memory = false
is_printing Printing = true

-- the result is that the output failed
abbrev pub is_failed_write : {T : Type 0} → Result T Stop → Bool
is_failed_write (Ok value) = false
is_failed_write (Err stop) = is_printing stop

-- no write to the output failed, unless the result is that it did
abbrev pub Writes : {T : Type 0} → SinkSeen → Result T Stop → Type 0
Writes out result = is_failed_write result ≡ false → out.faults' ≡ out.faults
