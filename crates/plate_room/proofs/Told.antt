-- How a run ends, derived from the contracts of its steps.
use Rattle.std.proofs.Common.{◌≡◌, ◌≢◌, ℕ, List, [], Some, Result, Ok, Err, refl, inl, inr}
use Rattle.pr_rack.specs.declared.rack.Rack.{Ghosts}
use Rattle.cmd_base.specs.declared.refusal.Refusal.{Refusal}
use Rattle.cmd_base.specs.declared.refusal.Stop.{Stop}
use Rattle.cmd_base.specs.declared.refusal.Stop.TheVariants as stop
use Rattle.cmd_base.specs.Note.{TellsRefusal, TellsStop}
use Rattle.cmd_base.specs.Line.{memory_line}
use Rattle.cmd_verify.specs.Check.{Asked, CheckLengths}
use Rattle.plate_room.specs.Command.{Command, Drill, Keys, One, Replate, Run, Verify, command_of}
use Rattle.plate_room.specs.Ending.{Answered, Ending, IsStopped, Refused, Untold, NotNoted, Wanted, NotPrinted}
use Rattle.cmd_base.specs.Loads.{Lengths, Loads, NoneLong, UnlessLong}
use Rattle.cmd_base.specs.Seen.{Seen, ShelfSeen, SinkSeen}
use Rattle.cmd_base.specs.Task.{Answers}
use Rattle.cmd_base.specs.Writes.{Writes}
use Rattle.cmd_base.proofs.Grow.{second_front}
use Rattle.plate_room.specs.Tasks.{IsShort, makes_of, rules_of}

-- no file was counted as too long, unless it is what this result of a command reports
abbrev pub LengthsOf : Command → ShelfSeen → Result ℕ Stop → Type 0
LengthsOf (One file) shelf result = Lengths shelf result
LengthsOf (Run edition) shelf result = Lengths shelf result
LengthsOf (Keys edition keys) shelf result = Lengths shelf result
LengthsOf (Drill number ring patience) shelf result = Lengths shelf result
LengthsOf (Verify asked) shelf result = CheckLengths asked shelf result
LengthsOf (Replate change) shelf result = Lengths shelf result

-- a refusal with a line of its own
tell_end : {R : Type 0} (g : Ghosts R) (seen : Seen R) (note : SinkSeen) (status : ℕ) (refusal : Refusal)
    → TellsRefusal refusal note status → IsStopped seen refusal → Ending g seen note status
tell_end g seen note status refusal (inl (is, grew, faults)) stopped =
    Refused refusal is stopped (record { grew = grew; faults = faults })
tell_end g seen note status refusal (inr (inl (is, rose, front))) stopped = NotNoted refusal is stopped rose front
tell_end g seen note status refusal (inr (inr (is, two, once))) stopped =
    Untold refusal is stopped (record { grew = two; once = once })

-- a run whose command didn't end with a status
pub ends : {R : Type 0} (g : Ghosts R) (seen : Seen R) (note : SinkSeen) (why : Stop) (status : ℕ)
    → Answered g seen (Err why) → TellsStop why note status → Ending g seen note status
ends g seen note (stop.Refused refusal) status stopped told = tell_end g seen note status refusal told stopped
ends g seen note stop.Memory status broken (is, front, once) = Wanted is broken
    (record { grew = second_front note.given note.given' [] memory_line front; once = once })
ends g seen note stop.Printing status spoilt (is, same) = NotPrinted is spoilt same

-- the output of a run whose status isn't 7
pub told_writes : (out note : SinkSeen) (why : Stop) (status : ℕ) → TellsStop why note status
    → Writes {T = ℕ} out (Err why) → status ≢ 7 → out.faults' ≡ out.faults
told_writes out note (stop.Refused refusal) status told writes other = writes refl
told_writes out note stop.Memory status told writes other = writes refl
told_writes out note stop.Printing status (is, same) writes other = absurd (other is)

-- a result other than a refusal
abbrev pub IsUnrefused : Result ℕ Stop → Type 0
IsUnrefused (Ok status) = Unit {0}
IsUnrefused (Err (stop.Refused refusal)) = ⊥
IsUnrefused (Err stop.Memory) = Unit {0}
IsUnrefused (Err stop.Printing) = Unit {0}

none_long : (words : List (List ℕ)) (shelf : ShelfSeen) (result : Result ℕ Stop) → IsUnrefused result → Lengths shelf result
    → IsShort words shelf
none_long words shelf (Ok status) un longs = inl longs
none_long words shelf (Err (stop.Refused refusal)) un longs = absurd un
none_long words shelf (Err stop.Memory) un longs = inl longs
none_long words shelf (Err stop.Printing) un longs = inl longs

found_long : (words : List (List ℕ)) (shelf : ShelfSeen) (asked : Asked) (result : Result ℕ Stop)
    → command_of words ≡ Some (Verify asked) → IsUnrefused result → CheckLengths asked shelf result → IsShort words shelf
found_long words shelf asked (Ok status) is un (inl none) = inl none
found_long words shelf asked (Ok status) is un (inr found) = inr (asked, is, found)
found_long words shelf asked (Err (stop.Refused refusal)) is un longs = absurd un
found_long words shelf asked (Err stop.Memory) is un (inl none) = inl none
found_long words shelf asked (Err stop.Memory) is un (inr found) = inr (asked, is, found)
found_long words shelf asked (Err stop.Printing) is un (inl none) = inl none
found_long words shelf asked (Err stop.Printing) is un (inr found) = inr (asked, is, found)

-- files that are too long, where the command wasn't refused
short_of : (words : List (List ℕ)) (shelf : ShelfSeen) (command : Command) (result : Result ℕ Stop)
    → command_of words ≡ Some command → IsUnrefused result → LengthsOf command shelf result → IsShort words shelf
short_of words shelf (One file) result asked un longs = none_long words shelf result un longs
short_of words shelf (Run edition) result asked un longs = none_long words shelf result un longs
short_of words shelf (Keys edition keys) result asked un longs = none_long words shelf result un longs
short_of words shelf (Drill number ring patience) result asked un longs = none_long words shelf result un longs
short_of words shelf (Verify own) result asked un longs = found_long words shelf own result asked un longs
short_of words shelf (Replate change) result asked un longs = none_long words shelf result un longs

-- the same where it was refused
refused_longs : (command : Command) (shelf : ShelfSeen) (refusal : Refusal)
    → LengthsOf command shelf (Err (stop.Refused refusal)) → UnlessLong refusal (NoneLong shelf)
refused_longs (One file) shelf refusal longs = longs
refused_longs (Run edition) shelf refusal longs = longs
refused_longs (Keys edition keys) shelf refusal longs = longs
refused_longs (Drill number ring patience) shelf refusal longs = longs
refused_longs (Verify own) shelf refusal longs = longs
refused_longs (Replate change) shelf refusal longs = longs

-- the state after a command, where the arguments are this command
pub answered : {R : Type 0} (g : Ghosts R) (seen : Seen R) (command : Command) (result : Result ℕ Stop)
    → command_of seen.words ≡ Some command → Loads seen.shelf result → LengthsOf command seen.shelf result
    → Answers (rules_of command) (makes_of g command) seen.shelf seen.racks seen.racks' seen.out result
    → Answered g seen result
answered g seen command (Ok status) asked loads longs whole = record {
  made = record { command = command; asked = asked; made = whole };
  loads = loads refl;
  longs = short_of seen.words seen.shelf command (Ok status) asked tt longs;
}
answered g seen command (Err (stop.Refused refusal)) asked loads longs (met, racks, silent) = record {
  met = inr (command, asked, met);
  racks = racks;
  silent = silent;
  loads = loads;
  longs = refused_longs command seen.shelf refusal longs;
}
answered g seen command (Err stop.Memory) asked loads longs (inl nothing) = record {
  asked = (command, asked);
  cut = inl nothing;
  loads = loads refl;
  longs = short_of seen.words seen.shelf command (Err stop.Memory) asked tt longs;
}
answered g seen command (Err stop.Memory) asked loads longs (inr part) = record {
  asked = (command, asked);
  cut = inr (record { command = command; asked = asked; made = part });
  loads = loads refl;
  longs = short_of seen.words seen.shelf command (Err stop.Memory) asked tt longs;
}
answered g seen command (Err stop.Printing) asked loads longs (front, rose) = record {
  command = command;
  asked = asked;
  made = front;
  rose = rose;
  loads = loads refl;
  longs = short_of seen.words seen.shelf command (Err stop.Printing) asked tt longs;
}
