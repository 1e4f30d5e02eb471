-- What each way to end of `plate_main` implies. The laws cite these lemmas.
use Rattle.std.proofs.Common.{◌≡◌, ◌≢◌, ◌⊎◌, ℕ, List, [], Option, Some, None, IfSome, false, refl, sym, subst, ◌∙◌, ap, inl, inr, arith}
use Rattle.pr_rack.specs.declared.rack.Rack.{Ghosts}
use Rattle.cmd_base.specs.declared.refusal.Refusal.{Refusal}
use Rattle.cmd_base.specs.declared.refusal.Refusal.TheVariants.{Words, LongPlan, Plan, File, Shelf}
use Rattle.plate_room.specs.Command.{AsksDrill, AsksVerify, Command, command_of}
use Rattle.cmd_base.specs.Refusal.{status_of, line_of}
use Rattle.cmd_base.specs.Task.{IsPart, PrintsFront}
use Rattle.plate_room.specs.Tasks.{IsCut, IsDone, IsEnd, IsShort, IsUnprinted, Meets, makes_of, rules_of, verdict_for, verdict_of}
use Rattle.cmd_base.specs.Status.{IsCutShort, IsDoneStatus, IsRefusal, IsStatus}
use Rattle.plate_room.specs.End.{IsMet, IsUnnoted, NoneFailed, Tells, TellsVerdict, TellsOfMemory, TellsPart}
use Rattle.plate_room.specs.Ending.{Ending, IsFinished, IsNoted, IsStopped, Done, Refused, Untold, NotNoted, Wanted, NotPrinted}
use Rattle.cmd_base.specs.Loads.{AllLoaded, names_load}
use Rattle.cmd_base.specs.Seen.{Seen, SinkSeen, Files, FailsOnce, IsSilent, IsUntouched, LoadFailed, PutFailed, RackFailed}
use Rattle.cmd_base.proofs.Grow.{grew_nothing}
use Rattle.cmd_base.proofs.Owed.{Owes}
use Rattle.plate_room.proofs.Owed.{drill_unmet, drill_zero, eight_looks, look_begins, look_leaves, look_not_one, owes}

-- ---- statuses

status_refuses : (refusal : Refusal) → IsRefusal (status_of refusal)
status_refuses Words = inl refl
status_refuses (LongPlan whose) = inr (inl refl)
status_refuses (Plan whose fault) = inr (inl refl)
status_refuses (File whose fault) = inr (inr (inl refl))
status_refuses (Shelf path) = inr (inr (inr refl))

-- the status of a refusal
refuses : (status : ℕ) (refusal : Refusal) → status ≡ status_of refusal → IsRefusal status
refuses status refusal is = subst IsRefusal (sym is) (status_refuses refusal)

-- a refusal whose status isn't 5 names no failed load
names_none : (refusal : Refusal) → (status_of refusal ≡ 5 → ⊥) → names_load refusal ≡ false
names_none Words other = refl
names_none (LongPlan whose) other = refl
names_none (Plan whose fault) other = refl
names_none (File whose fault) other = refl
names_none (Shelf path) other = absurd (other refl)

done_or_refused : (status : ℕ) → IsDoneStatus status → IsRefusal status → ⊥
done_or_refused status done refused = grind arith

done_or_cut : (status : ℕ) → IsDoneStatus status → IsCutShort status → ⊥
done_or_cut status done cut = grind arith

refused_or_cut : (status : ℕ) → IsRefusal status → IsCutShort status → ⊥
refused_or_cut status refused cut = grind arith

six_or_seven : (status : ℕ) → status ≡ 6 → status ≡ 7 → ⊥
six_or_seven status six seven = omega arith

-- arguments that aren't a command aren't this command either
none_asked : (words : List (List ℕ)) (command : Command) → command_of words ≡ None → command_of words ≡ Some command → ⊥
none_asked words command none asked = let e : None ≡ Some command = sym none ∙ asked in cc

-- P holds of the files, where the shelf's files are known
told : (held : Option Files) (P : Files → Type 0) → ((files : Files) → held ≡ Some files → P files) → IfSome held P
told None P f = tt
told (Some files) P f = f files refl

-- the verdict on a command line, where it is this command
asked_is : (words : List (List ℕ)) (files : Files) (command : Command) → command_of words ≡ Some command
    → verdict_of words files ≡ verdict_for (Some command) files
asked_is words files command asked = ap (λ c. verdict_for c files) asked

-- a refusal with this status was met, and its line was reported
pub record HasRefused {R : Type 0} (seen : Seen R) (note : SinkSeen) (status : ℕ) : Type 0 where
  pub refusal : Refusal
  pub is : status ≡ status_of refusal
  pub stopped : IsStopped seen refusal
  pub line : IsNoted note (line_of refusal)

module _ {R : Type 0} (g : Ghosts R) (seen : Seen R) where
  -- the verdict on a command that is done is a pass
  done_passes : (files : Files) (status : ℕ) → seen.shelf.held ≡ Some files
      → IsDone g seen.words seen.shelf seen.racks seen.racks' seen.out status → verdict_of seen.words files ≡ None
  done_passes files status is done =
      asked_is seen.words files done.command done.asked
      ∙ (owes g done.command).prints files seen.shelf seen.racks seen.racks' done.made.text status is done.made.prints

  -- the verdict is a pass also where a prefix of the text was printed
  front_passes : (files : Files) (command : Command) → seen.shelf.held ≡ Some files → command_of seen.words ≡ Some command
      → PrintsFront (makes_of g command) seen.shelf seen.racks seen.racks' seen.out → verdict_of seen.words files ≡ None
  front_passes files command is asked front =
      asked_is seen.words files command asked
      ∙ (owes g command).prints files seen.shelf seen.racks seen.racks' front.text front.status is front.prints

  part_passes : (files : Files) (command : Command) → seen.shelf.held ≡ Some files → command_of seen.words ≡ Some command
      → IsPart (makes_of g command) seen.shelf seen.racks seen.racks' seen.out → verdict_of seen.words files ≡ None
  part_passes files command is asked (inl front) = front_passes files command is asked front
  part_passes files command is asked (inr begun) =
      asked_is seen.words files command asked
      ∙ (owes g command).begins files seen.shelf seen.racks seen.racks' is begun.0

  -- the status of a command that is done
  done_status : (status : ℕ) → IsDone g seen.words seen.shelf seen.racks seen.racks' seen.out status → IsDoneStatus status
  done_status status done =
      (owes g done.command).done seen.shelf seen.racks seen.racks' done.made.text status done.made.prints

  -- a refusal that is met is the verdict, or a load failed
  met_is : (files : Files) (refusal : Refusal) → seen.shelf.held ≡ Some files → Meets seen.words seen.shelf refusal
      → (verdict_of seen.words files ≡ Some refusal) ⊎ ((status_of refusal ≡ 5) × LoadFailed seen.shelf)
  met_is files refusal is (inl (none, same, untouched)) =
      inl (ap (λ c. verdict_for c files) none ∙ ap Some (sym same))
  met_is files refusal is (inr (command, asked, met)) =
      elim ((owes g command).met files seen.shelf refusal is met) [
        | inl verdict ↦ inl (asked_is seen.words files command asked ∙ verdict)
        | inr failed ↦ inr failed
      ]

module _ {R : Type 0} (g : Ghosts R) (seen : Seen R) (note : SinkSeen) (status : ℕ) where
  pub status_is : Ending g seen note status → IsStatus status
  status_is (Done f s) = inl (done_status g seen status f.made)
  status_is (Refused r is stopped line) = inr (inl (refuses status r is))
  status_is (Untold r is stopped line) = inr (inr (inl is))
  status_is (NotNoted r is stopped rose line) = inr (inr (inr is))
  status_is (Wanted is broken line) = inr (inr (inl is))
  status_is (NotPrinted is spoilt same) = inr (inr (inr is))

  finished_at : Ending g seen note status → IsDoneStatus status → IsFinished g seen status × IsSilent note
  finished_at (Done f s) h = (f, s)
  finished_at (Refused r is stopped line) h = absurd (done_or_refused status h (refuses status r is))
  finished_at (Untold r is stopped line) h = absurd (done_or_cut status h (inl is))
  finished_at (NotNoted r is stopped rose line) h = absurd (done_or_cut status h (inr is))
  finished_at (Wanted is broken line) h = absurd (done_or_cut status h (inl is))
  finished_at (NotPrinted is spoilt same) h = absurd (done_or_cut status h (inr is))

  refused_at : Ending g seen note status → IsRefusal status → HasRefused seen note status
  refused_at (Done f s) h = absurd (done_or_refused status (done_status g seen status f.made) h)
  refused_at (Refused r is stopped line) h = record { refusal = r; is = is; stopped = stopped; line = line }
  refused_at (Untold r is stopped line) h = absurd (refused_or_cut status h (inl is))
  refused_at (NotNoted r is stopped rose line) h = absurd (refused_or_cut status h (inr is))
  refused_at (Wanted is broken line) h = absurd (refused_or_cut status h (inl is))
  refused_at (NotPrinted is spoilt same) h = absurd (refused_or_cut status h (inr is))

  -- ---- done

  pub done_made : Ending g seen note status → IsDoneStatus status
      → IsDone g seen.words seen.shelf seen.racks seen.racks' seen.out status
  done_made e h = (finished_at e h).0.made

  pub done_verdict : Ending g seen note status → IsDoneStatus status
      → IfSome seen.shelf.held (λ files. verdict_of seen.words files ≡ None)
  done_verdict e h = told seen.shelf.held (λ files. verdict_of seen.words files ≡ None) (λ files is.
      done_passes g seen files status is (done_made e h))

  pub done_note : Ending g seen note status → IsDoneStatus status → IsSilent note
  done_note e h = (finished_at e h).1

  pub done_loads : Ending g seen note status → IsDoneStatus status → AllLoaded seen.shelf
  done_loads e h = (finished_at e h).0.loads

  pub done_longs : Ending g seen note status → IsDoneStatus status → IsShort seen.words seen.shelf
  done_longs e h = (finished_at e h).0.longs

  pub one_left : Ending g seen note status → status ≡ 1 → RackFailed g seen.racks seen.racks'
  one_left e h =
      let done = done_made e (inr (inl h)) in
      (owes g done.command).one seen.shelf seen.racks seen.racks' done.made.text status done.made.prints h

  pub eight_asked : Ending g seen note status → status ≡ 8 → AsksVerify (command_of seen.words)
  eight_asked e h =
      let done = done_made e (inr (inr h)) in
      subst AsksVerify (sym done.asked)
      (eight_looks g seen.shelf seen.racks seen.racks' done.made.text status done.command done.made.prints h)

  -- ---- refused

  refused_tells : Ending g seen note status → IsRefusal status → Tells seen.words seen.shelf note status
  refused_tells e h =
      let r = refused_at e h in
      record { refusal = r.refusal; is = sym r.is; met = r.stopped.met; line = r.line.grew; longs = r.stopped.longs }

  -- the note's count of failures
  pub refused_note : Ending g seen note status → IsRefusal status → note.faults' ≡ note.faults
  refused_note e h = (refused_at e h).line.faults

  pub memory_once : Ending g seen note status → status ≡ 6 → FailsOnce note
  memory_once (Done f s) h = absurd (done_or_cut status (done_status g seen status f.made) (inl h))
  memory_once (Refused r is stopped line) h = absurd (refused_or_cut status (refuses status r is) (inl h))
  memory_once (Untold r is stopped two) h = two.once
  memory_once (NotNoted r is stopped rose line) h = absurd (six_or_seven status h is)
  memory_once (Wanted is broken front) h = front.once
  memory_once (NotPrinted is spoilt same) h = absurd (six_or_seven status h is)

  -- the same at one of the four statuses
  pub tells_at : (own : ℕ) → IsRefusal own → Ending g seen note status → status ≡ own → Tells seen.words seen.shelf note own
  tells_at own is e h =
      let T : ℕ → Type 0 = Tells seen.words seen.shelf note in subst T h (refused_tells e (subst IsRefusal (sym h) is))

  pub refused_racks : Ending g seen note status → IsRefusal status → seen.racks' ≡ seen.racks
  refused_racks e h = (refused_at e h).stopped.racks

  pub refused_out : Ending g seen note status → IsRefusal status → IsSilent seen.out
  refused_out e h = (refused_at e h).stopped.silent

  pub refused_loads : Ending g seen note status → IsRefusal status → status ≢ 5 → AllLoaded seen.shelf
  refused_loads e h other =
      let r = refused_at e h in r.stopped.loads (names_none r.refusal (λ five. other (r.is ∙ five)))

  -- arguments that met the refusal with status 2 aren't a command
  no_command : (refusal : Refusal) → status_of refusal ≡ 2 → Meets seen.words seen.shelf refusal → command_of seen.words ≡ None
  no_command refusal is (inl (none, r, same)) = none
  no_command refusal is (inr (command, asked, met)) = absurd ((owes g command).known seen.shelf refusal met is)

  pub words_none : Ending g seen note status → status ≡ 2 → command_of seen.words ≡ None
  words_none e h =
      let r = refused_at e (inl h) in no_command r.refusal (sym r.is ∙ h) r.stopped.met

  -- arguments that aren't a command met that refusal alone
  none_met : (refusal : Refusal) → command_of seen.words ≡ None → Meets seen.words seen.shelf refusal
      → (refusal ≡ Words) × IsUntouched seen.shelf
  none_met refusal none (inl (n, is, same)) = (is, same)
  none_met refusal none (inr (command, asked, met)) = absurd (none_asked seen.words command none asked)

  pub words_there : Ending g seen note status → command_of seen.words ≡ None → (status ≡ 2) ⊎ IsCutShort status
  words_there (Done f s) none = absurd (none_asked seen.words f.made.command none f.made.asked)
  words_there (Refused r is stopped line) none =
      let m = none_met r none stopped.met in inl (let S : Refusal → Type 0 = λ q. status ≡ status_of q in subst S m.0 is)
  words_there (Untold r is stopped line) none = inr (inl is)
  words_there (NotNoted r is stopped rose line) none = inr (inr is)
  words_there (Wanted is broken line) none = inr (inl is)
  words_there (NotPrinted is spoilt same) none = inr (inr is)

  -- ---- the verdict

  verdict_met : (files : Files) (refusal : Refusal) → seen.shelf.held ≡ Some files → IsStopped seen refusal
      → (verdict_of seen.words files ≡ Some refusal) ⊎ ((status_of refusal ≡ 5) × LoadFailed seen.shelf)
  verdict_met files refusal is stopped = met_is g seen files refusal is stopped.met

  pub verdict_told : Ending g seen note status → (files : Files) → seen.shelf.held ≡ Some files → IsRefusal status
      → status ≢ 5 → TellsVerdict seen.words files note status
  verdict_told e files is h other = by (verdict_met files r.refusal is r.stopped) where
    r : HasRefused seen note status
    r = refused_at e h

    by : (verdict_of seen.words files ≡ Some r.refusal) ⊎ ((status_of r.refusal ≡ 5) × LoadFailed seen.shelf)
        → TellsVerdict seen.words files note status
    by (inl verdict) = record { refusal = r.refusal; verdict = verdict; is = sym r.is; line = r.line.grew }
    by (inr (five, failed)) = absurd (other (r.is ∙ five))

  -- if no load failed, a refusal that was met is the verdict
  calm_verdict : (files : Files) (refusal : Refusal) → seen.shelf.held ≡ Some files → (LoadFailed seen.shelf → ⊥)
      → IsStopped seen refusal → verdict_of seen.words files ≡ Some refusal
  calm_verdict files refusal is calm stopped = elim (verdict_met files refusal is stopped) [
    | inl verdict ↦ verdict
    | inr failed ↦ absurd (calm failed.1)
  ]

  pub verdict_there : Ending g seen note status → (files : Files) → seen.shelf.held ≡ Some files → (refusal : Refusal)
      → verdict_of seen.words files ≡ Some refusal → (LoadFailed seen.shelf → ⊥)
      → (status ≡ status_of refusal) ⊎ IsCutShort status
  verdict_there (Done f s) files is refusal verdict calm =
      let pass : verdict_of seen.words files ≡ None = done_passes g seen files status is f.made in
      let e : None ≡ Some refusal = sym pass ∙ verdict in cc
  verdict_there (Refused r st stopped line) files is refusal verdict calm =
      let e : Some r ≡ Some refusal = sym (calm_verdict files r is calm stopped) ∙ verdict in
      let same : r ≡ refusal = cc in
      inl (let S : Refusal → Type 0 = λ q. status ≡ status_of q in subst S same st)
  verdict_there (Untold r st stopped line) files is refusal verdict calm = inr (inl st)
  verdict_there (NotNoted r st stopped rose line) files is refusal verdict calm = inr (inr st)
  verdict_there (Wanted st broken line) files is refusal verdict calm = inr (inl st)
  verdict_there (NotPrinted st spoilt same) files is refusal verdict calm = inr (inr st)

  -- no refusal is met if the verdict is a pass and no load failed
  none_wrong : (files : Files) (refusal : Refusal) → seen.shelf.held ≡ Some files → verdict_of seen.words files ≡ None
      → (LoadFailed seen.shelf → ⊥) → IsStopped seen refusal → ⊥
  none_wrong files refusal is pass calm stopped =
      let e : None ≡ Some refusal = sym pass ∙ calm_verdict files refusal is calm stopped in cc

  -- the refusal that stopped a command was met, and no load failed, unless it names the load
  met_at : (refusal : Refusal) → IsStopped seen refusal → IsMet seen.words seen.shelf refusal
  met_at refusal stopped = record { met = stopped.met; loads = stopped.loads; longs = stopped.longs }

  -- ---- printing

  pub printing_rose : Ending g seen note status → status ≡ 7
      → IsUnprinted g seen.words seen.shelf seen.racks seen.racks' seen.out
      ⊎ IsUnnoted seen.words seen.shelf seen.racks seen.racks' seen.out note
  printing_rose (Done f s) h = absurd (done_or_cut status (done_status g seen status f.made) (inr h))
  printing_rose (Refused r is stopped line) h = absurd (refused_or_cut status (refuses status r is) (inr h))
  printing_rose (Untold r is stopped line) h = absurd (six_or_seven status is h)
  printing_rose (NotNoted r is stopped rose line) h = inr (record {
    refusal = r;
    is = met_at r stopped;
    line = line;
    rose = rose;
    racks_stay = stopped.racks;
    silent = stopped.silent;
  })
  printing_rose (Wanted is broken line) h = absurd (six_or_seven status is h)
  printing_rose (NotPrinted is spoilt same) h = inl spoilt

  pub printing_out : Ending g seen note status → (files : Files) → seen.shelf.held ≡ Some files
      → verdict_of seen.words files ≡ None → (LoadFailed seen.shelf → ⊥) → status ≡ 7 → PutFailed seen.out
  printing_out (Done f s) files is pass calm h = absurd (done_or_cut status (done_status g seen status f.made) (inr h))
  printing_out (Refused r st stopped line) files is pass calm h = absurd (none_wrong files r is pass calm stopped)
  printing_out (Untold r st stopped line) files is pass calm h = absurd (none_wrong files r is pass calm stopped)
  printing_out (NotNoted r st stopped rose line) files is pass calm h = absurd (none_wrong files r is pass calm stopped)
  printing_out (Wanted st broken line) files is pass calm h = absurd (six_or_seven status st h)
  printing_out (NotPrinted st spoilt same) files is pass calm h = spoilt.rose

  -- ---- racks and output

  -- a command that was cut short left racks and output unchanged, or its verdict is a pass
  broken_stays : (files : Files) → seen.shelf.held ≡ Some files → (verdict_of seen.words files ≡ None → ⊥)
      → IsCut g seen.words seen.shelf seen.racks seen.racks' seen.out
      → (seen.racks' ≡ seen.racks) × (seen.out.given' ≡ seen.out.given)
  broken_stays files is wrong (inl same) = same
  broken_stays files is wrong (inr part) = absurd (wrong (part_passes g seen files part.command is part.asked part.made))

  pub stays : Ending g seen note status → (files : Files) → seen.shelf.held ≡ Some files
      → (verdict_of seen.words files ≡ None → ⊥) → (seen.racks' ≡ seen.racks) × (seen.out.given' ≡ seen.out.given)
  stays (Done f s) files is wrong = absurd (wrong (done_passes g seen files status is f.made))
  stays (Refused r st stopped line) files is wrong = (stopped.racks, stopped.silent.given)
  stays (Untold r st stopped line) files is wrong = (stopped.racks, stopped.silent.given)
  stays (NotNoted r st stopped rose line) files is wrong = (stopped.racks, stopped.silent.given)
  stays (Wanted st broken line) files is wrong = broken_stays files is wrong broken.cut
  stays (NotPrinted st spoilt same) files is wrong =
      absurd (wrong (front_passes g seen files spoilt.command is spoilt.asked spoilt.made))

  pub cut_left : Ending g seen note status → IsCutShort status
      → IsCut g seen.words seen.shelf seen.racks seen.racks' seen.out
  cut_left (Done f s) h = absurd (done_or_cut status (done_status g seen status f.made) h)
  cut_left (Refused r is stopped line) h = inl (stopped.racks, stopped.silent.given)
  cut_left (Untold r is stopped line) h = inl (stopped.racks, stopped.silent.given)
  cut_left (NotNoted r is stopped rose line) h = inl (stopped.racks, stopped.silent.given)
  cut_left (Wanted is broken line) h = broken.cut
  cut_left (NotPrinted is spoilt same) h =
      inr (record { command = spoilt.command; asked = spoilt.asked; made = inl spoilt.made })

  pub memory_note : Ending g seen note status → status ≡ 6 → TellsOfMemory seen.words seen.shelf note
  memory_note (Done f s) h = absurd (done_or_cut status (done_status g seen status f.made) (inl h))
  memory_note (Refused r is stopped line) h = absurd (refused_or_cut status (refuses status r is) (inl h))
  memory_note (Untold r is stopped two) h = (line_of r, inr (r, met_at r stopped, refl), two.grew)
  memory_note (NotNoted r is stopped rose line) h = absurd (six_or_seven status h is)
  memory_note (Wanted is broken front) h = ([], inl (refl, broken.loads, broken.longs), front.grew)
  memory_note (NotPrinted is spoilt same) h = absurd (six_or_seven status h is)

  pub printing_note : Ending g seen note status → status ≡ 7 → TellsPart seen.words seen.shelf note
  printing_note (Done f s) h = absurd (done_or_cut status (done_status g seen status f.made) (inr h))
  printing_note (Refused r is stopped line) h = absurd (refused_or_cut status (refuses status r is) (inr h))
  printing_note (Untold r is stopped line) h = absurd (six_or_seven status is h)
  printing_note (NotNoted r is stopped rose front) h = (line_of r, inr (r, met_at r stopped, refl), front)
  printing_note (Wanted is broken line) h = absurd (six_or_seven status is h)
  printing_note (NotPrinted is spoilt same) h = ([], inl (refl, spoilt.loads, spoilt.longs), (0, grew_nothing note.given note.given' same))

  -- ---- a drill

  -- a drill meets no refusal
  drill_calm : AsksDrill (command_of seen.words) → (refusal : Refusal) → Meets seen.words seen.shelf refusal → ⊥
  drill_calm drill refusal (inl (none, is, same)) = subst AsksDrill none drill
  drill_calm drill refusal (inr (command, asked, met)) = drill_unmet seen.shelf command refusal (subst AsksDrill asked drill) met

  pub drill_status : Ending g seen note status → AsksDrill (command_of seen.words) → (status ≡ 0) ⊎ IsCutShort status
  drill_status (Done f s) drill =
      inl (drill_zero g seen.shelf seen.racks seen.racks' f.made.made.text status f.made.command
      (subst AsksDrill f.made.asked drill) f.made.made.prints)
  drill_status (Refused r is stopped line) drill = absurd (drill_calm drill r stopped.met)
  drill_status (Untold r is stopped two) drill = inr (inl is)
  drill_status (NotNoted r is stopped rose front) drill = inr (inr is)
  drill_status (Wanted is broken front) drill = inr (inl is)
  drill_status (NotPrinted is spoilt same) drill = inr (inr is)

  -- ---- a verification

  pub look_never_one : Ending g seen note status → AsksVerify (command_of seen.words) → status ≢ 1
  look_never_one e look h =
      let done = done_made e (inr (inl h)) in
      look_not_one g seen.shelf seen.racks seen.racks' done.made.text status done.command
      (subst AsksVerify done.asked look) done.made.prints h

  -- the racks after a verification that was cut short
  look_cut : AsksVerify (command_of seen.words) → IsCut g seen.words seen.shelf seen.racks seen.racks' seen.out
      → seen.racks' ≡ seen.racks
  look_cut look (inl same) = same.0
  look_cut look (inr part) = by part.made where
    asks : AsksVerify (Some part.command)
    asks = subst AsksVerify part.asked look

    by : IsPart (makes_of g part.command) seen.shelf seen.racks seen.racks' seen.out → seen.racks' ≡ seen.racks
    by (inl front) = look_leaves g seen.shelf seen.racks seen.racks' front.text front.status part.command asks front.prints
    by (inr begun) = absurd (look_begins g seen.shelf seen.racks seen.racks' [] 0 part.command asks begun.0)

  pub look_racks : Ending g seen note status → AsksVerify (command_of seen.words) → seen.racks' ≡ seen.racks
  look_racks (Done f s) look =
      look_leaves g seen.shelf seen.racks seen.racks' f.made.made.text status f.made.command
      (subst AsksVerify f.made.asked look) f.made.made.prints
  look_racks (Refused r is stopped line) look = stopped.racks
  look_racks (Untold r is stopped two) look = stopped.racks
  look_racks (NotNoted r is stopped rose front) look = stopped.racks
  look_racks (Wanted is broken front) look = look_cut look broken.cut
  look_racks (NotPrinted is spoilt same) look =
      look_leaves g seen.shelf seen.racks seen.racks' spoilt.made.text spoilt.made.status spoilt.command
      (subst AsksVerify spoilt.asked look) spoilt.made.prints

  -- ---- completeness

  pub complete : Ending g seen note status → (files : Files) → seen.shelf.held ≡ Some files
      → verdict_of seen.words files ≡ None → NoneFailed g seen.shelf seen.racks seen.racks' seen.out note
      → IsEnd seen.words files status ⊎ (status ≡ 6)
  complete (Done f s) files is pass none =
      inl (record { command = f.made.command; asked = f.made.asked; ends = by (owed.ends files seen.shelf seen.racks seen.racks' text status is prints) })
    where
      text : List ℕ
      text = f.made.made.text

      prints : (makes_of g f.made.command).Prints seen.shelf seen.racks seen.racks' text status
      prints = f.made.made.prints

      owed : Owes g (rules_of f.made.command) (makes_of g f.made.command)
      owed = owes g f.made.command

      by : (rules_of f.made.command).Ends files status ⊎ (status ≡ 1) → (rules_of f.made.command).Ends files status
      by (inl ends) = ends
      by (inr one) = absurd (none.calls (owed.one seen.shelf seen.racks seen.racks' text status prints one))
  complete (Refused r st stopped line) files is pass none = absurd (none_wrong files r is pass none.loads stopped)
  complete (Untold r st stopped line) files is pass none = inr st
  complete (NotNoted r st stopped rose line) files is pass none = absurd (none.notes rose)
  complete (Wanted st broken line) files is pass none = inr st
  complete (NotPrinted st spoilt same) files is pass none = absurd (none.output spoilt.rose)
