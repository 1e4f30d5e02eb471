-- What a result tells of a shelf at which no load failed and no file was too long.
use Rattle.std.proofs.Common.{◌≡◌, ◌≢◌, List, ℕ, arith}
use Rattle.std.specs.Prelude.{Contains, Err, Ok, OnOk, Result}
use Rattle.pr_base.specs.declared.fault.FileFault.{FileFault}
use Rattle.pr_base.specs.declared.fault.FaultKind.TheVariants.{TooLong}
use Rattle.pr_ports.specs.declared.shelf.Shelf as shelf
use Rattle.plan_json.specs.Data.{PlanData}
use Rattle.press_job.specs.declared.refusal.Refusal.{Refusal}
use Rattle.press_job.specs.declared.refusal.Refusal.TheVariants.{File, Shelf, Memory}
use Rattle.press_job.specs.Told.{TellsShelf}
use Rattle.press_job.specs.Verdict.{IfFile, IfShelf}

-- a fact that holds anyway holds of the value, of a file's fault and of a path
on_ok : {T : Type 0} (result : Result T Refusal) (P : Type 0) → P → OnOk result P
on_ok (Ok value) P p = p
on_ok (Err refusal) P p = tt

if_file : {T : Type 0} (result : Result T Refusal) (P Q : FileFault → Type 0)
    → ((fault : FileFault) → P fault → Q fault) → IfFile result P → IfFile result Q
if_file (Ok value) P Q f p = tt
if_file (Err (File fault)) P Q f p = f fault p
if_file (Err (Shelf path)) P Q f p = tt
if_file (Err Memory) P Q f p = tt

if_shelf : {T : Type 0} (result : Result T Refusal) (Q : List ℕ → Type 0) → IfShelf result (λ path. ⊥)
    → IfShelf result Q
if_shelf (Ok value) Q p = tt
if_shelf (Err (File fault)) Q p = tt
if_shelf (Err (Shelf path)) Q p = absurd p
if_shelf (Err Memory) Q p = tt

-- the file that a result refuses is one of the plan's, and not refused as too long
record IsOther (plan : PlanData) (fault : FileFault) : Type 0 where
  pub named : Contains plan.files fault.file
  pub short : fault.kind ≢ TooLong

told_by : {H T : Type 0} (g : shelf.Ghosts H) (plan : PlanData) (old new : H) (result : Result T Refusal)
    → IfFile result (IsOther plan) → IfShelf result (λ path. ⊥) → g.missed new ≡ g.missed old
    → g.faults new ≡ g.faults old → g.longs new ≡ g.longs old → g.held new ≡ g.held old
    → TellsShelf g plan old new result
told_by g plan old new result other none missed faults longs held = record {
  named = if_file result (IsOther plan) (λ fault. _) (λ fault is. is.named) other;
  too_long = if_file result (IsOther plan) (λ fault. _) (λ fault is long. absurd (is.short long)) other;
  counted = if_shelf result (λ path. _) none;
  missed = if_shelf result (λ path. _) none;
  done_missed = on_ok result _ missed;
  file_missed = if_file result (IsOther plan) (λ fault. _) (λ fault is. missed) other;
  memory_missed = λ memory. missed;
  done_faults = on_ok result _ faults;
  file_faults = if_file result (IsOther plan) (λ fault. _) (λ fault is. faults) other;
  memory_faults = λ memory. faults;
  done_longs = on_ok result _ longs;
  file_longs = if_file result (IsOther plan) (λ fault. _) (λ fault is short. longs) other;
  shelf_longs = if_shelf result (λ path. _) none;
  memory_longs = λ memory. longs;
  held = held;
  faults_stay = omega (arith, faults);
  longs_stay = omega (arith, longs);
}

-- after all files were loaded, and after a file that was
pub done_tells : {H T U : Type 0} (g : shelf.Ghosts H) (plan : PlanData) (old new : H) (loaded : U) (value : T)
    → TellsShelf g plan old new (Ok loaded) → TellsShelf g plan old new (Ok value)
done_tells g plan old new loaded value told =
    told_by g plan old new (Ok value) tt tt told.done_missed told.done_faults told.done_longs told.held

pub memory_tells : {H T U : Type 0} (g : shelf.Ghosts H) (plan : PlanData) (old new : H) (loaded : U)
    → TellsShelf g plan old new (Ok loaded) → TellsShelf {T = T} g plan old new (Err Memory)
memory_tells g plan old new loaded told =
    told_by g plan old new (Err Memory) tt tt told.done_missed told.done_faults told.done_longs told.held

pub file_tells : {H T : Type 0} (g : shelf.Ghosts H) (plan : PlanData) (old new : H) (fault : FileFault)
    → Contains plan.files fault.file → fault.kind ≢ TooLong → g.missed new ≡ g.missed old
    → g.faults new ≡ g.faults old → g.longs new ≡ g.longs old → g.held new ≡ g.held old
    → TellsShelf {T = T} g plan old new (Err (File fault))
file_tells g plan old new fault named short missed faults longs held =
    told_by g plan old new (Err (File fault)) (record { named = named; short = short }) tt missed faults longs held
