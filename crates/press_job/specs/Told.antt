-- What holds of the shelf after a call that loads files of a plan, whatever its result.
use Rattle.std.specs.Prelude.{◌≡◌, ◌≢◌, ◌≤◌, Contains, IfSome, IsErrOf, OnOk, Result, Some}
use Rattle.pr_base.specs.declared.fault.FaultKind.TheVariants.{TooLong}
use Rattle.pr_base.specs.Count.{Rose}
use Rattle.pr_ports.specs.declared.shelf.Shelf as shelf
use Rattle.plan_json.specs.Data.{PlanData}
use Rattle.press_job.specs.declared.refusal.Refusal.{Refusal}
use Rattle.press_job.specs.declared.refusal.Refusal.TheVariants.{Memory}
use Rattle.press_job.specs.Verdict.{IfFile, IfShelf}

pub record TellsShelf {H T : Type 0} (g : shelf.Ghosts H) (plan : PlanData) (old new : H)
    (result : Result T Refusal) : Type 0 where
  -- a refused file is one of the plan's, and is refused as too long only if the shelf counted that
  pub named : IfFile result (λ fault. Contains plan.files fault.file)
  pub too_long : IfFile result (λ fault. fault.kind ≡ TooLong → Rose (g.longs old) (g.longs new))
  -- a path is refused as failed only if the shelf counted the failure, and it is the last that failed
  pub counted : IfShelf result (λ path. Rose (g.faults old) (g.faults new))
  pub missed : IfShelf result (λ path. IfSome (g.missed new) (λ last. last ≡ Some path))
  -- with any other result no load failed
  pub done_missed : OnOk result (g.missed new ≡ g.missed old)
  pub file_missed : IfFile result (λ fault. g.missed new ≡ g.missed old)
  pub memory_missed : IsErrOf result Memory → g.missed new ≡ g.missed old
  pub done_faults : OnOk result (g.faults new ≡ g.faults old)
  pub file_faults : IfFile result (λ fault. g.faults new ≡ g.faults old)
  pub memory_faults : IsErrOf result Memory → g.faults new ≡ g.faults old
  -- no file was counted as too long, unless the result refuses it as such
  pub done_longs : OnOk result (g.longs new ≡ g.longs old)
  pub file_longs : IfFile result (λ fault. fault.kind ≢ TooLong → g.longs new ≡ g.longs old)
  pub shelf_longs : IfShelf result (λ path. g.longs new ≡ g.longs old)
  pub memory_longs : IsErrOf result Memory → g.longs new ≡ g.longs old
  -- the contents of the shelf are unchanged, and no count decreases
  pub held : g.held new ≡ g.held old
  pub faults_stay : g.faults old ≤ g.faults new
  pub longs_stay : g.longs old ≤ g.longs new
