use Rattle.std.proofs.Common.{◌≡◌, List, Option, arith, take}
use Rattle.std.proofs.lemmas.Grind.{common_steps}
use Rattle.pr_rack.specs.declared.delivery.FileCall.{FileCall as CallData}
use Rattle.pr_rack.specs.Delivery.{delivery, with_all}
use Rattle.pr_rack.proofs.Deliveries.{last_failed}
use Rattle.pr_rack.proofs.delivery.deliver.Goals as goal

pub returns-then-not-rename-clause-failed : goal.returns-then-not-rename-clause-failed
returns-then-not-rename-clause-failed g c = (2, omega arith, grind (arith, common_steps))

pub returns-clause-failed : goal.returns-clause-failed
returns-clause-failed g c =
    let came : ◌≡◌ {A = Option (List CallData)} (g.F.PlateFile.calls c.rename.new.self) (with_all (take 3 (delivery c.args.at)) (g.F.PlateFile.calls c.args.file.now)) = grind (arith, common_steps) in
    last_failed c.sync_folder.result c.args.at _ _ _ c.sync_folder.ensures.failed came
