-- The calls that give a written file the plate's name, up to the one that failed.
use Rattle.std.proofs.Common.{◌≡◌, ◌∙◌, ℕ, Bool, true, false, List, take, Option, arith}
use Rattle.std.specs.Bool.{OnFalse}
use Rattle.pr_rack.specs.declared.delivery.FileCall.{FileCall}
use Rattle.pr_rack.specs.Delivery.{IsCutShort, delivery, with_all}

-- the last call failed and changed nothing
pub last_failed : (done : Bool) (at : ℕ) (old before new : Option (List FileCall)) → OnFalse done (new ≡ before)
    → before ≡ with_all (take 3 (delivery at)) old → OnFalse done (IsCutShort (delivery at) old new)
last_failed true at old before new failed came = tt
last_failed false at old before new failed came = (3, omega arith, failed ∙ came)
