use Rattle.std.proofs.Common.{◌≡◌, ℕ, ◌<◌, false, get_or}
use Rattle.replate.specs.declared.maker.Maker.{Maker}
use Rattle.replate.specs.Making.{keeps_next}
use Rattle.replate.proofs.remaking.is_kept.Given as goal

abbrev pub invariant-loop-maker : goal.invariant-loop-maker
invariant-loop-maker l = (k : ℕ) (d : Maker) → k < l.maker-index → keeps_next (get_or l.makers k d) ≡ false
