use Rattle.std.proofs.Common.{◌≡◌, ℕ, ◌<◌, false, get_or}
use Rattle.replate.specs.declared.maker.Maker.{Maker}
use Rattle.replate.specs.Making.{is_making}
use Rattle.replate.proofs.remaking.are_making.Given as goal

abbrev pub invariant-loop-maker : goal.invariant-loop-maker
invariant-loop-maker l = (k : ℕ) (d : Maker) → k < l.maker-index → is_making (get_or l.makers k d) ≡ false
