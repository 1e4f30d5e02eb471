use Rattle.std.proofs.Common.{◌≡◌, ℕ, ◌<◌, false}
use Rattle.replate.specs.Wanted.{made_for}
use Rattle.replate.proofs.wanted.is_wanted.Given as goal

abbrev pub invariant-loop-site : goal.invariant-loop-site
invariant-loop-site l = (k : ℕ) → k < l.site → made_for l.picks l.group l.index l.ink k ≡ false
