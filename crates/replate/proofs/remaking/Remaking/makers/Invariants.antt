use Rattle.std.proofs.Common.{◌≡◌, map}
use Rattle.std.specs.List.{range_with_len}
use Rattle.replate.specs.Making.{fresh_maker}
use Rattle.replate.proofs.remaking.Remaking.makers.Given as goal

abbrev pub invariant-loop-site : goal.invariant-loop-site
invariant-loop-site l = l.makers.items ≡ map (fresh_maker l.self.after.now.plan l.self.out.now l.self.picks.now) (range_with_len 0 l.site)
