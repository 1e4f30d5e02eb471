use Rattle.std.proofs.Common.{◌≡◌, ◌++◌, map}
use Rattle.replate.proofs.remaking.ends_of.Given as goal

abbrev pub invariant-loop-maker : goal.invariant-loop-maker
invariant-loop-maker l = (l.ends.items ≡ map (λ maker. maker.end) l.yielded) × (l.yielded ++ l.maker-iterator.rest.items ≡ l.fn.makers.items)
