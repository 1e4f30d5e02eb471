use Rattle.std.proofs.Common.{◌≡◌, length, All}
use Rattle.pr_rack.specs.Rack.{none_begun}
use Rattle.plateroom.proofs.racks.Given as goal

abbrev pub invariant-loop-i : goal.invariant-loop-i
invariant-loop-i l = (length l.racks.items ≡ l._i) × All (λ rack. rack.begun ≡ none_begun) l.racks.items
