use Rattle.std.proofs.Common.{◌≡◌, length, All, map, is_some}
use Rattle.pr_rack.specs.Rack.{none_begun}
use Rattle.test_room.proofs.room.racks.Given as goal

abbrev pub invariant-loop-site : goal.invariant-loop-site
invariant-loop-site l = (length l.racks.items ≡ l.site) × All (λ rack. map is_some rack.slots ≡ none_begun) l.racks.items
