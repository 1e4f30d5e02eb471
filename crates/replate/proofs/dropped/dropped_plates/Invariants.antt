use Rattle.std.proofs.Common.{◌≡◌, take}
use Rattle.std.specs.Prelude.{filter, length}
use Rattle.std.specs.List.{flat_map, range_with_len}
use Rattle.replate.specs.Picks.{is_dropped}
use Rattle.replate.specs.Plates.{plates_of}
use Rattle.replate.proofs.dropped.dropped_plates.Given as goal

abbrev pub invariant-loop-site : goal.invariant-loop-site
invariant-loop-site l = l.plates.items ≡ filter (is_dropped l.before.plan l.after.plan)
    (flat_map (plates_of l.before.plan) (take l.site (range_with_len 0 (length l.before.plan.sites))))
