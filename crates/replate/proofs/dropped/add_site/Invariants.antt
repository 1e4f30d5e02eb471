use Rattle.std.proofs.Common.{◌≡◌, ◌++◌, take}
use Rattle.std.specs.Prelude.{filter}
use Rattle.std.specs.List.{enumerate_from, flat_map}
use Rattle.plan_rows.specs.Groups.{groups_of}
use Rattle.replate.specs.Picks.{is_dropped}
use Rattle.replate.specs.Plates.{plates_in}
use Rattle.replate.proofs.dropped.add_site.Given as goal

abbrev pub invariant-loop-index : goal.invariant-loop-index
invariant-loop-index l = l.plates.items ≡ l.fn.plates.items ++ filter (is_dropped l.before.plan l.after.plan)
    (flat_map (plates_in l.site) (take l.index (enumerate_from 0 (groups_of l.before.plan))))
