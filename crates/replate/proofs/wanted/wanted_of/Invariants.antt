use Rattle.std.proofs.Common.{◌≡◌, map, take}
use Rattle.std.specs.List.{enumerate_from, flat_map}
use Rattle.plan_rows.specs.Groups.{groups_of}
use Rattle.replate.specs.Plates.{plates_in}
use Rattle.replate.specs.Remade.{is_picked}
use Rattle.replate.proofs.wanted.wanted_of.Given as goal

abbrev pub invariant-loop-index : goal.invariant-loop-index
invariant-loop-index l = l.bits.items ≡ map (is_picked l.picks) (flat_map (plates_in l.site) (take l.index (enumerate_from 0 (groups_of l.after.plan))))
