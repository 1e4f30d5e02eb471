use Rattle.std.proofs.Common.{◌≡◌, map, take}
use Rattle.std.specs.Prelude.{filter}
use Rattle.std.specs.List.{flat_map}
use Rattle.plan_rows.specs.Inks.{has_site}
use Rattle.plan_rows.specs.Plates.{group_plates}
use Rattle.site_agent.specs.Plan.{plate_of}
use Rattle.site_agent.proofs.plates.plates_of.Given as goal

abbrev pub invariant-loop-group : goal.invariant-loop-group
invariant-loop-group l = l.plates.items ≡ map (plate_of l.plan l.out l.site) (flat_map group_plates (filter (λ group. has_site group l.site) (take l.group-index l.groups)))
