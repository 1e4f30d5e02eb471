use Rattle.std.proofs.Common.{◌≡◌, ◌++◌, map, take}
use Rattle.site_agent.specs.Plan.{plate_of}
use Rattle.site_agent.proofs.plates.add_plates.Given as goal

abbrev pub invariant-loop-i : goal.invariant-loop-i
invariant-loop-i l = l.plates.items ≡ l.initial.plates.items ++ map (λ ink. plate_of l.plan l.out l.site (l.group, ink)) (take l.i l.inks)
