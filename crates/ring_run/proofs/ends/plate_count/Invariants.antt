use Rattle.std.proofs.Common.{◌≡◌, ◌≤◌, ◌*◌, length, take}
use Rattle.ring_run.specs.Served.{plates_in}
use Rattle.ring_run.proofs.ends.plate_count.Given as goal

abbrev pub invariant-loop-group : goal.invariant-loop-group
invariant-loop-group l = (l.count ≡ length (plates_in (take l.group-index l.groups) l.site)) × (l.count ≤ 5 * l.group-index)
