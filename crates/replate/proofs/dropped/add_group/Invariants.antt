use Rattle.std.proofs.Common.{◌≡◌, ◌++◌, take}
use Rattle.std.specs.Prelude.{filter}
use Rattle.plan_rows.specs.Inks.{inks_of}
use Rattle.replate.specs.Picks.{is_dropped}
use Rattle.replate.specs.Plates.{group_at, ink_plates}
use Rattle.replate.proofs.dropped.add_group.Given as goal

abbrev pub invariant-loop-ink : goal.invariant-loop-ink
invariant-loop-ink l = l.plates.items ≡ l.fn.plates.items ++ filter (is_dropped l.before.plan l.after.plan)
    (ink_plates l.site l.index (take l.ink-index (inks_of (group_at l.before.plan l.index))))
