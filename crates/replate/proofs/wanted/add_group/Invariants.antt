use Rattle.std.proofs.Common.{◌≡◌, ◌++◌, map, take}
use Rattle.plan_rows.specs.Inks.{inks_of}
use Rattle.replate.specs.Plates.{group_at, ink_plates}
use Rattle.replate.specs.Remade.{is_picked}
use Rattle.replate.proofs.wanted.add_group.Given as goal

abbrev pub invariant-loop-ink : goal.invariant-loop-ink
invariant-loop-ink l = l.bits.items ≡ l.fn.bits.items ++ map (is_picked l.picks) (ink_plates l.site l.index (take l.ink-index (inks_of (group_at l.after.plan l.index))))
