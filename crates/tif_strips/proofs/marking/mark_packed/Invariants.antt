use Rattle.std.proofs.Common.{ℕ, ◌+◌, ◌*◌, ◌<◌, get_or}
use Rattle.tif_strips.specs.Marking.{Reached}
use Rattle.tif_strips.specs.Marks.{IsMark}
use Rattle.tif_strips.proofs.marking.mark_packed.Given as goal

abbrev pub invariant-loop-mark : goal.invariant-loop-mark
invariant-loop-mark l = record {
  reached : Reached l.stored l.n l.step l.mark-index l.left l.cursor;
  each : (k : ℕ) → k < l.mark-index → IsMark l.stored ((k + 1) * l.step) (get_or l.marks k 0);
}
