use Rattle.std.proofs.Common.{take}
use Rattle.plan_pages.specs.Span.{AddsBits}
use Rattle.plan_pages.proofs.MarkLemmas.{marked_by}
use Rattle.plan_pages.proofs.marks.mark_row.Given as goal

abbrev pub invariant-loop-mark : goal.invariant-loop-mark
invariant-loop-mark l = AddsBits (marked_by l.fn.ink l.fn.y (take l.mark-index l.mark-items)) l.initial.bits l.bits
