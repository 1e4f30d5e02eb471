use Rattle.plan_pages.specs.Span.{AddsBits, in_bytes}
use Rattle.plan_pages.proofs.span.set_bytes.Given as goal

abbrev pub invariant-loop-i : goal.invariant-loop-i
invariant-loop-i l = AddsBits (in_bytes l.from l.i) l.initial.bits l.bits
