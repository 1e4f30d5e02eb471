use Rattle.std.proofs.Common.{◌+◌}
use Rattle.page_layers.specs.Rows.{Marks, bit_is, held}
use Rattle.page_layers.proofs.marks.mark_bits.Given as goal

abbrev pub invariant-loop-j : goal.invariant-loop-j
invariant-loop-j l = Marks (λ k. bit_is l.marking.zeros l.row (l.first + k)) (held l.marking.fresh l.fn.into) l.from l.j l.fn.into l.into
