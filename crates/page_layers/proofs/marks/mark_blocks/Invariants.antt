use Rattle.std.proofs.Common.{◌+◌, ◌*◌}
use Rattle.page_layers.specs.Rows.{Marks, bit_is, held}
use Rattle.page_layers.proofs.marks.mark_blocks.Given as goal

abbrev pub invariant-loop-k : goal.invariant-loop-k
invariant-loop-k l = Marks (λ x. bit_is l.marking.zeros l.row (l.first + x)) (held l.marking.fresh l.fn.into) l.from (l.from + 64 * l.k) l.fn.into l.into
