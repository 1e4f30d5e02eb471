use Rattle.tif_packbits.specs.Packbits.{expansion}
use Rattle.drill_mem.proofs.Counting.{HasCounted}
use Rattle.drill_mem.proofs.dots.ones_in.Given as goal

abbrev pub invariant-loop-index : goal.invariant-loop-index
invariant-loop-index l = HasCounted (expansion l.packed) l.bytes l._index l.ones
