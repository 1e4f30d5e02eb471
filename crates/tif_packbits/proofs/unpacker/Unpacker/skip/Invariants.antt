use Rattle.std.proofs.Common.{length}
use Rattle.tif_packbits.specs.Unpacker.{bytes_ahead}
use Rattle.tif_packbits.proofs.Pieces.{HasPassed}
use Rattle.tif_packbits.proofs.unpacker.Unpacker.skip.Given as goal

abbrev pub invariant-loop-most : goal.invariant-loop-most
invariant-loop-most l = HasPassed (bytes_ahead l.initial.self-inside) (bytes_ahead l.self-inside) l.n l.most

abbrev pub decreases-loop-most : goal.decreases-loop-most
decreases-loop-most l = length l.self-inside.rest.now
