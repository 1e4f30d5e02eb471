-- A shift is the division that rounds down.
use Rattle.std.proofs.Common.{arith}
use Rattle.std.proofs.lemmas.Int.{ints}
use Rattle.scr_diffuse.proofs.NumberLemmas.{shifted_is, shifted-small}
use Rattle.scr_diffuse.proofs.passes.sixteenth.Goals as goal

pub returns-clause-number : goal.returns-clause-number
returns-clause-number c = shifted_is _ c.args.whole (omega (arith, ints)) c.requires

pub returns-clause-bounds : goal.returns-clause-bounds
returns-clause-bounds c = shifted-small _ c.args.whole (omega (arith, ints)) c.requires
