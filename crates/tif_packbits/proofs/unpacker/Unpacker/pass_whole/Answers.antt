-- The packed bytes ahead begin with those of the packets, and are behind them now.
use Rattle.std.proofs.Common.{Some, rules}
use Rattle.std.proofs.lemmas.Bool.Decides.{Decides-eqb}
use Rattle.std.proofs.lemmas.Slice.Eq.{strip_prefix_is}
use Rattle.tif_packbits.specs.Packet.{left_of}
use Rattle.tif_packbits.proofs.Wholes.{passed_is}
use Rattle.tif_packbits.proofs.unpacker.Unpacker.pass_whole.Goals as goal

pub returns-in-Some-clause-passed : goal.returns-in-Some-clause-passed
returns-in-Some-clause-passed c = λ yes.
    (rw (← c.self.view_is, ← c.packets.view_is)
    (passed_is (left_of c.self.inside.packet) c.self.inside.rest.now c.packets.inside.packed.now c.in-Some.rest.now (search rules) c.packets.invariant
    (strip_prefix_is Decides-eqb c.self.inside.rest.now c.packets.inside.packed.now (Some c.in-Some.rest) c.in-Some.ensures.cases)))
