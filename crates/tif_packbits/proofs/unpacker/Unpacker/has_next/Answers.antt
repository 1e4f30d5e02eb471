-- The packed bytes ahead begin with those of the packets.
use Rattle.std.proofs.Common.{rules}
use Rattle.std.proofs.lemmas.Bool.Decides.{Decides-eqb}
use Rattle.std.proofs.lemmas.Slice.Eq.{starts_is}
use Rattle.tif_packbits.specs.Packet.{left_of}
use Rattle.tif_packbits.proofs.Wholes.{next_is}
use Rattle.tif_packbits.proofs.unpacker.Unpacker.has_next.Goals as goal

pub returns : goal.returns
returns c = λ same.
    (rw (← c.self.view_is, ← c.packets.view_is)
    (next_is (left_of c.self.inside.packet) c.self.inside.rest.now c.packets.inside.packed.now (search rules) c.packets.invariant
    ((starts_is Decides-eqb c.self.inside.rest.now c.packets.inside.packed.now c.starts_with.result c.starts_with.ensures.value).0 same)))
