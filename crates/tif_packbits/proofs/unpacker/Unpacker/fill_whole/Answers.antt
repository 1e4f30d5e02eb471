-- Where nothing is left of the last packet, all are whole.
use Rattle.std.proofs.Common.{length, sym, ◌∙◌, rules}
use Rattle.tif_packbits.specs.Packet.{left_of}
use Rattle.tif_packbits.proofs.Wholes.{through-all, through-whole}
use Rattle.tif_packbits.proofs.unpacker.Unpacker.fill_whole.Goals as goal

pub invariant_of-result : goal.invariant_of-result
invariant_of-result c =
    through-whole c.self.inside.rest.now (left_of c.fill_from.result.0) c.fill_from.result.1.now (length c.args.into.now) c.fill_from.ensures.through (search rules)

pub returns-clause-whole : goal.returns-clause-whole
returns-clause-whole c =
    through-all c.self.inside.rest.now (left_of c.fill_from.result.0) c.fill_from.result.1.now (length c.args.into.now) c.fill_from.ensures.through (search rules)
    ∙ sym c.fill_from.ensures.filled
