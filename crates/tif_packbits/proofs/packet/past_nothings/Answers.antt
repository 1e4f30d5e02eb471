use Rattle.std.proofs.Common.{ap, sym, ◌∙◌, arith}
use Rattle.std.proofs.lemmas.List.{take_rest}
use Rattle.tif_packbits.specs.Packbits.{expansion}
use Rattle.tif_packbits.proofs.Nothings.{past-step, expansion-past}
use Rattle.tif_packbits.proofs.packet.past_nothings.Goals as goal

pub loop-rest-preserved : goal.loop-rest-preserved
loop-rest-preserved c = c.loop-rest.invariant ∙ past-step _ _ _ _ c.in-128.len_at_least (omega arith) (take_rest c.loop-rest.rest.now 1) c.strip_prefix.ensures.cases c.unwrap_or-rest.ensures

pub returns-in_default-clause-same : goal.returns-in_default-clause-same
returns-in_default-clause-same c =
    expansion-past c.args.packed.now ∙ (ap expansion c.loop-rest.invariant ∙ sym (expansion-past c.loop-rest.rest.now))

pub returns-in_default-2-clause-same : goal.returns-in_default-2-clause-same
returns-in_default-2-clause-same c =
    expansion-past c.args.packed.now ∙ (ap expansion c.loop-rest.invariant ∙ sym (expansion-past c.loop-rest.rest.now))
