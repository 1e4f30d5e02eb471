use Rattle.page_layers.proofs.admit.mark_mask.Goals as goal

pub mark_pixels-requires-clause-part : goal.mark_pixels-requires-clause-part
mark_pixels-requires-clause-part c = c.requires.part c.in-Some-Some.reader c.in-Some-Some.is-1
