-- The table holds the reciprocal of each sum.
use Rattle.std.proofs.Common.{ap, ◌∙◌, get_or}
use Rattle.page_tone.proofs.ReciprocalLemmas.{entry, table, table_at}
use Rattle.page_tone.proofs.reciprocals.reciprocal.Goals as goal

pub returns : goal.returns
unfolding table entry
returns c = λ above. ap (λ entries. get_or entries c.args.colours 0) c.as_flattened.ensures.value ∙ table_at c.args.colours c.requires above
