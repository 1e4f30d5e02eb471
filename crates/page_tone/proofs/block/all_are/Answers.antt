-- An empty mask of the lanes that differ: none does.
use Rattle.page_tone.proofs.BlockLemmas.{same_in_row}
use Rattle.page_tone.proofs.block.all_are.Goals as goal

pub returns : goal.returns
returns c = same_in_row c.args.values.now c.args.from c.args.value c.requires
