-- Each colour of the block is 0.
use Rattle.std.proofs.Common.{arith, rules}
use Rattle.page_tone.proofs.row.are_bare.Goals as goal

pub returns : goal.returns
returns c = λ yellow x above less. (
  c.if-not-all_are.ensures (search rules) x above (omega arith),
  c.if-not-all_are-2.ensures (search rules) x above (omega arith),
  c.all_are-3.ensures yellow x above (omega arith),
)
