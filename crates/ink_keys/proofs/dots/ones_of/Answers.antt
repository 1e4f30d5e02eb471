use Rattle.std.proofs.Common.{rules}
use Rattle.ink_keys.proofs.Words.{word-ones}
use Rattle.ink_keys.proofs.dots.ones_of.Goals as goal

pub returns-clause-ones : goal.returns-clause-ones
returns-clause-ones c =
    word-ones c.args.word.now c.from_be_bytes.result (search rules) (search rules) (search rules) c.from_be_bytes.ensures
