use Rattle.std.proofs.Common.{rules}
use Rattle.ink_keys.proofs.Words.{word-front}
use Rattle.ink_keys.proofs.dots.front_ones.Goals as goal

pub returns-clause-ones : goal.returns-clause-ones
returns-clause-ones c =
    word-front c.args.word.now c.from_be_bytes.result c.args.count (search rules) (search rules) (search rules) c.from_be_bytes.ensures c.requires
