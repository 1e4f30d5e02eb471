use Rattle.page_tone.specs.Limit.{HasLimited}
use Rattle.page_tone.proofs.row.limit_block.Given as goal

-- the pixels so far are limited
abbrev pub invariant-loop-x : goal.invariant-loop-x
invariant-loop-x l = HasLimited l.limit l.from l.x l.initial.cyan l.initial.magenta l.initial.yellow l.initial.black l.cyan l.magenta l.yellow l.black
