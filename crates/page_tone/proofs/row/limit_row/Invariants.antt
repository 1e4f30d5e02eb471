use Rattle.std.proofs.Common.{◌*◌, length, min}
use Rattle.page_tone.specs.Limit.{HasLimited}
use Rattle.page_tone.proofs.row.limit_row.Given as goal

-- the blocks so far are limited
abbrev pub invariant-loop-block : goal.invariant-loop-block
invariant-loop-block l = HasLimited l.limit 0 (min (64 * l.block) (length l.initial.cyan)) l.initial.cyan l.initial.magenta l.initial.yellow l.initial.black l.cyan l.magenta l.yellow l.black
