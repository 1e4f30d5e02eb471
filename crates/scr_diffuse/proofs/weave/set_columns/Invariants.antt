use Rattle.std.proofs.Common.{◌+◌, ◌*◌}
use Rattle.scr_diffuse.specs.Weave.{HasColumns}
use Rattle.scr_diffuse.proofs.weave.set_columns.Given as goal

abbrev pub invariant-loop-x : goal.invariant-loop-x
invariant-loop-x l = HasColumns l.rows l.x l.columns

abbrev pub invariant-loop-block : goal.invariant-loop-block
invariant-loop-block l = HasColumns l.rows (l.ragged + 16 * l.block) l.columns

abbrev pub invariant-loop-x-2 : goal.invariant-loop-x-2
invariant-loop-x-2 l = HasColumns l.rows l.x l.columns
