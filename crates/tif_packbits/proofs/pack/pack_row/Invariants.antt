use Rattle.std.proofs.Common.{length, ◌-◌}
use Rattle.tif_packbits.proofs.Rows.{IsPacked}
use Rattle.tif_packbits.proofs.pack.pack_row.Given as goal

abbrev pub invariant-loop-from : goal.invariant-loop-from
invariant-loop-from l = IsPacked l.row l.initial.into l.into l.from l.at

abbrev pub decreases-loop-from : goal.decreases-loop-from
decreases-loop-from l = length l.row - l.from
