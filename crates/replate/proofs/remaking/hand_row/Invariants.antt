use Rattle.std.proofs.Common.{◌≡◌, ◌-◌}
use Rattle.pr_rack.specs.Told.{told}
use Rattle.replate.proofs.RowLemmas.{HandedUpTo, MadeBy}
use Rattle.replate.proofs.remaking.hand_row.Given as goal

abbrev pub invariant-loop-i : goal.invariant-loop-i
invariant-loop-i g l = record {
  deck : l.deck ≡ l.initial.deck;
  handed : HandedUpTo (MadeBy (told g.R.Rack) l.initial.deck.rows (l.initial.deck.put - 1)) l.initial.makers l.initial.racks l.makers l.racks l.i;
}
