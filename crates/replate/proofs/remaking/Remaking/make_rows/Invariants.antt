use Rattle.std.proofs.Common.{◌≡◌, ◌-◌, false, length, map}
use Rattle.std.specs.Prelude.{All, drop}
use Rattle.tif_packbits.specs.Frame.{framed_row}
use Rattle.pr_rack.specs.Told.{told}
use Rattle.replate.specs.Remade.{by_picks}
use Rattle.replate.proofs.LoopLemmas.{IsAtRow}
use Rattle.replate.proofs.remaking.Remaking.make_rows.Given as goal

abbrev pub invariant-loop-deck : goal.invariant-loop-deck
invariant-loop-deck g l = record {
  home : l.deck.out ≡ false;
  feed : g.F.RowFeed.left l.feed ≡ drop l.deck.put l.deck.rows;
  row : All (λ bytes. length bytes ≡ length l.row) l.deck.rows;
  at : IsAtRow (told g.R.Rack)
      (by_picks l.self.after.now.plan (map framed_row l.fn.deck.rows) l.self.out.now l.self.picks.now)
      l.deck.rows l.deck.put l.fn.racks l.racks l.makers.items;
}

abbrev pub decreases-loop-deck : goal.decreases-loop-deck
decreases-loop-deck g l = length l.deck.rows - l.deck.put
