-- Each side draws its current row, under the tile of the ink.
use Rattle.std.proofs.Common.{ap, subst, ◌∙◌}
use Rattle.press_feed.specs.Pair.{PairData}
use Rattle.press_feed.specs.Plates.{ShowsPages, page_row}
use Rattle.press_feed.proofs.PlateLemmas.{sides_drawn}
use Rattle.press_feed.proofs.ScreenerLemmas.{own_tile}
use Rattle.press_feed.proofs.page_pair.PagePair.draw.Goals as goal

pub draw-requires-clause-tile : goal.draw-requires-clause-tile
draw-requires-clause-tile c =
    let pair = c.self.inside in
    let is = c.self.invariant in
    own_tile pair.job.now.plan pair.left.plan c.args.ink pair.screeners.items c.slot.result c.index.result.now _ is.screeners_are is.left_is.plan_is c.slot.ensures.slot c.index.ensures c.in-Tile.is

pub draw-requires-in-Tile-clause-tile : goal.draw-requires-in-Tile-clause-tile
draw-requires-in-Tile-clause-tile c =
    let pair = c.self.inside in
    let is = c.self.invariant in
    own_tile pair.job.now.plan pair.right.plan c.args.ink pair.screeners.items c.slot.result c.index.result.now _ is.screeners_are is.right_is.plan_is c.slot.ensures.slot c.index.ensures c.in-Tile.is

pub returns : goal.returns
returns c = λ row there.
    let pair = c.self.inside in
    let is = c.self.invariant in
    let e = c.self.view_is in
    subst {A = PairData} (λ p. ShowsPages p.job.plan p.job.files p.left p.right c.args.ink row c.draw-in-Tile.new.bits) e
    (sides_drawn pair.job.now c.args.ink row c.args.y _ pair.left pair.right c.args.bits.now c.draw.new.bits c.draw-in-Tile.new.bits is.left_is is.right_is c.requires.blank
    (ap {A = PairData} (λ p. page_row p.job.plan row) e ∙ there) c.draw.ensures c.draw-in-Tile.ensures)
