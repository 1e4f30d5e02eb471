-- One more row is drawn, under the tile.
use Rattle.std.proofs.Common.{◌≡◌, ℕ, ◌+◌, ◌<◌, length, ap, sym, subst, ◌∙◌}
use Rattle.pr_base.specs.Bits.{SetsBits}
use Rattle.press_job.specs.Printing.{page_bit, printed_row}
use Rattle.press_feed.specs.declared.screener.Screener.TheVariants.{Tile}
use Rattle.press_feed.specs.Drawn.{DrawnData}
use Rattle.press_feed.specs.Screener.{IsScreener}
use Rattle.press_feed.proofs.DrawnLemmas.{drawn_more}
use Rattle.press_feed.proofs.ScreenerLemmas.{tile_sets}
use Rattle.press_feed.proofs.drawn_rows.DrawnRows.tile_row.Goals as goal

pub invariant_of-self : goal.invariant_of-self
invariant_of-self c =
    let d = c.self.inside in
    let e = c.self.view_is in
    let job = d.job.now in
    let y = c.args.y in
    let from = c.bit_of-from.result in
    let old = c.index_mut.result.now in
    let new = c.tile_page.new.self in
    let row : y ≡ d.first + d.count = c.requires.next ∙ ap {A = DrawnData} (λ r. r.first + r.count) (sym e) in
    let sets = tile_sets job.plan job.files d.page d.ink y from c.args.tile.now c.args.values.now old new
    (subst {A = DrawnData} (λ r. IsScreener r.job.plan r.ink (Tile c.args.tile.now)) (sym e) c.requires.tile)
    (subst {A = DrawnData} (λ r. length c.args.values.now ≡ r.job.plan.page_width) (sym e) c.requires.width)
    (subst {A = DrawnData} (λ r. c.args.values.now ≡ printed_row r.job.plan r.job.files r.page r.ink y) (sym e) c.requires.values)
    c.tile_page.ensures.bits in
    drawn_more job d.side d.page d.ink d.first d.count from d.rows.items old new c.self.invariant (subst {A = DrawnData} (λ r. r.count < r.room) (sym e) c.requires.room) c.index_mut.ensures.value c.bit_of-from.ensures
    c.tile_page.ensures.long (subst {A = ℕ} (λ n. SetsBits (λ x. page_bit job.plan job.files d.page d.ink x n) from job.plan.page_width old new) row sets)
