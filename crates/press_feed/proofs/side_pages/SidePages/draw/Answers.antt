-- The tile of the ink draws the row made last.
use Rattle.std.proofs.Common.{◌∙◌, ◌+◌, ◌*◌, ◌≤◌, length, ap, sym, subst, arith}
use Rattle.pr_base.specs.Bits.{SetsBits}
use Rattle.press_job.specs.Printing.{page_bit}
use Rattle.press_feed.specs.Screener.{IsScreener}
use Rattle.press_feed.specs.Sides.{SideData, left_edge}
use Rattle.press_feed.specs.declared.screener.Screener.TheVariants.{Tile}
use Rattle.press_feed.proofs.ScreenerLemmas.{tile_sets}
use Rattle.press_feed.proofs.SideLemmas.{values_are}
use Rattle.press_feed.proofs.side_pages.SidePages.draw.Goals as goal

pub screen_row-requires : goal.screen_row-requires
screen_row-requires c =
    let e = c.self.view_is in
    let job = c.self.inside.job.now in
    let at = c.left_edge-from.ensures in
    let wide = (values_are job c.self.inside.page_rows c.self.inside.page c.self.inside.shown c.args.y c.self.inside.tones c.self.inside.row c.args.ink c.values.result.now c.self.invariant
    (ap {A = SideData} (λ s. s.shown) e ∙ c.requires.shown) c.values.ensures).1 in
    let room : left_edge job.plan c.self.inside.side + job.plan.page_width ≤ 8 * length c.args.bits.now =
    subst {A = SideData} (λ s. left_edge s.plan s.side + s.plan.page_width ≤ 8 * length c.args.bits.now) (sym e) c.requires.room in
    omega arith

pub returns : goal.returns
returns c =
    let e = c.self.view_is in
    let job = c.self.inside.job.now in
    let from = c.left_edge-from.result in
    let own = values_are job c.self.inside.page_rows c.self.inside.page c.self.inside.shown c.args.y c.self.inside.tones c.self.inside.row c.args.ink c.values.result.now c.self.invariant
    (ap {A = SideData} (λ s. s.shown) e ∙ c.requires.shown) c.values.ensures in
    subst {A = SideData} (λ s. SetsBits (λ x. page_bit s.plan s.files s.page c.args.ink x c.args.y) (left_edge s.plan s.side) s.plan.page_width c.args.bits.now c.screen_row.new.bits) e
    (subst (λ f. SetsBits (λ x. page_bit job.plan job.files c.self.inside.page c.args.ink x c.args.y) f job.plan.page_width c.args.bits.now c.screen_row.new.bits) c.left_edge-from.ensures
    (tile_sets job.plan job.files c.self.inside.page c.args.ink c.args.y from c.args.tile.now c.values.result.now c.args.bits.now c.screen_row.new.bits
    (subst {A = SideData} (λ s. IsScreener s.plan c.args.ink (Tile c.args.tile.now)) (sym e) c.requires.tile) own.1 own.0
    (record { inside = c.screen_row.ensures.screened; before = c.screen_row.ensures.before; behind = c.screen_row.ensures.behind })))
