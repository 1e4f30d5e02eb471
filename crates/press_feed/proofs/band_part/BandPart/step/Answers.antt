use Rattle.std.proofs.Common.{sym, subst}
use Rattle.press_feed.specs.SideBand.{AreRowsFor}
use Rattle.press_feed.specs.SideRows.{SideRowsData}
use Rattle.press_feed.proofs.band_part.BandPart.step.Goals as goal

pub draw-requires : goal.draw-requires
draw-requires c = subst {A = SideRowsData} (λ p. AreRowsFor p c.in-Some.rows) (sym c.self.view_is) (c.requires.next c.in-Some.rows c.in-Some.is)
