use Rattle.press_feed.proofs.SideLemmas.{IsSide-begin}
use Rattle.press_feed.proofs.side_pages.SidePages.begin.Goals as goal

pub invariant_of-self : goal.invariant_of-self
invariant_of-self c =
    IsSide-begin c.self.inside.job.now c.self.inside.page_rows c.turn_to.new.rows c.self.inside.page c.args.page c.self.inside.shown c.self.inside.tones c.self.inside.row c.self.invariant c.turn_to.ensures
