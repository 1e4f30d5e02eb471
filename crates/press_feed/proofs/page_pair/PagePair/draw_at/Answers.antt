use Rattle.std.proofs.Common.{◌≡◌, ◌+◌, sym, subst}
use Rattle.std.specs.Prelude.{Some}
use Rattle.press_feed.specs.Pair.{PairData, of_group}
use Rattle.press_feed.specs.Plates.{ShowsPages, page_row}
use Rattle.press_feed.proofs.page_pair.PagePair.draw_at.Goals as goal

pub returns-clause-pages : goal.returns-clause-pages
returns-clause-pages c = λ row there.
    let shown : PairData = of_group c.args.group.now (c.args.y + 1) c.args.self.now in
    subst {A = PairData} (λ p. ShowsPages p.job.plan p.job.files p.left p.right c.args.ink row c.draw.new.bits) c.show.ensures
    (c.draw.ensures row (subst {A = PairData} (λ p. page_row p.job.plan row ≡ Some c.args.y) (sym c.show.ensures) there))
