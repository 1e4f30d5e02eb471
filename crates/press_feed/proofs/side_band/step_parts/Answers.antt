use Rattle.std.proofs.Common.{◌<◌, sym, subst, arith}
use Rattle.std.specs.Option.{ForSome}
use Rattle.press_feed.specs.Frames.{AreOf}
use Rattle.press_feed.specs.SideBand.{AreRowsFor}
use Rattle.press_feed.specs.SideRows.{SideRowsData}
use Rattle.press_feed.proofs.side_band.step_parts.Goals as goal

pub for_each_mut-requires-clause-accepts : goal.for_each_mut-requires-clause-accepts
for_each_mut-requires-clause-accepts g c κs within = λ i p less is.
    let below : i < 65536 = omega (arith, less, c.requires.most) in (
      (below, c.requires.each, c.requires.first),
      (
        subst {A = SideRowsData} (λ part. AreOf part.job c.args.drawn.now) (sym is) (c.requires.drawn i p.now less),
        subst {A = SideRowsData} (λ part. ForSome c.args.next (AreRowsFor part)) (sym is) (c.requires.next i p.now less),
      ),
    )
