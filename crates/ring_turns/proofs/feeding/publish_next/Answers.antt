use Rattle.std.proofs.Common.{◌+◌, length, drop, sym, ap, ◌∙◌, arith}
use Rattle.std.specs.Prelude.{slice_get}
use Rattle.ring_lanes.specs.Writer.{WriterState}
use Rattle.ring_turns.proofs.Feeds.{fits_next, next_is, rest_is}
use Rattle.ring_turns.proofs.feeding.publish_next.Goals as goal

pub next-requires : goal.next-requires
next-requires g c =
    let w = c.args.writer.now in
    let some = c.requires.some in
    let count = c.requires.rows.count in
    fits_next w.ring.rows (g.F.RowFeed.left c.args.feed.now) w.head (length c.args.row.now) c.requires.feed (omega (arith, some, count)) (λ k d less. c.requires.rows.each k d less ∙ sym c.requires.row)

pub publish-requires-clause-row : goal.publish-requires-clause-row
publish-requires-clause-row g c =
    let w = c.args.writer.now in
    let some = c.requires.some in
    let count = c.requires.rows.count in
    ap (λ (v : WriterState). slice_get v.ring.rows v.head) c.in_ok-pass.ensures.same
    ∙ next_is w.ring.rows (g.F.RowFeed.left c.args.feed.now) (g.F.RowFeed.left c.next.new.self) w.head c.next.new.row c.requires.feed (omega (arith, some, count)) c.next.ensures

pub returns-clause-feed : goal.returns-clause-feed
returns-clause-feed g c =
    let w = c.args.writer.now in
    let some = c.requires.some in
    let count = c.requires.rows.count in
    rest_is w.ring.rows (g.F.RowFeed.left c.args.feed.now) (g.F.RowFeed.left c.next.new.self) w.head c.next.new.row c.requires.feed (omega (arith, some, count)) c.next.ensures
    ∙ sym (ap (λ (v : WriterState). drop v.head v.ring.rows) c.publish.ensures ∙ ap (λ (v : WriterState). drop (v.head + 1) v.ring.rows) c.in_ok-pass.ensures.same)
