use Rattle.std.proofs.Common.{◌≡◌, ◌+◌, ◌<◌, refl, inr, arith}
use Rattle.ring_turns.proofs.Feeds.{fed_full, fed_on, not_fed, stuck, waits_for}
use Rattle.ring_turns.proofs.feeding.feed_ahead.Goals as goal

pub loop-writer-preserved-in_default : goal.loop-writer-preserved-in_default
loop-writer-preserved-in_default g c =
    let more = c.in_default.ensures.published in
    let grew = c.loop-writer.invariant.1.grows.head in (
      c.publish_next.ensures.feed,
      fed_on c.args.writer.now c.loop-writer.writer c.publish_next.new.writer c.loop-writer.waits c.loop-writer.invariant.1 c.publish_next.ensures.same c.publish_next.ensures.looks more,
      c.loop-writer.invariant.2,
      refl,
      inr (λ room. omega (arith, more, grew)),
    )

pub returns-then-waits-patience-clause-not_done : goal.returns-then-waits-patience-clause-not_done
returns-then-waits-patience-clause-not_done g c =
    let same = c.head.ensures.head in
    let total = c.total.ensures in
    let less : c.loop-writer.writer.head < c.loop-writer.writer.ring.total = let t = c.loop-writer-test.true in omega (arith, t, same, total) in
    not_fed c.args.writer.now c.loop-writer.writer c.publish_next.new.writer c.loop-writer.waits c.in-Err.field-0 c.loop-writer.invariant.1 c.publish_next.ensures.same c.in-Err.ensures.head less c.in-Err.ensures.full

pub returns-then-waits-patience-clause-waiting : goal.returns-then-waits-patience-clause-waiting
returns-then-waits-patience-clause-waiting g c =
    let last : c.loop-writer.waits + 1 ≡ c.args.patience = let t = c.if-waits-patience.true in omega (arith, t) in
    waits_for c.args.writer.now c.loop-writer.writer c.publish_next.new.writer c.loop-writer.waits c.args.patience c.in-Err.field-0 c.loop-writer.invariant.1 c.publish_next.ensures.same c.publish_next.ensures.looks c.in-Err.ensures.head
    c.in-Err.ensures.full last

pub returns-then-waits-patience-clause-grows : goal.returns-then-waits-patience-clause-grows
returns-then-waits-patience-clause-grows g c =
    (fed_full c.args.writer.now c.loop-writer.writer c.publish_next.new.writer c.loop-writer.waits c.in-Err.field-0 c.loop-writer.invariant.1 c.publish_next.ensures.same c.publish_next.ensures.looks c.in-Err.ensures.head c.in-Err.ensures.full).grows

pub loop-writer-preserved : goal.loop-writer-preserved
loop-writer-preserved g c =
    let low = c.loop-writer.invariant.2 in
    let other = c.if-waits-patience.false in (
      c.publish_next.ensures.feed,
      fed_full c.args.writer.now c.loop-writer.writer c.publish_next.new.writer c.loop-writer.waits c.in-Err.field-0 c.loop-writer.invariant.1 c.publish_next.ensures.same c.publish_next.ensures.looks c.in-Err.ensures.head c.in-Err.ensures.full,
      omega (arith, low, other),
      refl,
      inr (stuck c.args.writer.now c.loop-writer.writer c.publish_next.new.writer c.loop-writer.invariant.4 c.in-Err.ensures.gets_on c.in-Err.ensures.head),
    )

pub returns-then-waits-patience-clause-waits : goal.returns-then-waits-patience-clause-waits
returns-then-waits-patience-clause-waits g c =
    let last : c.loop-writer.waits + 1 ≡ c.args.patience = let t = c.if-waits-patience.true in omega (arith, t) in
    let fed = fed_full c.args.writer.now c.loop-writer.writer c.publish_next.new.writer c.loop-writer.waits c.in-Err.field-0 c.loop-writer.invariant.1 c.publish_next.ensures.same c.publish_next.ensures.looks c.in-Err.ensures.head c.in-Err.ensures.full in
    λ r less. (let most = fed.looks r less in omega (arith, most, last))
