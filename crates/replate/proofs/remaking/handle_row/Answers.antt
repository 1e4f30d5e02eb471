use Rattle.std.proofs.Common.{length, sym, ◌∙◌, rules}
use Rattle.std.specs.Prelude.{OnErr, OnOk}
use Rattle.pr_rack.specs.Told.{told}
use Rattle.replate.specs.Making.{AllMade, AllSomeServed, AllStopped}
use Rattle.replate.proofs.DeliveryLemmas.{fits_next, next_is}
use Rattle.replate.proofs.PassLemmas.{all_go_on, all_have_next, all_passed}
use Rattle.replate.proofs.RowLemmas.{as_last, as_next}
use Rattle.replate.proofs.remaking.handle_row.Goals as goal

pub is_kept-requires : goal.is_kept-requires
is_kept-requires g c =
    all_go_on (told g.R.Rack) c.args.deck.now.rows c.args.deck.now.put c.args.makers.now c.args.racks.now
    c.requires.count c.requires.some

pub pass_over-requires-clause-next : goal.pass_over-requires-clause-next
pass_over-requires-clause-next g c =
    all_have_next (told g.R.Rack) c.args.deck.now.rows c.args.deck.now.put c.args.makers.now c.args.racks.now
    c.requires.below c.requires.count c.requires.some

pub returns-then-not-is_kept-clause-made : goal.returns-then-not-is_kept-clause-made
returns-then-not-is_kept-clause-made g c =
    all_passed (told g.R.Rack) c.args.deck.now.rows c.args.deck.now.put c.args.makers.now c.args.racks.now
    c.pass_over.new.makers c.pass_over.ensures.makers (search rules)

pub next-requires : goal.next-requires
next-requires g c =
    fits_next c.args.deck.now.rows (g.F.RowFeed.left c.args.feed.now) c.args.deck.now.put
    (length c.args.row.now) c.requires.feed c.requires.below c.requires.row

pub put-requires-clause-next : goal.put-requires-clause-next
put-requires-clause-next g c =
    (next_is c.args.deck.now.rows c.args.deck.now.put c.next.new.row (g.F.RowFeed.left c.next.new.self)
    (sym c.requires.feed ∙ c.next.ensures)).0

pub hand_row-requires-clause-some : goal.hand_row-requires-clause-some
hand_row-requires-clause-some g c =
    as_last (λ rows n. AllSomeServed (told g.R.Rack) rows n c.args.makers.now c.args.racks.now)
    c.args.deck.now c.put.new.self c.put.ensures c.requires.some

pub returns-clause-made : goal.returns-clause-made
returns-clause-made g c =
    as_next
    (λ rows n. OnOk c.hand_row.result (AllMade (told g.R.Rack) rows n c.args.makers.now c.args.racks.now
    c.hand_row.new.makers c.hand_row.new.racks))
    c.args.deck.now c.put.new.self c.put.ensures c.hand_row.ensures.made

pub returns-clause-stopped : goal.returns-clause-stopped
returns-clause-stopped g c =
    as_next
    (λ rows n. OnErr c.hand_row.result (AllStopped (told g.R.Rack) rows n c.args.makers.now
    c.args.racks.now c.hand_row.new.racks))
    c.args.deck.now c.put.new.self c.put.ensures c.hand_row.ensures.stopped

pub returns-clause-feed : goal.returns-clause-feed
returns-clause-feed g c =
    (next_is c.args.deck.now.rows c.args.deck.now.put c.next.new.row (g.F.RowFeed.left c.next.new.self)
    (sym c.requires.feed ∙ c.next.ensures)).1
