use Rattle.std.proofs.Common.{◌-◌, ◌∙◌, ◌<◌, length, get_or, subst, sym, arith}
use Rattle.ring_lanes.specs.Deck.{DeckState}
use Rattle.pr_rack.specs.Told.{RackTells, told}
use Rattle.replate.specs.Making.{Made, SomeServed, Stopped}
use Rattle.site_agent.proofs.Results.{on_err}
use Rattle.replate.proofs.RowLemmas.{MadeBy, all_ended, all_handed, handed_more, next_served}
use Rattle.replate.proofs.remaking.hand_row.Goals as goal

pub hand-requires-clause-some : goal.hand-requires-clause-some
hand-requires-clause-some g c =
    let tell : g.row.R.Denot → RackTells = told g.R.Rack in
    let deck = c.args.deck.now in
    let was = c.loop-i.invariant in
    let long = c.loop-i.auto.racks in
    let count = c.requires.count in
    let low : c.loop-i.i < length c.args.makers.now = omega arith in
    subst (λ (d : DeckState). SomeServed d.rows (d.put - 1) (tell (get_or c.loop-i.racks c.loop-i.i c.index-racks-i.result)) (get_or c.loop-i.makers c.loop-i.i c.index-makers-i.result)) (sym was.deck)
    (next_served tell deck.rows (deck.put - 1) c.args.makers.now c.args.racks.now c.loop-i.makers c.loop-i.racks c.loop-i.i c.index-makers-i.result c.index-racks-i.result low (omega (arith, low, count)) was.handed c.requires.some)

pub loop-i-preserved : goal.loop-i-preserved
loop-i-preserved g c =
    let tell : g.row.R.Denot → RackTells = told g.R.Rack in
    let deck = c.args.deck.now in
    let was = c.loop-i.invariant in
    let here : Made deck.rows (deck.put - 1) (tell (get_or c.loop-i.racks c.loop-i.i c.index-racks-i.result)) (tell c.hand.new.rack) (get_or c.loop-i.makers c.loop-i.i c.index-makers-i.result) c.hand.new.maker =
    subst (λ (d : DeckState). Made d.rows (d.put - 1) (tell (get_or c.loop-i.racks c.loop-i.i c.index-racks-i.result)) (tell c.hand.new.rack) (get_or c.loop-i.makers c.loop-i.i c.index-makers-i.result) c.hand.new.maker) was.deck c.in_ok-hand.ensures.made in
    record {
      deck = c.hand.ensures.deck ∙ was.deck;
      handed = handed_more (MadeBy tell deck.rows (deck.put - 1)) c.args.makers.now c.args.racks.now c.loop-i.makers c.loop-i.racks c.loop-i.i c.index-makers-i.result c.hand.new.maker c.index-racks-i.result c.hand.new.rack was.handed here;
    }

pub returns-in_err-hand-clause-stopped : goal.returns-in_err-hand-clause-stopped
returns-in_err-hand-clause-stopped g c =
    let tell : g.row.R.Denot → RackTells = told g.R.Rack in
    let deck = c.args.deck.now in
    let was = c.loop-i.invariant in
    let here : Stopped deck.rows (deck.put - 1) (tell (get_or c.loop-i.racks c.loop-i.i c.index-racks-i.result)) (tell c.hand.new.rack) (get_or c.loop-i.makers c.loop-i.i c.index-makers-i.result) =
    subst (λ (d : DeckState). Stopped d.rows (d.put - 1) (tell (get_or c.loop-i.racks c.loop-i.i c.index-racks-i.result)) (tell c.hand.new.rack) (get_or c.loop-i.makers c.loop-i.i c.index-makers-i.result)) was.deck c.in_err-hand.ensures.stopped in
    on_err c.from_residual.result _
    (all_ended tell deck.rows (deck.put - 1) c.args.makers.now c.args.racks.now c.loop-i.makers c.loop-i.racks c.loop-i.i c.index-makers-i.result c.index-racks-i.result c.hand.new.rack c.loop-i.auto.makers was.handed here)

pub returns-clause-made : goal.returns-clause-made
returns-clause-made g c =
    let tell : g.row.R.Denot → RackTells = told g.R.Rack in
    let deck = c.args.deck.now in
    let past = c.loop-i-test.false in
    all_handed tell deck.rows (deck.put - 1) c.args.makers.now c.args.racks.now c.loop-i.makers c.loop-i.racks c.loop-i.i (omega arith) c.loop-i.invariant.handed
