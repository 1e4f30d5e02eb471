use Rattle.std.proofs.Common.{◌≡◌, ◌<◌, ℕ, ◌∙◌, false, List, length, map, refl, sym, ap, subst, arith}
use Rattle.std.specs.Prelude.{All, drop}
use Rattle.std.proofs.lemmas.List.{take_at}
use Rattle.pr_rack.specs.Told.{told}
use Rattle.replate.specs.declared.maker.Maker.{Maker}
use Rattle.replate.specs.Making.{is_making}
use Rattle.replate.proofs.DeliveryLemmas.{none_part, remade_part}
use Rattle.replate.proofs.LoopLemmas.{all_some, all_stopped, all_up, counts_keep, have_parts, makers_begin}
use Rattle.replate.proofs.LoopLemmas.{makers_count, next_row, remade_fits, row_left, with_makers}
use Rattle.site_agent.proofs.Results.{if_ok, on_err}
use Rattle.replate.proofs.remaking.Remaking.make_rows.Goals as goal

pub returns-in_err-makers-clause-part : goal.returns-in_err-makers-clause-part
returns-in_err-makers-clause-part g c =
    on_err c.from_residual.result _ (none_part _ (map (told g.R.Rack) c.args.racks.now))

pub loop-deck-init : goal.loop-deck-init
loop-deck-init g c =
    let self = c.args.self.now in
    record {
      home = c.requires.home;
      feed = c.requires.feed ∙ ap (λ k. drop k c.args.deck.now.rows) (sym c.requires.put);
      row = c.requires.row;
      at = makers_begin (told g.R.Rack) self.after.now.plan c.args.deck.now.rows self.out.now self.picks.now
          c.args.deck.now.put c.args.racks.now c.in_ok-makers.makers.items c.makers.ensures.plan
          c.requires.rows c.requires.put c.requires.racks c.in_ok-makers.ensures.fresh c.requires.idle
          c.tell_slots.ensures;
    }

pub are_making-requires : goal.are_making-requires
are_making-requires g c = all_up (with_makers c.deref.ensures.value c.loop-deck.invariant.at)

pub handle_row-requires-clause-below : goal.handle_row-requires-clause-below
handle_row-requires-clause-below g c =
    row_left (with_makers c.deref.ensures.value c.loop-deck.invariant.at)
    (c.are_making.ensures.some c.loop-deck-test.true)

pub handle_row-requires-clause-count : goal.handle_row-requires-clause-count
handle_row-requires-clause-count g c =
    makers_count (with_makers c.as_mut_slice.ensures.value c.loop-deck.invariant.at)

pub handle_row-requires-clause-some : goal.handle_row-requires-clause-some
handle_row-requires-clause-some g c =
    all_some (with_makers c.as_mut_slice.ensures.value c.loop-deck.invariant.at)

pub loop-deck-smaller : goal.loop-deck-smaller
loop-deck-smaller g c =
    let low : c.loop-deck.deck.put < length c.loop-deck.deck.rows =
    row_left (with_makers c.deref.ensures.value c.loop-deck.invariant.at)
    (c.are_making.ensures.some c.loop-deck-test.true) in
    let put = c.handle_row.ensures.put in
    omega (arith, low, put, ap {B = ℕ} length c.handle_row.ensures.rows)

pub loop-deck-preserved : goal.loop-deck-preserved
loop-deck-preserved g c =
    let at = c.loop-deck.invariant.at in
    let low =
    row_left (with_makers c.deref.ensures.value at) (c.are_making.ensures.some c.loop-deck-test.true) in
    let deck = c.handle_row.new.deck in
    let makers = c.handle_row.new.makers in
    let row = c.handle_row.new.row in
    let rows = c.handle_row.ensures.rows in
    let put = c.handle_row.ensures.put in
    record {
      home = c.handle_row.ensures.home;
      feed = c.handle_row.ensures.feed ∙ ap (λ k. drop k c.loop-deck.deck.rows) (sym put)
          ∙ ap (drop deck.put) (sym rows);
      row = subst (λ (list : List (List ℕ)). All (λ bytes. length bytes ≡ length row) list) (sym rows)
          (subst (λ (k : ℕ). All (λ bytes. length bytes ≡ k) c.loop-deck.deck.rows)
          (sym c.handle_row.auto.row) c.loop-deck.invariant.row);
      at = with_makers (take_at makers _ _ (c.handle_row.auto.makers ∙ c.as_mut_slice.ensures.len))
          (next_row (with_makers c.as_mut_slice.ensures.value at) deck.rows deck.put makers
          c.handle_row.new.racks rows put low c.handle_row.auto.makers c.handle_row.auto.racks
          c.in_ok-handle_row.ensures.made);
    }

pub returns-in_err-handle_row-clause-part : goal.returns-in_err-handle_row-clause-part
returns-in_err-handle_row-clause-part g c =
    on_err c.from_residual-in_err-handle_row.result _
    (remade_part (all_stopped (with_makers c.as_mut_slice.ensures.value c.loop-deck.invariant.at)
    c.handle_row.new.racks c.handle_row.auto.racks c.in_err-handle_row.ensures.stopped))

pub returns-in_err-handle_row-clause-counts : goal.returns-in_err-handle_row-clause-counts
returns-in_err-handle_row-clause-counts g c =
    let at = with_makers c.as_mut_slice.ensures.value c.loop-deck.invariant.at in
    counts_keep at c.handle_row.new.racks c.handle_row.auto.racks
    (all_stopped at c.handle_row.new.racks c.handle_row.auto.racks c.in_err-handle_row.ensures.stopped)

pub returns-clause-fits : goal.returns-clause-fits
returns-clause-fits g c =
    let none : All (λ (maker : Maker). is_making maker ≡ false) c.loop-deck.makers.items =
    subst (λ (list : List Maker). All (λ (maker : Maker). is_making maker ≡ false) list) c.deref.ensures.value
    (c.are_making.ensures.none c.loop-deck-test.false) in
    if_ok c.ends_of.result _ _ (λ ends is. remade_fits c.loop-deck.invariant.at ends.items none is)
    c.ends_of.ensures

pub returns-clause-part : goal.returns-clause-part
returns-clause-part g c = on_err c.ends_of.result _ (remade_part (have_parts c.loop-deck.invariant.at))

pub returns-clause-counts : goal.returns-clause-counts
returns-clause-counts g c =
    let at = c.loop-deck.invariant.at in
    counts_keep at c.loop-deck.racks refl (have_parts at)
