-- Each kind of step of the writer keeps the rule and is an event, or shows nothing new.
use Rattle.std.proofs.Common.{◌≡◌, ℕ, ◌+◌, ◌<◌, true, false, ◌||◌, [], ◌∷◌, get_or, set, sym, refl, ap, ◌∙◌, subst, arith}
use Rattle.std.specs.Prelude.{Option, Some, None, is_none}
use Rattle.std.proofs.lemmas.List.{set-get_or}
use mathlib.Core.Option.{none, some}
use lib.ListN.{get_elem?}
use Rattle.atomic_table.specs.Table.{keeps, gives, stepped}
use Rattle.ring_core.specs.declared.event.Event.TheVariants.{Look, Fill, Publish}
use Rattle.ring_core.specs.Schedule.{lane_place}
use Rattle.ring_core.specs.Events.{is_ready, after}
use Rattle.ring_core.proofs.Changes.{unfilled}
use Rattle.ring_core.proofs.Keeps.{ready_room}
use Rattle.ring_core.proofs.After
use Rattle.ring_rule.specs.declared.lane.Lane.{Lane}
use Rattle.ring_rule.specs.declared.view.RingNumbers.{RingNumbers}
use Rattle.ring_rule.specs.declared.view.WriterView.{WriterView}
use Rattle.ring_rule.specs.declared.view.View.TheVariants.{Writer}
use Rattle.ring_rule.specs.Views.{cursor_in, reader_of}
use Rattle.ring_rule.specs.Shown.{RingState, head_shown, shown, row_shown, lanes_known, schedule_shown}
use Rattle.ring_rule.specs.Kept.{Fits, HandFits, Kept}
use Rattle.ring_rule.specs.Plays.{slot_for, looked_at, published, picked, placed, filled_at, MayPublish, MayFill}
use Rattle.ring_rule.specs.Laws.{IsEvent, ShowsTheSame, Has, PickStays}
use Rattle.ring_rule.proofs.Roster.{writer_at}
use Rattle.ring_rule.proofs.Moves
use Rattle.ring_rule.proofs.Slots.{found_at}
use Rattle.ring_rule.proofs.Hold.{slot_in, lanes_plain}
use Rattle.ring_rule.proofs.WriterLanes
use Rattle.ring_rule.proofs.Tables.{changed, holds_at, lanes_at, notes_at, ring_is, writer_now, readers_same, by_writer}
use Rattle.ring_rule.proofs.Schedules.{before_made, event_shows, same_shows}

module _ (g : RingNumbers) (s : RingState) (id : ℕ) (w : WriterView) (k : Kept g s) (at : Has s id (Writer w)) where
  -- Look

  look_plain : (r : ℕ) → r < g.readers → w.hand ≡ None → IsEvent g s (changed s s.words s.homes id (Writer (looked_at r (get_or s.words (r + 1) 0) w))) (Look r)
  look_plain r l hand =
      let readers = reader_of g s.views in
      let head = head_shown s.words in
      let v = looked_at r (get_or s.words (r + 1) 0) w in
      let t = changed s s.words s.homes id (Writer v) in
      let h = holds_at g s id w k at in
      let made = before_made g s w k (writer_at g s.views id w k.alone at) in
      let p = shown s.words w readers in
      let q = shown s.words v readers in
      let lanes = lanes_known g.places s.words s.homes w readers in
      let kept = by_writer g s id w v s.words s.homes k at (omega arith) (omega arith) (notes_at g s id w k at).writer_told
      (Moves.look_holds g s.words w readers r h l) (WriterLanes.look_keeps g s.words s.homes w readers h (lanes_at g s id w k at) r l hand) in
      let after_made = After.look_made (schedule_shown g s) g.places g.total head g.readers p lanes made r q l
      (Moves.look_own g s.words w readers r h l) (λ j _ o. Moves.look_other s.words w readers r (get_or s.words (r + 1) 0) j o) in
      record {
        kept = kept;
        can = After.look_can (schedule_shown g s) g.places g.total head g.readers p lanes made r l;
        shows = event_shows g t v readers (after (schedule_shown g s) (Look r)) head q lanes kept (writer_now g s id w v k at) (readers_same g s id w v at) after_made refl (λ j _. refl)
            (λ j _. lanes_plain g.places s.words s.homes w (readers j) j (q j) refl);
      }

  pub look_event : (r : ℕ) → r < g.readers → w.hand ≡ None → let n = get_or s.words (r + 1) 0 in IsEvent g s (stepped s (r + 1) n id [] (Writer (looked_at r n w)) keeps) (Look r)
  look_event r l hand =
      let n = get_or s.words (r + 1) 0 in
      subst (λ ws. IsEvent g s (changed s ws s.homes id (Writer (looked_at r n w))) (Look r)) (sym (set-get_or s.words (r + 1) 0)) (look_plain r l hand)

  -- Publish

  -- a reader that the writer has not seen leave has its lane filled
  ready : MayPublish w → (r : ℕ) → r < g.readers → is_ready (shown s.words w (reader_of g s.views) r) (lanes_known g.places s.words s.homes w (reader_of g s.views) r) ≡ true
  ready may r l = by_known (cursor_in (get_or w.known r 0)) refl
    where
      by_known : (o : Option ℕ) → cursor_in (get_or w.known r 0) ≡ o → (is_none o || get_or w.filled r false) ≡ true
      by_known None e = refl
      by_known (Some j) e = may.filled r j (let n : w.ring.readers ≡ g.readers = ap (λ (z : RingNumbers). z.readers) (ring_is g s id w k at) in omega arith) e

  pub publish_event : MayPublish w → IsEvent g s (stepped s 0 (w.head + 1) id [] (Writer (published w)) keeps) Publish
  publish_event may =
      let readers = reader_of g s.views in
      let head = head_shown s.words in
      let v = published w in
      let ws = set s.words 0 (w.head + 1) in
      let t = changed s ws s.homes id (Writer v) in
      let h = holds_at g s id w k at in
      let m = lanes_at g s id w k at in
      let made = before_made g s w k (writer_at g s.views id w k.alone at) in
      let p = shown s.words w readers in
      let lanes = lanes_known g.places s.words s.homes w readers in
      let row : head < g.total = let a = may.row in let b = h.head_is in let c : w.ring.total ≡ g.total = ap (λ (z : RingNumbers). z.total) h.writer_ring in omega arith in
      let holds = Moves.publish_holds g s.words w readers h row (λ r j l e. ready_room g.places g.total head (p r) (lanes r) (ready may r l) (m.sound r l) j e) in
      let kept = by_writer g s id w v ws s.homes k at (omega arith) (omega arith) (notes_at g s id w k at).writer_told holds
      (WriterLanes.publish_keeps g s.words s.homes w readers h m row (ready may) (WriterLanes.nothing_out g s.words s.homes w readers h m may) holds) in
      record {
        kept = kept;
        can = After.publish_can (schedule_shown g s) g.places g.total head g.readers p lanes made row (ready may);
        shows = event_shows g t v readers (after (schedule_shown g s) Publish) (head + 1) p (λ r. unfilled (lanes r)) kept (writer_now g s id w v k at) (readers_same g s id w v at)
            (After.publish_made (schedule_shown g s) g.places g.total head g.readers p lanes made) (Moves.publish_head g s.words w readers h)
            (λ r _. Moves.publish_shows s.words w readers (w.head + 1) r) (λ r l. WriterLanes.publish_lanes_are g s.words s.homes w readers h m r l);
      }

  -- The writer takes a lane

  -- the view has the ring's numbers
  places_are : w.ring.places ≡ g.places
  places_are = ap (λ (z : RingNumbers). z.places) (ring_is g s id w k at)

  -- the call's condition implies the rule's condition for a lane that is out
  pub may_hand : (r : ℕ) → MayFill w r → HandFits g w r
  may_hand r may =
      let e = ring_is g s id w k at in
      record {
        in_range = subst (λ (z : RingNumbers). r < z.readers) e may.in_range;
        row = subst (λ (z : RingNumbers). w.head < z.total) e may.row;
        unfilled = may.unfilled;
        from = may.room.0;
        known = may.room.1;
        room = subst (λ (z : RingNumbers). w.head < may.room.0 + z.places) e may.room.2;
      }

  pick_plain : (r : ℕ) → w.hand ≡ None → MayFill w r → ShowsTheSame g s (changed s s.words (set s.homes (lane_place g.places r w.head) none) id (Writer (picked r w)))
  pick_plain r hand may =
      let readers = reader_of g s.views in
      let v = picked r w in
      let h = holds_at g s id w k at in
      let m = lanes_at g s id w k at in
      let fits = may_hand r may in
      let l = fits.in_range in
      let head : head_shown s.words ≡ w.head = h.head_is in
      let hs = set s.homes (lane_place g.places r w.head) none in
      let t = changed s s.words hs id (Writer v) in
      let kept = by_writer g s id w v s.words hs k at (omega arith) (omega arith) (notes_at g s id w k at).writer_told
      (Moves.writer_holds g s.words w v readers refl refl h.made_in refl refl h) (WriterLanes.pick_keeps g s.words s.homes w readers h m r hand fits) in
      let room : head_shown s.words < fits.from + g.places = let a = fits.room in omega arith in
      let empty = ap (row_shown g.places s.words s.homes r) (sym head) ∙ WriterLanes.unfilled_shows_none g s.words s.homes w readers h m r l fits.unfilled fits.from fits.known room in
      record {
        kept = kept;
        same = same_shows g s t w v readers k kept (writer_at g s.views id w k.alone at) (writer_now g s id w v k at) (readers_same g s id w v at) refl (λ q _. refl)
            (WriterLanes.pick_lanes_are g s.words s.homes w readers h m r l empty);
      }

  -- the lane that it takes is in its slot
  pub pick_found : (r : ℕ) → w.hand ≡ None → MayFill w r → (lane : Lane) × (get_elem? s.homes (slot_for w r) ≡ some (some (Some lane))) × Fits g (head_shown s.words) lane
  pick_found r hand may =
      let readers = reader_of g s.views in
      let h = holds_at g s id w k at in
      let m = lanes_at g s id w k at in
      let fits = may_hand r may in
      let home = WriterLanes.pick_home g s.words s.homes w readers h m r hand fits in
      let here = slot_in g s.words s.homes w readers r w.head h m fits.in_range in
      let slot : slot_for w r ≡ lane_place g.places r w.head = ap (λ p. lane_place p r w.head) places_are in
      (home.0, subst (λ i. get_elem? s.homes i ≡ some (some (Some home.0))) (sym slot) (found_at s.homes (lane_place g.places r w.head) none (some (Some home.0)) here home.1), home.2)

  pub pick_stays : (r : ℕ) → w.hand ≡ None → MayFill w r → PickStays g s id r w
  pick_stays r hand may =
      let found = pick_found r hand may in
      let slot : slot_for w r ≡ lane_place g.places r w.head = ap (λ p. lane_place p r w.head) places_are in
      record {
        home = (found.0, found.1);
        step = λ y e. subst (λ x. x) (λ i. ShowsTheSame g s (changed s (sym (set-get_or s.words 0 0) i) (set s.homes (sym slot i) none) id (Writer (picked r w)))) (pick_plain r hand may);
      }

  -- The writer returns it to its slot, filled

  place_plain : (r : ℕ) (lane : Lane) → w.hand ≡ Some r → lane.number ≡ Some w.head → Fits g w.head lane
      → IsEvent g s (changed s s.words (set s.homes (lane_place g.places r w.head) (some (Some lane))) id (Writer (WriterLanes.put_home g s.words s.homes w (reader_of g s.views) (holds_at g s id w k at) (lanes_at g s id w k at) r))) (Fill r)
  place_plain r lane hand number lane_fits =
      let readers = reader_of g s.views in
      let h = holds_at g s id w k at in
      let m = lanes_at g s id w k at in
      let v = WriterLanes.put_home g s.words s.homes w readers h m r in
      let fits = m.hand_fits r hand in
      let l = fits.in_range in
      let head = head_shown s.words in
      let hs = set s.homes (lane_place g.places r w.head) (some (Some lane)) in
      let t = changed s s.words hs id (Writer v) in
      let now_fits : Fits g head lane = subst (λ n. Fits g n lane) (sym h.head_is) lane_fits in
      let kept = by_writer g s id w v s.words hs k at (omega arith) (omega arith) (notes_at g s id w k at).writer_told
      (Moves.writer_holds g s.words w v readers refl refl h.made_in refl refl h) (WriterLanes.place_keeps g s.words s.homes w readers h m r lane hand number now_fits) in
      let made = before_made g s w k (writer_at g s.views id w k.alone at) in
      let p = shown s.words w readers in
      let lanes = lanes_known g.places s.words s.homes w readers in
      let later = lanes_known g.places s.words hs v readers in
      record {
        kept = kept;
        can = After.fill_can (schedule_shown g s) g.places g.total head g.readers p lanes made r l (WriterLanes.fill_possible g s.words s.homes w readers h m r fits);
        shows = event_shows g t v readers (after (schedule_shown g s) (Fill r)) head p later kept (writer_now g s id w v k at) (readers_same g s id w v at)
            (After.fill_made (schedule_shown g s) g.places g.total head g.readers p lanes made r later l (WriterLanes.place_lanes_are g s.words s.homes w readers h m r lane l number)
            (λ q _ o. WriterLanes.place_lanes_else g s.words s.homes w readers h m r q lane o))
            refl (λ q _. refl) (λ q _. lanes_plain g.places s.words hs v (readers q) q (p q) refl);
      }

  pub place_event : (r : ℕ) (lane : Lane) → w.hand ≡ Some r → lane.number ≡ Some w.head → Fits g w.head lane
      → IsEvent g s (stepped s 0 (get_or s.words 0 0) id ((slot_for w r, Some lane) ∷ []) (Writer (placed w)) gives) (Fill r)
  place_event r lane hand number fits =
      let slot : slot_for w r ≡ lane_place g.places r w.head = ap (λ p. lane_place p r w.head) places_are in
      let view : WriterLanes.put_home g s.words s.homes w (reader_of g s.views) (holds_at g s id w k at) (lanes_at g s id w k at) r ≡ placed w = λ i. record w { hand = None; filled = filled_at (sym hand i) w.filled } in
      subst (λ x. x) (λ i. IsEvent g s (changed s (sym (set-get_or s.words 0 0) i) (set s.homes (sym slot i) (some (Some lane))) id (Writer (view i))) (Fill r)) (place_plain r lane hand number fits)
