-- Each kind of step of a reader keeps the rule and is an event.
use Rattle.std.proofs.Common.{◌≡◌, ◌≢◌, ℕ, ◌+◌, ◌<◌, ◌≤◌, true, false, List, [], ◌∷◌, get_or, set, sym, refl, ap, ◌∙◌, subst, arith, get_or-set_other}
use Rattle.std.specs.Prelude.{Some, is_some, nat_eq, if◌then◌else◌}
use Rattle.std.proofs.lemmas.List.{set-get_or}
use mathlib.Core.Option.{none, some}
use lib.ListN.{get_elem?}
use Rattle.atomic_table.specs.Table.{keeps, gives, stepped}
use Rattle.ring_core.specs.declared.event.Event.TheVariants.{See, Open, Close, Advance, Leave}
use Rattle.ring_core.specs.Schedule.{Progress, Lanes, lane_place}
use Rattle.ring_core.specs.Events.{after, can_open, can_close, can_advance, can_leave}
use Rattle.ring_core.proofs.Changes.{advanced, departed, opened, closed, settled}
use Rattle.ring_core.specs.Plain.{from_low, plain_lanes, read_closed}
use Rattle.ring_core.proofs.Lower.{unsettled, from_low_is}
use Rattle.ring_core.proofs.Made.{IsMade}
use Rattle.ring_core.proofs.Whole.{each_by}
use Rattle.ring_core.proofs.After
use Rattle.ring_rule.specs.declared.lane.Lane.{Lane}
use Rattle.ring_rule.specs.declared.view.RingNumbers.{RingNumbers}
use Rattle.ring_rule.specs.declared.view.WriterView.{WriterView}
use Rattle.ring_rule.specs.declared.view.ReaderView.{ReaderView}
use Rattle.ring_rule.specs.declared.view.HeadNoteView.{HeadNoteView}
use Rattle.ring_rule.specs.declared.view.View.TheVariants.{Reader}
use Rattle.ring_rule.specs.Views.{left_word, writer_of, reader_of, put_reader}
use Rattle.ring_rule.specs.Shown.{Homes, RingState, number_in, head_shown, shown, counted, lanes_known, schedule_shown}
use Rattle.ring_rule.specs.Kept.{Fits, Kept, Holds, IsTrueHead}
use Rattle.ring_rule.specs.Plays.{slot_of, saw_head, took, gave, went_on, gone, MayTake}
use Rattle.ring_rule.specs.Laws.{IsEvent, IsEventFrom, Has, TakeOpens}
use Rattle.ring_rule.proofs.Moves
use Rattle.ring_rule.proofs.Moves.{put_each, put_here, put_else, shown_by}
use Rattle.ring_rule.proofs.Roster.{pick_same, pick_other}
use Rattle.ring_rule.proofs.Slots.{found_at}
use Rattle.ring_rule.proofs.Hold.{slot_in, lanes_by, lanes_plain, fits_later}
use Rattle.ring_rule.proofs.ReaderLanes
use Rattle.ring_rule.proofs.Tables.{changed, reader_is, reader_in_range, reader_ring_is, readers_now, writer_same, by_reader}
use Rattle.ring_rule.proofs.Schedules.{before_made, event_shows}

module _ (g : RingNumbers) (s : RingState) (id : ℕ) (x : ReaderView) (k : Kept g s) (at : Has s id (Reader x)) where
  abbrev w : WriterView
  w = writer_of g s.views

  abbrev readers : ℕ → ReaderView
  readers = reader_of g s.views

  abbrev head : ℕ
  head = head_shown s.words

  -- what is shown of the readers and their lanes before the step
  abbrev p : ℕ → Progress
  p = shown s.words w readers

  abbrev lanes : ℕ → Lanes
  lanes = lanes_known g.places s.words s.homes w readers

  made : IsMade (schedule_shown g s) g.places g.total head g.readers p lanes
  made = before_made g s w k refl

  pub is_here : reader_of g s.views x.number ≡ x
  is_here = reader_is g s id x k at

  pub in_range : x.number < g.readers
  in_range = reader_in_range g s id x k at

  -- the note last joined to the seat is true
  pub told_here : (n : HeadNoteView) → x.told ≡ Some n → IsTrueHead g w readers n
  told_here n e = k.told.reader_told x.number n in_range (ap (λ (y : ReaderView). y.told) is_here ∙ e)

  -- the lanes known for the reader by its new view, and for the others by theirs
  lanes_own : (words : List ℕ) (homes : Homes) (y : ReaderView) → y.number ≡ x.number →
      lanes_known g.places words homes w (put_reader y readers) x.number ≡ lanes_by g.places words homes w y x.number
  lanes_own words homes y n = ap (λ (z : ReaderView). lanes_by g.places words homes w z x.number) (put_here y readers x.number n)

  lanes_others : (words : List ℕ) (homes : Homes) (y : ReaderView) (q : ℕ) → y.number ≡ x.number → q ≢ x.number →
      lanes_known g.places words homes w (put_reader y readers) q ≡ lanes_known g.places words homes w readers q
  lanes_others words homes y q n other = ap (λ (z : ReaderView). lanes_by g.places words homes w z q) (put_else y readers q (λ f. other (sym f ∙ n)))

  lanes_was : lanes_known g.places s.words s.homes w readers x.number ≡ lanes_by g.places s.words s.homes w x x.number
  lanes_was = ap (λ (z : ReaderView). lanes_by g.places s.words s.homes w z x.number) is_here

  shown_was : shown s.words w readers x.number ≡ shown_by s.words w x x.number
  shown_was = ap (λ (z : ReaderView). shown_by s.words w z x.number) is_here

  -- See

  see_plain : x.left ≡ false → IsEvent g s (changed s s.words s.homes id (Reader (saw_head (get_or s.words 0 0) x))) (See x.number)
  see_plain joined =
      let r = x.number in
      let y = saw_head (get_or s.words 0 0) x in
      let t = changed s s.words s.homes id (Reader y) in
      let q = shown s.words w (put_reader y readers) in
      let kept = by_reader g s id x y s.words s.homes k at refl (omega arith) (λ e. e) told_here
      (Moves.see_holds g s.words w readers x k.holds is_here in_range) (ReaderLanes.see_keeps g s.words s.homes w readers k.holds k.lanes x is_here in_range) in
      let cursor = Moves.joined_shown g s.words w readers x k.holds is_here in_range joined in
      record {
        kept = kept;
        can = After.see_can (schedule_shown g s) g.places g.total head g.readers p lanes made r in_range (ap is_some cursor);
        shows = event_shows g t w (put_reader y readers) (after (schedule_shown g s) (See r)) head q lanes kept (writer_same g s id x y at) (readers_now g s id x y k at refl)
            (After.see_made (schedule_shown g s) g.places g.total head g.readers p lanes made r q in_range (Moves.see_own s.words w readers x is_here) (λ j _ o. Moves.see_other s.words w readers x (get_or s.words 0 0) j o))
            refl (λ j _. refl)
            (λ j _. same_lanes j ∙ lanes_plain g.places s.words s.homes w (readers j) j (q j) refl);
      }
    where
      same_lanes : (j : ℕ) →
          lanes_known g.places s.words s.homes w (put_reader (saw_head (get_or s.words 0 0) x) readers) j ≡ lanes_known g.places s.words s.homes w readers j
      same_lanes = put_each readers (saw_head (get_or s.words 0 0) x) (λ j z. lanes_by g.places s.words s.homes w z j ≡ lanes_known g.places s.words s.homes w readers j) x.number refl
          (sym lanes_was) (λ j o. refl)

  pub see_event : x.left ≡ false → let n = get_or s.words 0 0 in IsEvent g s (stepped s 0 n id [] (Reader (saw_head n x)) keeps) (See x.number)
  see_event joined = subst (λ ws. IsEvent g s (changed s ws s.homes id (Reader (saw_head (get_or s.words 0 0) x))) (See x.number)) (sym (set-get_or s.words 0 0)) (see_plain joined)

  -- The slot of the reader's next row

  pub slot_is : slot_of x ≡ lane_place g.places x.number x.taken
  slot_is = ap (λ (z : RingNumbers). lane_place z.places x.number x.taken) (reader_ring_is g s id x k at)

  -- the view changes in fields that no word shows
  same_words : (y : ReaderView) → Moves.SameWords y x → Holds g s.words w (put_reader y readers)
  same_words y e = Moves.same_holds g s.words w readers (put_reader y readers) (Moves.same_put readers x y is_here e.number e) k.holds

  same_progress : (y : ReaderView) (q : ℕ) → Moves.SameWords y x → shown s.words w (put_reader y readers) q ≡ shown s.words w readers q
  same_progress y q e = Moves.same_shown s.words w readers (put_reader y readers) q (Moves.same_put readers x y is_here e.number e q)

  -- Take

  take_plain : MayTake x → IsEvent g s (changed s s.words (set s.homes (lane_place g.places x.number x.taken) none) id (Reader (took x))) (Open x.number)
  take_plain may =
      let r = x.number in
      let y = took x in
      let hs = set s.homes (lane_place g.places r x.taken) none in
      let t = changed s s.words hs id (Reader y) in
      let e : Moves.SameWords y x = record { ring = refl; number = refl; taken = refl; left = refl; seen = refl } in
      let later = lanes_known g.places s.words hs w (put_reader y readers) in
      let kept = by_reader g s id x y s.words hs k at refl (omega arith) (λ f. f) told_here (same_words y e) (ReaderLanes.take_keeps g s.words s.homes w readers k.holds k.lanes x is_here in_range may) in
      let cursor = Moves.joined_shown g s.words w readers x k.holds is_here in_range may.joined in
      let can = (λ i. can_open (shown_was i) (lanes_was i)) ∙ ReaderLanes.take_possible g s.words s.homes w readers k.holds k.lanes x is_here in_range may in
      let own : later r ≡ opened g.places x.taken (lanes r) = lanes_own s.words hs y refl ∙ (ReaderLanes.take_lanes_are g s.words s.homes w readers k.holds k.lanes x is_here in_range may ∙ ap (opened g.places x.taken) (sym lanes_was)) in
      let others : (q : ℕ) → q < g.readers → q ≢ r → later q ≡ lanes q = λ q _ o. lanes_others s.words hs y q refl o ∙ ReaderLanes.lanes_else g s.words s.homes w readers k.holds k.lanes x is_here in_range none x.taken q (readers q) o in
      record {
        kept = kept;
        can = After.open_can (schedule_shown g s) g.places g.total head g.readers p lanes made r in_range can;
        shows = event_shows g t w (put_reader y readers) (after (schedule_shown g s) (Open r)) head p later kept (writer_same g s id x y at) (readers_now g s id x y k at refl)
            (After.open_made (schedule_shown g s) g.places g.total head g.readers p lanes made r x.taken later in_range cursor own others)
            refl (λ j _. same_progress y j e) (λ j _. lanes_plain g.places s.words hs w (put_reader y readers j) j (p j) refl);
      }

  -- the lane that it takes is in its slot
  pub take_found : MayTake x → (lane : Lane) × (get_elem? s.homes (slot_of x) ≡ some (some (Some lane))) × Fits g (head_shown s.words) lane × (lane.number ≡ Some x.taken)
  take_found may =
      let home = ReaderLanes.take_home g s.words s.homes w readers k.holds k.lanes x is_here in_range may in
      let here = slot_in g s.words s.homes w readers x.number x.taken k.holds k.lanes in_range in
      let lies = ReaderLanes.take_shows g s.words s.homes w readers k.holds k.lanes x is_here in_range may in
      let cursor = Moves.joined_shown g s.words w readers x k.holds is_here in_range may.joined in
      let counts : from_low x.taken home.0.number ≡ Some x.taken = (λ i. counted head (sym cursor i) (number_in (sym home.1 i))) ∙ lies in (
        home.0,
        subst (λ i. get_elem? s.homes i ≡ some (some (Some home.0))) (sym slot_is) (found_at s.homes (lane_place g.places x.number x.taken) none (some (Some home.0)) here home.1),
        home.2,
        (from_low_is x.taken x.taken home.0.number counts).0,
      )

  pub take_opens : MayTake x → TakeOpens g s id x
  take_opens may =
      let found = take_found may in
      record {
        home = (found.0, found.1);
        step = λ y e. subst (λ z. z) (λ i. IsEvent g s (changed s (sym (set-get_or s.words (x.number + 1) 0) i) (set s.homes (sym slot_is i) none) id (Reader (took x))) (Open x.number)) (take_plain may);
      }

  -- Give

  give_plain : (lane : Lane) → x.out ≡ true → lane.number ≡ Some x.taken → Fits g x.taken lane
      → IsEvent g s (changed s s.words (set s.homes (lane_place g.places x.number x.taken) (some (Some lane))) id (Reader (gave x))) (Close x.number)
  give_plain lane out number fits =
      let r = x.number in
      let c = x.taken in
      let y = gave x in
      let hs = set s.homes (lane_place g.places r c) (some (Some lane)) in
      let t = changed s s.words hs id (Reader y) in
      let e : Moves.SameWords y x = record { ring = refl; number = refl; taken = refl; left = refl; seen = refl } in
      let later = lanes_known g.places s.words hs w (put_reader y readers) in
      let f = ReaderLanes.out_here g s.words s.homes w readers k.holds k.lanes x is_here in_range out in
      let below : c ≤ head = let a = f.ahead in let b = (k.holds.sound.each r in_range).seen_in in let d : (readers r).seen ≡ x.seen = ap (λ (z : ReaderView). z.seen) is_here in omega arith in
      let kept = by_reader g s id x y s.words hs k at refl (omega arith) (λ i. i) told_here (same_words y e)
      (ReaderLanes.give_keeps g s.words s.homes w readers k.holds k.lanes x is_here in_range lane out number (fits_later g c head lane below fits)) in
      let cursor = Moves.joined_shown g s.words w readers x k.holds is_here in_range f.joined in
      let can = (λ i. can_close (shown_was i) (lanes_was i)) ∙ ReaderLanes.give_possible g s.words s.homes w readers k.holds k.lanes x is_here in_range out in
      let effect : ℕ → Lanes = λ q. if nat_eq q r then closed g.places c (lanes r) else lanes q in
      let here : effect r ≡ closed g.places c (lanes r) = pick_same r r (closed g.places c (lanes r)) (lanes r) refl in
      let there : (q : ℕ) → q < g.readers → q ≢ r → effect q ≡ lanes q = λ q _ o. pick_other q r (closed g.places c (lanes r)) (lanes q) o in
      let own : later r ≡ settled (closed g.places c (lanes r)) = lanes_own s.words hs y refl ∙ (ReaderLanes.give_lanes_are g s.words s.homes w readers k.holds k.lanes x is_here in_range lane out number ∙ (λ i. settled (closed g.places c (sym lanes_was i)))) in
      record {
        kept = kept;
        can = After.close_can (schedule_shown g s) g.places g.total head g.readers p lanes made r in_range can;
        shows = event_shows g t w (put_reader y readers) (after (schedule_shown g s) (Close r)) head p effect kept (writer_same g s id x y at) (readers_now g s id x y k at refl)
            (After.close_made (schedule_shown g s) g.places g.total head g.readers p lanes made r c effect in_range cursor here there)
            refl (λ j _. same_progress y j e)
            (λ j l. lanes_plain g.places s.words hs w (put_reader y readers j) j (p j) refl ∙ each_by g.readers r (λ q. plain_lanes head (p q) (later q) ≡ plain_lanes head (p q) (effect q))
            (ap (plain_lanes head (p r)) own ∙ ap (plain_lanes head (p r)) (sym here))
            (λ q i o. ap (plain_lanes head (p q)) (lanes_others s.words hs y q refl o ∙ (ReaderLanes.lanes_else g s.words s.homes w readers k.holds k.lanes x is_here in_range (some (Some lane)) c q (readers q) o ∙ sym (there q i o)))) j l);
      }

  pub give_event : (lane : Lane) → x.out ≡ true → lane.number ≡ Some x.taken → Fits g x.taken lane
      → IsEvent g s (stepped s (x.number + 1) (get_or s.words (x.number + 1) 0) id ((slot_of x, Some lane) ∷ []) (Reader (gave x)) gives) (Close x.number)
  give_event lane out number fits =
      subst (λ z. z) (λ i. IsEvent g s (changed s (sym (set-get_or s.words (x.number + 1) 0) i) (set s.homes (sym slot_is i) (some (Some lane))) id (Reader (gave x))) (Close x.number)) (give_plain lane out number fits)

  -- The reader's word changes

  -- another reader's progress is unchanged
  word_others : (y : ReaderView) (n q : ℕ) → y.number ≡ x.number → q ≢ x.number →
      shown (set s.words (x.number + 1) n) w (put_reader y readers) q ≡ shown s.words w readers q
  word_others y n q same other = Moves.word_other s.words w readers x y n q same other

  -- and so are its lanes, read plainly
  word_lanes_others : (y : ReaderView) (n q : ℕ) → y.number ≡ x.number → q ≢ x.number → let ws = set s.words (x.number + 1) n in
      lanes_known g.places ws s.homes w (put_reader y readers) q
      ≡ plain_lanes (head_shown s.words) (shown ws w (put_reader y readers) q) (lanes_known g.places s.words s.homes w readers q)
  word_lanes_others y n q same other =
      let ws = set s.words (x.number + 1) n in
      let p = shown ws w (put_reader y readers) q in
      lanes_others ws s.homes y q same other
      ∙ (ReaderLanes.word_lanes_else g s.words s.homes w readers k.holds k.lanes x is_here in_range n q (readers q) other
      ∙ lanes_plain g.places s.words s.homes w (readers q) q p (ap (λ (z : Progress). z.cursor) (word_others y n q same other)))

  head_stays : (n : ℕ) → head_shown (set s.words (x.number + 1) n) ≡ head_shown s.words
  head_stays n = get_or-set_other s.words (x.number + 1) 0 n 0 (λ f. omega arith)

  -- Advance

  pub advance_event : MayTake x → IsEventFrom (read_closed x.number (schedule_shown g s)) g (stepped s (x.number + 1) (x.taken + 1) id [] (Reader (went_on x)) keeps) (Advance x.number)
  advance_event may =
      let r = x.number in
      let c = x.taken in
      let y = went_on x in
      let ws = set s.words (r + 1) (c + 1) in
      let t = changed s ws s.homes id (Reader y) in
      let q = shown ws w (put_reader y readers) in
      let kept = by_reader g s id x y ws s.homes k at refl (omega arith) (λ f. f) told_here (Moves.advance_holds g s.words w readers x k.holds is_here in_range may.joined may.ahead)
      (ReaderLanes.advance_keeps g s.words s.homes w readers k.holds k.lanes x is_here in_range may) in
      let cursor = Moves.joined_shown g s.words w readers x k.holds is_here in_range may.joined in
      let shut : ℕ → Lanes = λ j. if nat_eq j r then unsettled (lanes r) else lanes j in
      let shut_here : shut r ≡ unsettled (lanes r) = pick_same r r (unsettled (lanes r)) (lanes r) refl in
      let shut_there : (j : ℕ) → j < g.readers → j ≢ r → shut j ≡ lanes j = λ j _ o. pick_other j r (unsettled (lanes r)) (lanes j) o in
      let done : ℕ → Lanes = λ j. if nat_eq j r then settled (shut r) else shut j in
      let done_here : done r ≡ settled (shut r) = pick_same r r (settled (shut r)) (shut r) refl in
      let done_there : (j : ℕ) → j < g.readers → j ≢ r → done j ≡ shut j = λ j _ o. pick_other j r (settled (shut r)) (shut j) o in
      let start = read_closed r (schedule_shown g s) in
      let start_made = After.closed_made (schedule_shown g s) g.places g.total head g.readers p lanes made r shut in_range shut_here shut_there in
      let can = (λ i. can_advance (shown_was i) ((shut_here ∙ ap unsettled lanes_was) i)) ∙ ReaderLanes.advance_possible g s.words s.homes w readers k.holds k.lanes x is_here in_range may in
      let own : q r ≡ advanced c (p r) = Moves.by_view ws w readers y r refl ∙ Moves.advance_own g s.words w readers x k.holds is_here in_range may.ahead in
      let own_lanes : lanes_known g.places ws s.homes w (put_reader y readers) r ≡ plain_lanes head (q r) (done r) =
      lanes_own ws s.homes y refl ∙ (ReaderLanes.advance_lanes_are g s.words s.homes w readers k.holds k.lanes x is_here in_range may
      ∙ (λ i. plain_lanes head ((ap (advanced c) (sym shown_was) ∙ sym own) i) ((ap (λ z. settled (unsettled z)) (sym lanes_was) ∙ (ap settled (sym shut_here) ∙ sym done_here)) i))) in
      record {
        kept = kept;
        can = After.advance_can start g.places g.total head g.readers p shut start_made r in_range can;
        shows = event_shows g t w (put_reader y readers) (after start (Advance r)) head q done kept (writer_same g s id x y at) (readers_now g s id x y k at refl)
            (After.advance_made start g.places g.total head g.readers p shut start_made r c q done in_range cursor own (λ j _ o. word_others y (c + 1) j refl o) done_here done_there)
            (head_stays (c + 1)) (λ j _. refl)
            (λ j l. each_by g.readers r (λ i. lanes_known g.places ws s.homes w (put_reader y readers) i ≡ plain_lanes head (q i) (done i)) own_lanes
            (λ i h o. word_lanes_others y (c + 1) i refl o ∙ ap (plain_lanes head (q i)) (sym (done_there i h o ∙ shut_there i h o))) j l);
      }

  -- Leave

  pub leave_event : x.left ≡ false → x.out ≡ false → IsEvent g s (stepped s (x.number + 1) left_word id [] (Reader (gone x)) keeps) (Leave x.number)
  leave_event joined home =
      let r = x.number in
      let y = gone x in
      let ws = set s.words (r + 1) left_word in
      let t = changed s ws s.homes id (Reader y) in
      let q = shown ws w (put_reader y readers) in
      let kept = by_reader g s id x y ws s.homes k at refl (omega arith) (λ f. refl) told_here (Moves.leave_holds g s.words w readers x k.holds is_here in_range joined)
      (ReaderLanes.leave_keeps g s.words s.homes w readers k.holds k.lanes x is_here in_range joined home) in
      let can = (λ i. can_leave (shown_was i) (lanes_was i)) ∙ ReaderLanes.leave_possible g s.words s.homes w readers k.holds k.lanes x is_here in_range joined home in
      let own : q r ≡ departed (p r) = Moves.by_view ws w readers y r refl ∙ Moves.leave_own g s.words w readers x k.holds is_here in_range in
      let own_lanes : lanes_known g.places ws s.homes w (put_reader y readers) r ≡ plain_lanes head (q r) (lanes r) =
      lanes_own ws s.homes y refl ∙ (ReaderLanes.leave_lanes_are g s.words s.homes w readers k.holds k.lanes x is_here in_range joined home
      ∙ (λ i. plain_lanes head ((ap departed (sym shown_was) ∙ sym own) i) (sym lanes_was i))) in
      record {
        kept = kept;
        can = After.leave_can (schedule_shown g s) g.places g.total head g.readers p lanes made r in_range can;
        shows = event_shows g t w (put_reader y readers) (after (schedule_shown g s) (Leave r)) head q lanes kept (writer_same g s id x y at) (readers_now g s id x y k at refl)
            (After.leave_made (schedule_shown g s) g.places g.total head g.readers p lanes made r q in_range own (λ j _ o. word_others y left_word j refl o))
            (head_stays left_word) (λ j _. refl)
            (λ j l. each_by g.readers r (λ i. lanes_known g.places ws s.homes w (put_reader y readers) i ≡ plain_lanes head (q i) (lanes i)) own_lanes
            (λ i h o. word_lanes_others y left_word i refl o) j l);
      }
