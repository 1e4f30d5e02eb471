-- The writer's steps, over slots: what the lanes show afterwards, and that slots and views still fit.
use Rattle.std.proofs.Common.{◌≡◌, ◌≢◌, ℕ, ◌+◌, ◌%◌, ◌<◌, Bool, true, false, ◌&&◌, ◌||◌, List, map, length, get_or, set, sym, refl, ap, ◌∙◌, subst, inl, inr, arith, get_or-set_same, get_or-set_other, length-set}
use Rattle.std.specs.Prelude.{Option, Some, None, not, nat_eq, nat_lt, option_map}
use Rattle.std.proofs.lemmas.Bool.{cases_eq, eq-eqb, ne_eqb, lt-ltb, false≢true}
use Rattle.std.proofs.lemmas.List.{length-map}
use Rattle.std.proofs.Math.ListN as ListN
use mathlib.Core.Option.{none, some}
use Rattle.ring_core.specs.Schedule.{lane_place}
use Rattle.ring_core.specs.Events.{can_fill, is_ready, is_above}
use Rattle.ring_core.proofs.Changes.{put_row, filled_with, unfilled}
use Rattle.ring_core.specs.Sound.{IsSoundProgress, IsSoundLanes}
use Rattle.ring_core.specs.Plain.{plain_lanes}
use Rattle.ring_core.proofs.Keeps.{look_lanes, publish_lanes, fill_lanes}
use Rattle.ring_core.proofs.Places.{one_turn, put_same, put_other}
use Rattle.ring_core.proofs.Lower.{from_low_is}
use Rattle.ring_core.proofs.Whole.{each_by}
use Rattle.ring_rule.specs.declared.lane.Lane.{Lane}
use Rattle.ring_rule.specs.declared.view.RingNumbers.{RingNumbers}
use Rattle.ring_rule.specs.declared.view.WriterView.{WriterView}
use Rattle.ring_rule.specs.declared.view.ReaderView.{ReaderView}
use Rattle.ring_rule.specs.Views.{cursor_in}
use Rattle.ring_rule.specs.Shown.{Homes, home_at, number_in, head_shown, cursor_shown, shown, counted, row_shown, is_number, lanes_known}
use Rattle.ring_rule.specs.Kept.{Holds, Fits, is_held, is_handed, is_away, LaneIs, HandFits, HoldsLanes}
use Rattle.ring_rule.specs.Plays.{looked_at, published, picked, MayPublish}
use Rattle.ring_rule.proofs.Numbers.{and_false}
use Rattle.ring_rule.proofs.Moves
use Rattle.ring_rule.proofs.Slots
use Rattle.ring_rule.proofs.Slots.{cases_lane, home_same, home_else, home_apart, counted_next, counted_head, counted_none, stage_plain, row_put, shown_by_place}
use Rattle.ring_rule.proofs.Hold.{slot_in, number_in_head, at_home, stage_by, sound_by, lane_later}

module _ (g : RingNumbers) (words : List ℕ) (homes : Homes) (w : WriterView) (readers : ℕ → ReaderView) (h : Holds g words w readers) (m : HoldsLanes g words homes w readers) where
  -- Look

  pub look_keeps : (r : ℕ) → r < g.readers → w.hand ≡ None → HoldsLanes g words homes (looked_at r (get_or words (r + 1) 0) w) readers
  look_keeps r l hand =
      let v = looked_at r (get_or words (r + 1) 0) w in
      let lanes = lanes_known g.places words homes w readers in
      let head = head_shown words in
      record {
        rows_in = m.rows_in;
        even = m.even;
        deep = m.deep;
        filled_in = m.filled_in;
        hand_fits = λ q e. let f : None ≡ Some q = sym hand ∙ e in cc;
        out_fits = m.out_fits;
        lane_is = m.lane_is;
        sound = each_by g.readers r (λ q. IsSoundLanes g.places g.total head (shown words v readers q) (lanes q))
            (subst (λ p. IsSoundLanes g.places g.total head p (lanes r)) (sym (Moves.look_own g words w readers r h l))
            (look_lanes g.places g.total head (shown words w readers r) (lanes r) (h.sound.each r l) (m.sound r l)))
            (λ q k o. subst (λ p. IsSoundLanes g.places g.total head p (lanes q)) (sym (Moves.look_other words w readers r (get_or words (r + 1) 0) q o)) (m.sound q k));
      }

  -- Publish

  pub publish_lanes_are : (r : ℕ) → r < g.readers → let ws = set words 0 (w.head + 1) in
      lanes_known g.places ws homes (published w) readers r ≡ plain_lanes (head_shown words + 1) (shown words w readers r) (unfilled (lanes_known g.places words homes w readers r))
  publish_lanes_are r l =
      let ws = set words 0 (w.head + 1) in
      let head = head_shown words in
      let at : head_shown ws ≡ head + 1 = Moves.publish_head g words w readers h in
      let word : cursor_shown ws r ≡ cursor_shown words r = ap cursor_in (get_or-set_other words 0 (r + 1) (w.head + 1) 0 (λ x. omega arith)) in
      let number : ℕ → Option ℕ = λ k. number_in (home_at homes (lane_place g.places r k)) in
      let unset : get_or (map (λ (b : Bool). false) w.filled) r false ≡ false = ListN.get_or-map (λ (b : Bool). false) w.filled r false in
      λ i. record {
        filled = unset i;
        stage = sym (stage_plain (readers r).out) i;
        row = λ k. ((λ j. counted (at j) (word j) (number k)) ∙ sym (counted_next head (cursor_shown words r) (number k) (λ n e. number_in_head g words homes w readers r k n m l e))) i;
      }

  -- where each joined reader's lane is filled, the writer has no lane out
  pub nothing_out : MayPublish w → w.hand ≡ None
  nothing_out may = by_hand w.hand refl
    where
      by_hand : (o : Option ℕ) → w.hand ≡ o → o ≡ None
      by_hand None e = refl
      by_hand (Some r) e =
          let f = m.hand_fits r e in
          let n : w.ring.readers ≡ g.readers = ap (λ (z : RingNumbers). z.readers) h.writer_ring in
          let r_in = f.in_range in
          absurd (false≢true (sym f.unfilled ∙ may.filled r f.from (omega arith) f.known))

  pub publish_keeps : (row : head_shown words < g.total) (ready : (r : ℕ) → r < g.readers → is_ready (shown words w readers r) (lanes_known g.places words homes w readers r) ≡ true) → w.hand ≡ None
      → Holds g (set words 0 (w.head + 1)) (published w) readers → HoldsLanes g (set words 0 (w.head + 1)) homes (published w) readers
  publish_keeps row ready hand after =
      let ws = set words 0 (w.head + 1) in
      let v = published w in
      let head = head_shown words in
      let at : head_shown ws ≡ head + 1 = Moves.publish_head g words w readers h in
      record {
        rows_in = m.rows_in;
        even = m.even;
        deep = m.deep;
        filled_in = length-map w.filled _ ∙ m.filled_in;
        hand_fits = λ q e. let f : None ≡ Some q = sym hand ∙ e in cc;
        out_fits = m.out_fits;
        lane_is = λ r n l.
            let same : is_away g.places w readers r n ≡ is_away g.places v readers r n =
            (λ i. (is_number r (hand i) && nat_eq (n % g.places) (w.head % g.places)) || is_held g.places (readers r) n)
            ∙ (λ i. (is_number r (sym hand i) && nat_eq (n % g.places) ((w.head + 1) % g.places)) || is_held g.places (readers r) n) in
            subst (LaneIs g (head_shown ws) (home_at homes (lane_place g.places r n))) same
            (lane_later g head (head_shown ws) (home_at homes (lane_place g.places r n)) (is_away g.places w readers r n) (omega arith) (m.lane_is r n l));
        sound = λ r l.
            let p = shown words w readers r in
            let shows : shown ws v readers r ≡ p = Moves.publish_shows words w readers (w.head + 1) r in
            let all = publish_lanes g.places g.total head p (lanes_known g.places words homes w readers r) (ready r l) (h.sound.each r l) (m.sound r l) in
            let now : IsSoundProgress g.places (head + 1) p = subst (λ x. x) (λ i. IsSoundProgress g.places (at i) (shows i)) (after.sound.each r l) in
            subst (λ x. x) (λ i. IsSoundLanes g.places g.total (sym at i) (sym shows i) (lanes_known g.places ws homes v readers r))
            (sound_by g.places g.total (head + 1) p (unfilled (lanes_known g.places words homes w readers r)) (lanes_known g.places ws homes v readers r) now all (publish_lanes_are r l));
      }

  -- The writer takes a lane

  -- the lane has no number that counts
  pub unfilled_shows_none : (r : ℕ) → r < g.readers → get_or w.filled r false ≡ false → (k : ℕ) → cursor_in (get_or w.known r 0) ≡ Some k → head_shown words < k + g.places
      → row_shown g.places words homes r (head_shown words) ≡ None
  unfilled_shows_none r l unfilled k known room = by_row (row_shown g.places words homes r (head_shown words)) refl
    where
      head : ℕ
      head = head_shown words

      -- a number that counts there would be a row that the reader has not passed, less than a turn away
      below : (n : ℕ) (cursor : Option ℕ) → cursor_shown words r ≡ cursor → counted head cursor (number_in (home_at homes (lane_place g.places r head))) ≡ Some n → row_shown g.places words homes r head ≡ Some n → n ≡ head
      below n None at e row = Slots.only_is head n (number_in (home_at homes (lane_place g.places r head))) e
      below n (Some c) at e row =
          let low = (from_low_is c n (number_in (home_at homes (lane_place g.places r head))) e).1 in
          let j = (h.sound.each r l).joined_known c at in
          let same : j.0 ≡ k = let a = j.1 in cc in
          let reached = j.2 in
          one_turn g.places n head ((m.sound r l).rows.not_ahead head n row) (omega arith) (sym ((m.sound r l).rows.placed head n row))

      by_row : (o : Option ℕ) → row_shown g.places words homes r head ≡ o → o ≡ None
      by_row None e = refl
      by_row (Some n) e =
          let is = below n (cursor_shown words r) refl e e in
          absurd (false≢true (sym unfilled ∙ (m.sound r l).rows.newest head (e ∙ ap Some is)))

  -- a lane that shows no row at its place looks the same without its buffer
  none_put : (r : ℕ) (row : ℕ → Option ℕ) (n : ℕ) → ((k : ℕ) → row (k % g.places) ≡ row k) → row n ≡ None → (k : ℕ) → put_row g.places n None row k ≡ row k
  none_put r row n by e k = elim (cases_eq (k % g.places) (n % g.places)) [
    | inl same ↦ put_same g.places n None row k same ∙ sym (sym (by k) ∙ (ap row same ∙ (by n ∙ e)))
    | inr apart ↦ put_other g.places n None row k apart
  ]

  pub pick_shows : (r : ℕ) → r < g.readers → row_shown g.places words homes r w.head ≡ None → (q k : ℕ) → q < g.readers
      → row_shown g.places words (set homes (lane_place g.places r w.head) none) q k ≡ row_shown g.places words homes q k
  pick_shows r l empty q k j =
      let head = head_shown words in
      let taken = set homes (lane_place g.places r w.head) none in
      elim (cases_eq q r) [
        | inl same ↦
            let row : ℕ → Option ℕ = row_shown g.places words homes r in
            let put = row_put g.places r w.head head (cursor_shown words r) homes none None k (slot_in g words homes w readers r w.head h m l) (counted_none head (cursor_shown words r)) in
            ap (λ i. row_shown g.places words taken i k) same
            ∙ (put ∙ (none_put r row w.head (shown_by_place g.places r head (cursor_shown words r) homes) empty k ∙ ap (λ i. row_shown g.places words homes i k) (sym same)))
        | inr other ↦ ap (λ x. counted head (cursor_shown words q) (number_in x)) (home_else g.places r w.head homes none q k h.sound.some_place other)
      ]

  pub pick_lanes_are : (r : ℕ) → r < g.readers → row_shown g.places words homes r w.head ≡ None → (q : ℕ) → q < g.readers
      → lanes_known g.places words (set homes (lane_place g.places r w.head) none) (picked r w) readers q ≡ lanes_known g.places words homes w readers q
  pick_lanes_are r l empty q j = λ i. record { filled = get_or w.filled q false; stage = stage_by (readers q); row = λ k. pick_shows r l empty q k j i }

  -- which lane the writer has out
  pub handed_here : (r n : ℕ) → n % g.places ≡ w.head % g.places → is_handed g.places (picked r w) r n ≡ true
  handed_here r n e = λ i. eq-eqb r r refl i && eq-eqb (n % g.places) (w.head % g.places) e i

  pub handed_apart : (r n : ℕ) → n % g.places ≢ w.head % g.places → is_handed g.places (picked r w) r n ≡ false
  handed_apart r n e = (λ i. nat_eq r r && ne_eqb (n % g.places) (w.head % g.places) e i) ∙ and_false (nat_eq r r)

  pub handed_else : (r q n : ℕ) → q ≢ r → is_handed g.places (picked r w) q n ≡ false
  handed_else r q n e = λ i. ne_eqb r q (λ f. e (sym f)) i && nat_eq (n % g.places) (w.head % g.places)

  -- the writer has no lane out
  pub none_handed : w.hand ≡ None → (q n : ℕ) → is_handed g.places w q n ≡ false
  none_handed hand q n = λ i. is_number q (hand i) && nat_eq (n % g.places) (w.head % g.places)

  pub pick_keeps : (r : ℕ) → w.hand ≡ None → HandFits g w r → HoldsLanes g words (set homes (lane_place g.places r w.head) none) (picked r w) readers
  pick_keeps r hand fits =
      let l = fits.in_range in
      let head = head_shown words in
      let at : head ≡ w.head = h.head_is in
      let place = lane_place g.places r w.head in
      let taken = set homes place none in
      let v = picked r w in
      let here : place < length homes = slot_in g words homes w readers r w.head h m l in
      let room : head < fits.from + g.places = let k = fits.room in omega arith in
      let empty : row_shown g.places words homes r w.head ≡ None = ap (row_shown g.places words homes r) (sym at) ∙ unfilled_shows_none r l fits.unfilled fits.from fits.known room in
      record {
        rows_in = m.rows_in;
        even = m.even;
        deep = length-set homes place none ∙ m.deep;
        filled_in = m.filled_in;
        hand_fits = λ q e. let same : r ≡ q = cc in subst (HandFits g v) same record { in_range = l; row = fits.row; unfilled = fits.unfilled; from = fits.from; known = fits.known; room = fits.room };
        out_fits = m.out_fits;
        lane_is = λ q n j.
            let before = m.lane_is q n j in
            let keeps : home_at taken (lane_place g.places q n) ≡ home_at homes (lane_place g.places q n) → is_handed g.places v q n ≡ false → LaneIs g head (home_at taken (lane_place g.places q n)) (is_away g.places v readers q n) = λ home off. (
            let was : is_away g.places w readers q n ≡ is_away g.places v readers q n = ap (λ b. b || is_held g.places (readers q) n) (none_handed hand q n ∙ sym off) in
            subst (λ x. x) (λ i. LaneIs g head (sym home i) (was i)) before) in
            elim (cases_lane g.places r w.head q n) [
              | inl one ↦
                  let away : is_away g.places v readers q n ≡ true = (λ i. is_handed g.places v (one.reader i) n || is_held g.places (readers q) n) ∙ (λ i. handed_here r n one.place i || is_held g.places (readers q) n) in
                  subst (LaneIs g head (home_at taken (lane_place g.places q n))) (sym away) (home_same g.places r w.head homes none q n here one)
              | inr two ↦ elim two [
                | inl other ↦ keeps (home_else g.places r w.head homes none q n h.sound.some_place other) (handed_else r q n other)
                | inr apart ↦ keeps (home_apart g.places r w.head homes none q n apart.0 apart.1) (ap (λ i. is_handed g.places v i n) apart.0 ∙ handed_apart r n apart.1)
              ]
            ];
        sound = λ q j. subst (λ x. IsSoundLanes g.places g.total head (shown words w readers q) x) (sym (pick_lanes_are r l empty q j)) (m.sound q j);
      }

  -- the lane of row head is not out with its reader, where there is room for that row
  pub not_held_at : (r n : ℕ) → HandFits g w r → n % g.places ≡ w.head % g.places → is_held g.places (readers r) n ≡ false
  not_held_at r n fits same = by_out (readers r).out refl
    where
      away : (readers r).out ≡ true → n % g.places ≢ (readers r).taken % g.places
      away out e =
          let l = fits.in_range in
          let f = m.out_fits r l out in
          let p = h.sound.each r l in
          let taken : cursor_shown words r ≡ Some (readers r).taken = Moves.joined_here g words w readers r h l f.joined in
          let j = p.joined_known (readers r).taken taken in
          let known : j.0 ≡ fits.from = let a = j.1 in let b = fits.known in cc in
          let reached = j.2 in
          let ahead = f.ahead in
          let seen = p.seen_in in
          let at = h.head_is in
          let room = fits.room in
          let one : (readers r).taken ≡ w.head = one_turn g.places (readers r).taken w.head (omega arith) (omega arith) (sym e ∙ same) in
          omega arith

      by_out : (b : Bool) → (readers r).out ≡ b → b && nat_eq (n % g.places) ((readers r).taken % g.places) ≡ false
      by_out true e = ne_eqb (n % g.places) ((readers r).taken % g.places) (away e)
      by_out false e = refl

  not_held_head : (r : ℕ) → HandFits g w r → is_held g.places (readers r) w.head ≡ false
  not_held_head r fits = not_held_at r w.head fits refl

  -- the content of the lane that the writer takes
  pub pick_home : (r : ℕ) → w.hand ≡ None → HandFits g w r → LaneIs g (head_shown words) (home_at homes (lane_place g.places r w.head)) false
  pick_home r hand fits =
      let l = fits.in_range in
      let away : is_away g.places w readers r w.head ≡ false = (λ i. none_handed hand r w.head i || is_held g.places (readers r) w.head) ∙ not_held_head r fits in
      at_home g (head_shown words) (home_at homes (lane_place g.places r w.head)) (is_away g.places w readers r w.head) away (m.lane_is r w.head l)

  -- The writer returns the lane to its slot, filled

  -- the writer's view afterwards
  abbrev pub put_home : ℕ → WriterView
  put_home r = record w { hand = None; filled = set w.filled r true }

  pub place_lanes_are : (r : ℕ) (lane : Lane) → r < g.readers → lane.number ≡ Some w.head
      → lanes_known g.places words (set homes (lane_place g.places r w.head) (some (Some lane))) (put_home r) readers r ≡ filled_with g.places (head_shown words) (lanes_known g.places words homes w readers r)
  place_lanes_are r lane l number =
      let head = head_shown words in
      let at : head ≡ w.head = h.head_is in
      let cursor = cursor_shown words r in
      let full = set homes (lane_place g.places r w.head) (some (Some lane)) in
      let p = h.sound.each r l in
      let counts : counted head cursor lane.number ≡ Some head =
      ap (counted head cursor) (number ∙ ap Some (sym at)) ∙ counted_head head cursor (λ c e. omega (arith, p.seen_ahead c e, p.seen_in)) in
      let filled : get_or (set w.filled r true) r false ≡ true = get_or-set_same w.filled r true false (let k = m.filled_in in omega arith) in
      let row = λ (k : ℕ). row_put g.places r w.head head cursor homes (some (Some lane)) (Some head) k (slot_in g words homes w readers r w.head h m l) counts
      ∙ (λ i. put_row g.places (sym at i) (Some head) (row_shown g.places words homes r) k) in
      λ i. record { filled = filled i; stage = stage_by (readers r); row = λ k. row k i }

  pub place_lanes_else : (r q : ℕ) (lane : Lane) → q ≢ r
      → lanes_known g.places words (set homes (lane_place g.places r w.head) (some (Some lane))) (put_home r) readers q ≡ lanes_known g.places words homes w readers q
  place_lanes_else r q lane other =
      let head = head_shown words in
      let filled : get_or (set w.filled r true) q false ≡ get_or w.filled q false = get_or-set_other w.filled r q true false other in
      let row = λ (k : ℕ). ap (λ x. counted head (cursor_shown words q) (number_in x)) (home_else g.places r w.head homes (some (Some lane)) q k h.sound.some_place other) in
      λ i. record { filled = filled i; stage = stage_by (readers q); row = λ k. row k i }

  -- room and an unfilled lane suffice for a fill
  pub fill_possible : (r : ℕ) → HandFits g w r → can_fill g.places g.total (head_shown words) (shown words w readers r) (lanes_known g.places words homes w readers r) ≡ true
  fill_possible r fits =
      let head = head_shown words in
      let at : head ≡ w.head = h.head_is in
      let row = fits.row in
      let room = fits.room in
      (λ i. is_above head (option_map (λ k. k + g.places) (fits.known i)) && (nat_lt head g.total && not (fits.unfilled i)))
      ∙ (λ i. lt-ltb head (fits.from + g.places) (omega arith) i && (lt-ltb head g.total (omega arith) i && true))

  pub place_keeps : (r : ℕ) (lane : Lane) → w.hand ≡ Some r → lane.number ≡ Some w.head → Fits g (head_shown words) lane
      → HoldsLanes g words (set homes (lane_place g.places r w.head) (some (Some lane))) (put_home r) readers
  place_keeps r lane hand number lane_fits =
      let fits = m.hand_fits r hand in
      let l = fits.in_range in
      let head = head_shown words in
      let place = lane_place g.places r w.head in
      let full = set homes place (some (Some lane)) in
      let v = put_home r in
      let here : place < length homes = slot_in g words homes w readers r w.head h m l in
      let p = shown words w readers r in
      let old = lanes_known g.places words homes w readers r in
      record {
        rows_in = m.rows_in;
        even = m.even;
        deep = length-set homes place (some (Some lane)) ∙ m.deep;
        filled_in = length-set w.filled r true ∙ m.filled_in;
        hand_fits = λ q e. cc;
        out_fits = m.out_fits;
        lane_is = λ q n j.
            let before = m.lane_is q n j in
            let keeps : home_at full (lane_place g.places q n) ≡ home_at homes (lane_place g.places q n) → is_handed g.places (picked r w) q n ≡ false → LaneIs g head (home_at full (lane_place g.places q n)) (is_held g.places (readers q) n) = λ home off. (
            let was : is_away g.places w readers q n ≡ is_held g.places (readers q) n = (λ i. (is_number q (hand i) && nat_eq (n % g.places) (w.head % g.places)) || is_held g.places (readers q) n) ∙ (λ i. off i || is_held g.places (readers q) n) in
            subst (λ x. x) (λ i. LaneIs g head (sym home i) (was i)) before) in
            elim (cases_lane g.places r w.head q n) [
              | inl one ↦
                  let off : is_held g.places (readers q) n ≡ false = ap (λ i. is_held g.places (readers i) n) one.reader ∙ not_held_at r n fits one.place in
                  subst (LaneIs g head (home_at full (lane_place g.places q n))) (sym off) (lane, home_same g.places r w.head homes (some (Some lane)) q n here one, lane_fits)
              | inr two ↦ elim two [
                | inl other ↦ keeps (home_else g.places r w.head homes (some (Some lane)) q n h.sound.some_place other) (handed_else r q n other)
                | inr apart ↦ keeps (home_apart g.places r w.head homes (some (Some lane)) q n apart.0 apart.1) (ap (λ i. is_handed g.places (picked r w) i n) apart.0 ∙ handed_apart r n apart.1)
              ]
            ];
        sound = each_by g.readers r (λ q. IsSoundLanes g.places g.total head (shown words w readers q) (lanes_known g.places words full v readers q))
            (subst (λ x. IsSoundLanes g.places g.total head p x) (sym (place_lanes_are r lane l number)) (fill_lanes g.places g.total head p old (fill_possible r fits) (h.sound.each r l) (m.sound r l)))
            (λ q j other. subst (λ x. IsSoundLanes g.places g.total head (shown words w readers q) x) (sym (place_lanes_else r q lane other)) (m.sound q j));
      }
