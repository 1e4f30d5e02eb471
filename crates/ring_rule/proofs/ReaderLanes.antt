-- A reader's steps, over slots: what the lanes show afterwards, and that slots and views still fit. What
-- holds for the reader by its new view, and for every other reader by the old one, holds for each.
use Rattle.std.proofs.Common.{◌≡◌, ◌≢◌, ℕ, ◌+◌, ◌%◌, ◌<◌, ◌≤◌, true, false, cond, ◌&&◌, ◌||◌, List, length, get_or, set, sym, refl, ap, ◌∙◌, subst, inl, inr, arith, get_or-set_other, length-set}
use Rattle.std.specs.Prelude.{Option, Some, None, is_some, nat_eq}
use Rattle.std.proofs.lemmas.Bool.{cases_eq, eq-eqb, ne_eqb, lt-ltb}
use mathlib.Core.Option.{Option as AtHome, none, some}
use Rattle.ring_core.specs.declared.event.Stage.TheVariants.{Idle, Holding}
use Rattle.ring_core.specs.Schedule.{Progress, lane_place}
use Rattle.ring_core.specs.Events.{is_below, is_idle, is_holding, can_open, can_close, can_advance, can_leave}
use Rattle.ring_core.proofs.Changes.{advanced, departed, opened, closed, settled}
use Rattle.ring_core.specs.Sound.{IsSoundProgress, IsSoundLanes}
use Rattle.ring_core.specs.Plain.{from_low, plain_lanes}
use Rattle.ring_core.proofs.Keeps.{see_lanes, open_lanes, close_lanes, advance_lanes, advance_progress, leave_lanes, leave_progress}
use Rattle.ring_core.proofs.Lower.{unsettled, unsettle_keeps}
use Rattle.ring_rule.specs.declared.lane.Lane.{Lane}
use Rattle.ring_rule.specs.declared.view.RingNumbers.{RingNumbers}
use Rattle.ring_rule.specs.declared.view.WriterView.{WriterView}
use Rattle.ring_rule.specs.declared.view.ReaderView.{ReaderView}
use Rattle.ring_rule.specs.Views.{left_word, cursor_in, up_to, put_reader}
use Rattle.ring_rule.specs.Shown.{Slot, Homes, home_at, number_in, head_shown, cursor_shown, shown, counted, row_shown, is_number}
use Rattle.ring_rule.specs.Kept.{Holds, Fits, is_held, is_handed, is_away, LaneIs, OutFits, HoldsLanes}
use Rattle.ring_rule.specs.Plays.{saw_head, took, gave, went_on, gone, MayTake}
use Rattle.ring_rule.proofs.Numbers.{or_true, and_false}
use Rattle.ring_rule.proofs.Moves
use Rattle.ring_rule.proofs.Moves.{put_each, shown_by}
use Rattle.ring_rule.proofs.Slots.{home_same, home_else, home_apart, counted_here, counted_none, counted_on, counted_left, stage_plain, row_put}
use Rattle.ring_rule.proofs.Hold.{slot_in, number_in_head, at_home, stage_by, lanes_by, lanes_plain, sound_by, not_handed}

module _ (g : RingNumbers) (words : List ℕ) (homes : Homes) (w : WriterView) (readers : ℕ → ReaderView) (h : Holds g words w readers) (m : HoldsLanes g words homes w readers)
    (x : ReaderView) (is : readers x.number ≡ x) (l : x.number < g.readers) where
  -- what the rule says about the reader, by its own view
  sound_here : IsSoundLanes g.places g.total (head_shown words) (shown_by words w x x.number) (lanes_by g.places words homes w x x.number)
  sound_here = subst (λ z. IsSoundLanes g.places g.total (head_shown words) (shown_by words w z x.number) (lanes_by g.places words homes w z x.number)) is (m.sound x.number l)

  progress_here : IsSoundProgress g.places (head_shown words) (shown_by words w x x.number)
  progress_here = subst (λ z. IsSoundProgress g.places (head_shown words) (shown_by words w z x.number)) is (h.sound.each x.number l)

  lane_here : (n : ℕ) → LaneIs g (head_shown words) (home_at homes (lane_place g.places x.number n)) (is_handed g.places w x.number n || is_held g.places x n)
  lane_here n = subst (λ z. LaneIs g (head_shown words) (home_at homes (lane_place g.places x.number n)) (is_handed g.places w x.number n || is_held g.places z n)) is (m.lane_is x.number n l)

  pub out_here : x.out ≡ true → OutFits x
  out_here = subst (λ z. z.out ≡ true → OutFits z) is (m.out_fits x.number l)

  joined_at : x.left ≡ false → cursor_shown words x.number ≡ Some x.taken
  joined_at = Moves.joined_shown g words w readers x h is l

  -- One view is new: its reader's lanes are as that view says, and those of the others are as before
  lanes_hold : (ws : List ℕ) (hs : Homes) (y : ReaderView) → y.number ≡ x.number → length hs ≡ length homes → (y.out ≡ true → OutFits y)
      → ((n : ℕ) → LaneIs g (head_shown ws) (home_at hs (lane_place g.places x.number n)) (is_handed g.places w x.number n || is_held g.places y n))
      → ((q n : ℕ) → q ≢ x.number → LaneIs g (head_shown words) (home_at homes (lane_place g.places q n)) (is_away g.places w readers q n) → LaneIs g (head_shown ws) (home_at hs (lane_place g.places q n)) (is_away g.places w readers q n))
      → IsSoundLanes g.places g.total (head_shown ws) (shown_by ws w y x.number) (lanes_by g.places ws hs w y x.number)
      → ((q : ℕ) → q ≢ x.number → IsSoundLanes g.places g.total (head_shown words) (shown words w readers q) (lanes_by g.places words homes w (readers q) q)
      → IsSoundLanes g.places g.total (head_shown ws) (shown_by ws w (readers q) q) (lanes_by g.places ws hs w (readers q) q))
      → HoldsLanes g ws hs w (put_reader y readers)
  lanes_hold ws hs y number long fits lane other_lanes sound others =
      let r = x.number in
      record {
        rows_in = m.rows_in;
        even = m.even;
        deep = long ∙ m.deep;
        filled_in = m.filled_in;
        hand_fits = m.hand_fits;
        out_fits = put_each readers y (λ q z. q < g.readers → z.out ≡ true → OutFits z) r number (λ k. fits) (λ q o. m.out_fits q);
        lane_is = λ q n. put_each readers y (λ q z. q < g.readers → LaneIs g (head_shown ws) (home_at hs (lane_place g.places q n)) (is_handed g.places w q n || is_held g.places z n)) r number
            (λ k. lane n) (λ q o k. other_lanes q n o (m.lane_is q n k)) q;
        sound = put_each readers y (λ q z. q < g.readers → IsSoundLanes g.places g.total (head_shown ws) (shown_by ws w z q) (lanes_by g.places ws hs w z q)) r number
            (λ k. sound) (λ q o k. others q o (m.sound q k));
      }

  -- See

  pub see_keeps : HoldsLanes g words homes w (put_reader (saw_head (get_or words 0 0) x) readers)
  see_keeps =
      lanes_hold words homes (saw_head (get_or words 0 0) x) refl refl
      (λ o. let f = out_here o in record { joined = f.joined; ahead = let a = f.ahead in let s = progress_here.seen_in in omega arith })
      lane_here (λ q n o a. a)
      (see_lanes g.places g.total (head_shown words) (shown_by words w x x.number) (lanes_by g.places words homes w x x.number) progress_here sound_here)
      (λ q o a. a)

  -- A view changes in fields that neither words nor slots show

  pub view_keeps : (y : ReaderView) → y.number ≡ x.number → y.out ≡ x.out → y.taken ≡ x.taken → y.left ≡ x.left → y.seen ≡ x.seen → HoldsLanes g words homes w (put_reader y readers)
  view_keeps y number out taken left seen =
      let r = x.number in
      let head = head_shown words in
      lanes_hold words homes y number refl
      (λ o. let f = out_here (sym out ∙ o) in record { joined = left ∙ f.joined; ahead = let a = f.ahead in omega arith })
      (λ n. subst (λ t. t) (λ i. LaneIs g head (home_at homes (lane_place g.places r n)) (is_handed g.places w r n || (sym out i && nat_eq (n % g.places) (sym taken i % g.places)))) (lane_here n))
      (λ q n o a. a)
      (subst (λ t. t) (λ i. IsSoundLanes g.places g.total head record { known = cursor_in (get_or w.known r 0); cursor = cursor_shown words r; seen = sym seen i; taken = up_to (sym taken i) }
      record { filled = get_or w.filled r false; stage = cond (sym out i) Holding Idle; row = row_shown g.places words homes r }) sound_here)
      (λ q o a. a)

  -- Take

  -- the lane that it takes is in its slot, with the row at the cursor
  pub free_here : MayTake x → (is_handed g.places w x.number x.taken || is_held g.places x x.taken) ≡ false
  free_here may =
      let r = x.number in
      let s = progress_here.seen_in in
      let a = may.ahead in
      let off : is_handed g.places w r x.taken ≡ false = not_handed g words homes w readers h m r x.taken l (joined_at may.joined) (omega arith) in
      λ i. off i || (may.home i && nat_eq (x.taken % g.places) (x.taken % g.places))

  pub take_home : MayTake x → LaneIs g (head_shown words) (home_at homes (lane_place g.places x.number x.taken)) false
  take_home may = at_home g (head_shown words) (home_at homes (lane_place g.places x.number x.taken)) (is_handed g.places w x.number x.taken || is_held g.places x x.taken) (free_here may) (lane_here x.taken)

  -- the slot shows its row
  pub take_shows : MayTake x → row_shown g.places words homes x.number x.taken ≡ Some x.taken
  take_shows may =
      let s = progress_here.seen_in in
      let a = may.ahead in
      let idle : stage_by x ≡ Idle = ap (λ b. cond b Holding Idle) may.home in
      sound_here.lies x.taken x.taken (joined_at may.joined) (omega arith) (omega arith) (λ held. absurd (let f : Holding ≡ Idle = sym held ∙ idle in cc))

  pub take_lanes_are : MayTake x → lanes_by g.places words (set homes (lane_place g.places x.number x.taken) none) w (took x) x.number ≡ opened g.places x.taken (lanes_by g.places words homes w x x.number)
  take_lanes_are may =
      let r = x.number in
      let head = head_shown words in
      let cursor = cursor_shown words r in
      let row = λ (k : ℕ). row_put g.places r x.taken head cursor homes none None k (slot_in g words homes w readers r x.taken h m l) (counted_none head cursor) in
      λ i. record { filled = get_or w.filled r false; stage = Holding; row = λ k. row k i }

  -- a slot of another reader changes
  pub lanes_else : (v : AtHome Slot) (n q : ℕ) (z : ReaderView) → q ≢ x.number → lanes_by g.places words (set homes (lane_place g.places x.number n) v) w z q ≡ lanes_by g.places words homes w z q
  lanes_else v n q z other =
      let row = λ (k : ℕ). ap (λ a. counted (head_shown words) (cursor_shown words q) (number_in a)) (home_else g.places x.number n homes v q k h.sound.some_place other) in
      λ i. record { filled = get_or w.filled q false; stage = stage_by z; row = λ k. row k i }

  slot_else : (v : AtHome Slot) (n q k : ℕ) → q ≢ x.number → LaneIs g (head_shown words) (home_at homes (lane_place g.places q k)) (is_away g.places w readers q k)
      → LaneIs g (head_shown words) (home_at (set homes (lane_place g.places x.number n) v) (lane_place g.places q k)) (is_away g.places w readers q k)
  slot_else v n q k other = subst (λ a. LaneIs g (head_shown words) a (is_away g.places w readers q k)) (sym (home_else g.places x.number n homes v q k h.sound.some_place other))

  pub take_possible : MayTake x → can_open (shown_by words w x x.number) (lanes_by g.places words homes w x x.number) ≡ true
  take_possible may = (λ i. is_below x.seen (joined_at may.joined i) && is_idle (cond (may.home i) Holding Idle)) ∙ (λ i. lt-ltb x.taken x.seen may.ahead i && true)

  pub take_keeps : MayTake x → HoldsLanes g words (set homes (lane_place g.places x.number x.taken) none) w (put_reader (took x) readers)
  take_keeps may =
      let r = x.number in
      let c = x.taken in
      let y = took x in
      let head = head_shown words in
      let hs = set homes (lane_place g.places r c) none in
      let here = slot_in g words homes w readers r c h m l in
      let p = shown_by words w x r in
      let old = lanes_by g.places words homes w x r in
      lanes_hold words hs y refl (length-set homes (lane_place g.places r c) none) (λ o. record { joined = may.joined; ahead = may.ahead })
      (λ n. elim (cases_eq (n % g.places) (c % g.places)) [
        | inl same ↦
            let away : (is_handed g.places w r n || is_held g.places y n) ≡ true = (λ i. is_handed g.places w r n || eq-eqb (n % g.places) (c % g.places) same i) ∙ or_true (is_handed g.places w r n) in
            subst (LaneIs g head (home_at hs (lane_place g.places r n))) (sym away) (home_same g.places r c homes none r n here record { reader = refl; place = same })
        | inr apart ↦
            let was : (is_handed g.places w r n || is_held g.places x n) ≡ (is_handed g.places w r n || is_held g.places y n) =
            (λ i. is_handed g.places w r n || (may.home i && nat_eq (n % g.places) (c % g.places))) ∙ (λ i. is_handed g.places w r n || sym (ne_eqb (n % g.places) (c % g.places) apart) i) in
            subst (λ t. t) (λ i. LaneIs g head (sym (home_apart g.places r c homes none r n refl apart) i) (was i)) (lane_here n)
      ])
      (slot_else none c)
      (subst (λ t. IsSoundLanes g.places g.total head p t) (sym (take_lanes_are may)) (open_lanes g.places g.total head p old c (joined_at may.joined) (take_possible may) progress_here sound_here))
      (λ q other. subst (λ t. IsSoundLanes g.places g.total head (shown words w readers q) t) (sym (lanes_else none c q (readers q) other)))

  -- Give

  pub give_possible : x.out ≡ true → can_close (shown_by words w x x.number) (lanes_by g.places words homes w x x.number) ≡ true
  give_possible out = λ i. is_some (joined_at (out_here out).joined i) && is_holding (cond (out i) Holding Idle)

  pub give_lanes_are : (lane : Lane) → x.out ≡ true → lane.number ≡ Some x.taken
      → lanes_by g.places words (set homes (lane_place g.places x.number x.taken) (some (Some lane))) w (gave x) x.number ≡ settled (closed g.places x.taken (lanes_by g.places words homes w x x.number))
  give_lanes_are lane out number =
      let r = x.number in
      let head = head_shown words in
      let cursor = cursor_shown words r in
      let counts : counted head cursor lane.number ≡ Some x.taken = ap (counted head cursor) number ∙ counted_here head cursor x.taken (joined_at (out_here out).joined) in
      let row = λ (k : ℕ). row_put g.places r x.taken head cursor homes (some (Some lane)) (Some x.taken) k (slot_in g words homes w readers r x.taken h m l) counts in
      λ i. record { filled = get_or w.filled r false; stage = Idle; row = λ k. row k i }

  pub give_keeps : (lane : Lane) → x.out ≡ true → lane.number ≡ Some x.taken → Fits g (head_shown words) lane → HoldsLanes g words (set homes (lane_place g.places x.number x.taken) (some (Some lane))) w (put_reader (gave x) readers)
  give_keeps lane out number fits =
      let r = x.number in
      let c = x.taken in
      let y = gave x in
      let f = out_here out in
      let head = head_shown words in
      let v = some (Some lane) in
      let hs = set homes (lane_place g.places r c) v in
      let here = slot_in g words homes w readers r c h m l in
      let p = shown_by words w x r in
      let old = lanes_by g.places words homes w x r in
      let at = joined_at f.joined in
      let below : c < head = let s = progress_here.seen_in in let a = f.ahead in omega arith in
      lanes_hold words hs y refl (length-set homes (lane_place g.places r c) v) (λ o. cc)
      (λ n. elim (cases_eq (n % g.places) (c % g.places)) [
        | inl same ↦
            let off : is_handed g.places w r n ≡ false = ap (λ j. is_number r w.hand && nat_eq j (w.head % g.places)) same ∙ not_handed g words homes w readers h m r c l at below in
            let home : (is_handed g.places w r n || false) ≡ false = λ i. off i || false in
            subst (LaneIs g head (home_at hs (lane_place g.places r n))) (sym home) (lane, home_same g.places r c homes v r n here record { reader = refl; place = same }, fits)
        | inr apart ↦
            let was : (is_handed g.places w r n || is_held g.places x n) ≡ (is_handed g.places w r n || false) =
            (λ i. is_handed g.places w r n || (x.out && ne_eqb (n % g.places) (c % g.places) apart i)) ∙ (λ i. is_handed g.places w r n || and_false x.out i) in
            subst (λ t. t) (λ i. LaneIs g head (sym (home_apart g.places r c homes v r n refl apart) i) (was i)) (lane_here n)
      ])
      (slot_else v c)
      (sound_by g.places g.total head p (closed g.places c old) (lanes_by g.places words hs w y r) progress_here (close_lanes g.places g.total head p old c at (give_possible out) progress_here sound_here)
      (lanes_plain g.places words hs w y r p refl ∙ ap (plain_lanes head p) (give_lanes_are lane out number)))
      (λ q other. subst (λ t. IsSoundLanes g.places g.total head (shown words w readers q) t) (sym (lanes_else v c q (readers q) other)))

  -- The reader's word changes

  -- the head shown afterwards
  head_then : (n : ℕ) → head_shown (set words (x.number + 1) n) ≡ head_shown words
  head_then n = get_or-set_other words (x.number + 1) 0 n 0 (λ f. omega arith)

  cursor_else : (n q : ℕ) → q ≢ x.number → cursor_shown (set words (x.number + 1) n) q ≡ cursor_shown words q
  cursor_else n q other = ap cursor_in (get_or-set_other words (x.number + 1) (q + 1) n 0 (λ f. other (let k : q ≡ x.number = omega arith in k)))

  -- another reader's lanes are unchanged
  pub word_lanes_else : (n q : ℕ) (z : ReaderView) → q ≢ x.number → lanes_by g.places (set words (x.number + 1) n) homes w z q ≡ lanes_by g.places words homes w z q
  word_lanes_else n q z other =
      λ i. record { filled = get_or w.filled q false; stage = stage_by z; row = λ k. counted (head_then n i) (cursor_else n q other i) (number_in (home_at homes (lane_place g.places q k))) }

  -- with no lane out before and after, the slots are as the views say
  word_keeps : (n : ℕ) (y : ReaderView) → y.number ≡ x.number → x.out ≡ false → y.out ≡ false
      → IsSoundLanes g.places g.total (head_shown words) (shown_by (set words (x.number + 1) n) w y x.number) (lanes_by g.places (set words (x.number + 1) n) homes w y x.number)
      → HoldsLanes g (set words (x.number + 1) n) homes w (put_reader y readers)
  word_keeps n y number home still sound =
      let r = x.number in
      let ws = set words (r + 1) n in
      let at = head_then n in
      lanes_hold ws homes y number refl (λ o. cc)
      (λ k.
      let was : (is_handed g.places w r k || is_held g.places x k) ≡ (is_handed g.places w r k || is_held g.places y k) =
      (λ i. is_handed g.places w r k || (home i && nat_eq (k % g.places) (x.taken % g.places))) ∙ (λ i. is_handed g.places w r k || (sym still i && nat_eq (k % g.places) (y.taken % g.places))) in
      subst (λ t. t) (λ i. LaneIs g (sym at i) (home_at homes (lane_place g.places r k)) (was i)) (lane_here k))
      (λ q k other. subst (λ a. LaneIs g a (home_at homes (lane_place g.places q k)) (is_away g.places w readers q k)) (sym at))
      (subst (λ a. IsSoundLanes g.places g.total a (shown_by ws w y r) (lanes_by g.places ws homes w y r)) (sym at) sound)
      (λ q other.
      let shows : shown_by ws w (readers q) q ≡ shown words w readers q = λ i. record { known = cursor_in (get_or w.known q 0); cursor = cursor_else n q other i; seen = (readers q).seen; taken = up_to (readers q).taken } in
      subst (λ t. t) (λ i. IsSoundLanes g.places g.total (sym at i) (sym shows i) (sym (word_lanes_else n q (readers q) other) i)))

  -- Advance

  pub advance_shows : MayTake x → shown_by (set words (x.number + 1) (x.taken + 1)) w (went_on x) x.number ≡ advanced x.taken (shown_by words w x x.number)
  advance_shows may = Moves.advance_own g words w readers x h is l may.ahead ∙ ap (λ (z : ReaderView). advanced x.taken (shown_by words w z x.number)) is

  pub advance_lanes_are : MayTake x → lanes_by g.places (set words (x.number + 1) (x.taken + 1)) homes w (went_on x) x.number
      ≡ plain_lanes (head_shown words) (advanced x.taken (shown_by words w x x.number)) (settled (unsettled (lanes_by g.places words homes w x x.number)))
  advance_lanes_are may =
      let r = x.number in
      let c = x.taken in
      let head = head_shown words in
      let now : cursor_shown (set words (r + 1) (c + 1)) r ≡ Some (c + 1) = ap (λ (p : Progress). p.cursor) (advance_shows may) in
      let number : ℕ → Option ℕ = λ k. number_in (home_at homes (lane_place g.places r k)) in
      let row = λ (k : ℕ). (λ i. counted (head_then (c + 1) i) (now i) (number k)) ∙ (sym (counted_on head c (number k)) ∙ (λ i. from_low (c + 1) (counted head (sym (joined_at may.joined) i) (number k)))) in
      λ i. record { filled = get_or w.filled r false; stage = cond (may.home i) Holding Idle; row = λ k. row k i }

  -- its row was given back, so its lanes can be read as closed
  pub closed_here : MayTake x → IsSoundLanes g.places g.total (head_shown words) (shown_by words w x x.number) (unsettled (lanes_by g.places words homes w x x.number))
  closed_here may = unsettle_keeps g.places g.total (head_shown words) (shown_by words w x x.number) (lanes_by g.places words homes w x x.number) x.taken (joined_at may.joined) may.ahead
      (ap (λ b. cond b Holding Idle) may.home) sound_here

  pub advance_possible : MayTake x → can_advance (shown_by words w x x.number) (unsettled (lanes_by g.places words homes w x x.number)) ≡ true
  advance_possible may = λ i. is_some (joined_at may.joined i) && true

  pub advance_keeps : MayTake x → HoldsLanes g (set words (x.number + 1) (x.taken + 1)) homes w (put_reader (went_on x) readers)
  advance_keeps may =
      let r = x.number in
      let c = x.taken in
      let ws = set words (r + 1) (c + 1) in
      let head = head_shown words in
      let p = shown_by words w x r in
      let old = lanes_by g.places words homes w x r in
      let now = lanes_by g.places ws homes w (went_on x) r in
      word_keeps (c + 1) (went_on x) refl may.home may.home
      (subst (λ q. IsSoundLanes g.places g.total head q now) (sym (advance_shows may))
      (sound_by g.places g.total head (advanced c p) (settled (unsettled old)) now
      (advance_progress g.places head p c (joined_at may.joined) may.ahead progress_here)
      (advance_lanes g.places g.total head p (unsettled old) c (joined_at may.joined) (advance_possible may) (closed_here may))
      (advance_lanes_are may)))

  -- Leave

  pub leave_shows : x.left ≡ false → shown_by (set words (x.number + 1) left_word) w (gone x) x.number ≡ departed (shown_by words w x x.number)
  leave_shows joined = Moves.leave_own g words w readers x h is l ∙ ap (λ (z : ReaderView). departed (shown_by words w z x.number)) is

  pub leave_lanes_are : x.left ≡ false → x.out ≡ false → lanes_by g.places (set words (x.number + 1) left_word) homes w (gone x) x.number
      ≡ plain_lanes (head_shown words) (departed (shown_by words w x x.number)) (lanes_by g.places words homes w x x.number)
  leave_lanes_are joined home =
      let r = x.number in
      let c = x.taken in
      let head = head_shown words in
      let now : cursor_shown (set words (r + 1) left_word) r ≡ None = ap (λ (p : Progress). p.cursor) (leave_shows joined) in
      let low : c ≤ head = let s = progress_here.seen_in in let a = progress_here.seen_ahead c (joined_at joined) in omega arith in
      let number : ℕ → Option ℕ = λ k. number_in (home_at homes (lane_place g.places r k)) in
      let row = λ (k : ℕ). (λ i. counted (head_then left_word i) (now i) (number k))
      ∙ (sym (counted_left head c (number k) low (λ n e. number_in_head g words homes w readers r k n m l e)) ∙ (λ i. from_low head (counted head (sym (joined_at joined) i) (number k)))) in
      λ i. record { filled = get_or w.filled r false; stage = sym (stage_plain x.out) i; row = λ k. row k i }

  pub leave_possible : x.left ≡ false → x.out ≡ false → can_leave (shown_by words w x x.number) (lanes_by g.places words homes w x x.number) ≡ true
  leave_possible joined home = λ i. is_some (joined_at joined i) && is_idle (cond (home i) Holding Idle)

  pub leave_keeps : x.left ≡ false → x.out ≡ false → HoldsLanes g (set words (x.number + 1) left_word) homes w (put_reader (gone x) readers)
  leave_keeps joined home =
      let r = x.number in
      let ws = set words (r + 1) left_word in
      let head = head_shown words in
      let p = shown_by words w x r in
      let old = lanes_by g.places words homes w x r in
      let now = lanes_by g.places ws homes w (gone x) r in
      word_keeps left_word (gone x) refl home home
      (subst (λ q. IsSoundLanes g.places g.total head q now) (sym (leave_shows joined))
      (sound_by g.places g.total head (departed p) old now
      (leave_progress g.places head p x.taken (joined_at joined) progress_here)
      (leave_lanes g.places g.total head p old (leave_possible joined home) sound_here)
      (leave_lanes_are joined home)))
