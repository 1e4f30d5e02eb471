-- Each kind of step, over the writer's view and the function from reader to view: the progress shown
-- afterwards, and that the words and the views still fit. Soundness is not proved again: what is shown is the
-- effect of an event, and events keep it.
use Rattle.std.proofs.Common.{◌≡◌, ◌≢◌, ℕ, ◌+◌, ◌<◌, ◌≤◌, false, cond, List, [], ◌∷◌, ◌++◌, length, get_or, set, sym, refl, ap, ◌∙◌, subst, inl, inr, arith, get_or-set_same, get_or-set_other, length-set}
use Rattle.std.specs.Prelude.{Some, None}
use Rattle.std.proofs.lemmas.Bool.{cases_eq}
use Rattle.ring_core.specs.Schedule.{Progress}
use Rattle.ring_core.proofs.Changes.{looked, saw, advanced, departed}
use Rattle.ring_core.specs.Sound.{IsSoundProgress}
use Rattle.ring_core.proofs.Keeps.{look_progress, see_progress, publish_progress, advance_progress, leave_progress}
use Rattle.ring_core.proofs.Whole.{each_by}
use Rattle.ring_rule.specs.declared.view.RingNumbers.{RingNumbers}
use Rattle.ring_rule.specs.declared.view.WriterView.{WriterView}
use Rattle.ring_rule.specs.declared.view.ReaderView.{ReaderView}
use Rattle.ring_rule.specs.Views.{left_word, cursor_in, word_of, up_to, put_reader}
use Rattle.ring_rule.specs.Shown.{head_shown, shown}
use Rattle.ring_rule.specs.Kept.{Holds}
use Rattle.ring_rule.specs.Plays.{looked_at, published, saw_head, went_on, gone, IsCursorOf}
use Rattle.ring_rule.proofs.Roster.{pick_same, pick_other}
use Rattle.ring_rule.proofs.Numbers.{cursor_some, cursor_is_word, cursor_none, word_joined, up_to_more}

pub put_here : (y : ReaderView) (readers : ℕ → ReaderView) (r : ℕ) → y.number ≡ r → put_reader y readers r ≡ y
put_here y readers r e = pick_same y.number r y (readers r) e

pub put_else : (y : ReaderView) (readers : ℕ → ReaderView) (r : ℕ) → y.number ≢ r → put_reader y readers r ≡ readers r
put_else y readers r e = pick_other y.number r y (readers r) e

-- the progress shown for a reader depends on its own view alone
abbrev pub shown_by : List ℕ → WriterView → ReaderView → ℕ → Progress
shown_by words w x r = record { known = cursor_in (get_or w.known r 0); cursor = cursor_in (get_or words (r + 1) 0); seen = x.seen; taken = up_to x.taken }

-- The writer loads a cursor

pub look_own : (g : RingNumbers) (words : List ℕ) (w : WriterView) (readers : ℕ → ReaderView) (r : ℕ) → Holds g words w readers → r < g.readers
    → shown words (looked_at r (get_or words (r + 1) 0) w) readers r ≡ looked (shown words w readers r)
look_own g words w readers r h l =
    let e = get_or-set_same w.known r (get_or words (r + 1) 0) 0 (let k = h.known_in in omega arith) in
    λ i. record { known = cursor_in (e i); cursor = cursor_in (get_or words (r + 1) 0); seen = (readers r).seen; taken = up_to (readers r).taken }

pub look_other : (words : List ℕ) (w : WriterView) (readers : ℕ → ReaderView) (r n q : ℕ) → q ≢ r → shown words (looked_at r n w) readers q ≡ shown words w readers q
look_other words w readers r n q o =
    let e = get_or-set_other w.known r q n 0 o in
    λ i. record { known = cursor_in (e i); cursor = cursor_in (get_or words (q + 1) 0); seen = (readers q).seen; taken = up_to (readers q).taken }

-- the writer's view replaced by one that knows as many cursors, of which what is shown is sound
seen_holds : (g : RingNumbers) (words : List ℕ) (w v : WriterView) (readers : ℕ → ReaderView) → v.ring ≡ w.ring → v.head ≡ w.head → v.made ≤ g.readers → length v.known ≡ length w.known
    → length v.loads ≡ length w.loads → Holds g words w readers → ((r : ℕ) → r < g.readers → IsSoundProgress g.places (head_shown words) (shown words v readers r)) → Holds g words v readers
seen_holds g words w v readers ring head made known loads h each = record {
  total_in = h.total_in;
  words_in = h.words_in;
  writer_ring = ring ∙ h.writer_ring;
  reader_ring = h.reader_ring;
  number_is = h.number_is;
  made_in = made;
  taken_in = h.taken_in;
  known_in = known ∙ h.known_in;
  loads_in = loads ∙ h.loads_in;
  head_is = h.head_is ∙ sym head;
  cursor_is = h.cursor_is;
  sound = record { some_place = h.sound.some_place; head_in = h.sound.head_in; each = each };
}

pub look_holds : (g : RingNumbers) (words : List ℕ) (w : WriterView) (readers : ℕ → ReaderView) (r : ℕ) → Holds g words w readers → r < g.readers
    → Holds g words (looked_at r (get_or words (r + 1) 0) w) readers
look_holds g words w readers r h l =
    let n = get_or words (r + 1) 0 in
    let v = looked_at r n w in
    seen_holds g words w v readers refl refl h.made_in (length-set w.known r n) (length-set w.loads r (get_or w.loads r 0 + 1)) h
    (each_by g.readers r (λ q. IsSoundProgress g.places (head_shown words) (shown words v readers q))
    (subst (λ p. IsSoundProgress g.places (head_shown words) p) (sym (look_own g words w readers r h l)) (look_progress g.places (head_shown words) (shown words w readers r) (h.sound.each r l)))
    (λ q k o. subst (λ p. IsSoundProgress g.places (head_shown words) p) (sym (look_other words w readers r n q o)) (h.sound.each q k)))

-- what the writer finds in a cursor word
pub look_finds : (g : RingNumbers) (words : List ℕ) (w : WriterView) (readers : ℕ → ReaderView) (r : ℕ) → Holds g words w readers → r < g.readers → IsCursorOf w r (get_or words (r + 1) 0)
look_finds g words w readers r h l = elim (cases_eq (get_or words (r + 1) 0) left_word) [
  | inl left ↦ inl left
  | inr joined ↦
      let p = h.sound.each r l in
      let c = get_or words (r + 1) 0 in
      let at : (shown words w readers r).cursor ≡ Some c = cursor_some c joined in
      let k = p.joined_known c at in
      let known : get_or w.known r 0 ≡ k.0 = cursor_is_word (get_or w.known r 0) k.0 k.1 in
      let ahead = p.seen_ahead c at in
      let within = p.seen_in in
      let head = h.head_is in
      inr (omega (arith, k.2), omega arith)
]

-- The writer publishes

pub publish_shows : (words : List ℕ) (w : WriterView) (readers : ℕ → ReaderView) (n r : ℕ) → shown (set words 0 n) (published w) readers r ≡ shown words w readers r
publish_shows words w readers n r =
    let e = get_or-set_other words 0 (r + 1) n 0 (λ x. omega arith) in
    λ i. record { known = cursor_in (get_or w.known r 0); cursor = cursor_in (e i); seen = (readers r).seen; taken = up_to (readers r).taken }

pub publish_head : (g : RingNumbers) (words : List ℕ) (w : WriterView) (readers : ℕ → ReaderView) → Holds g words w readers → head_shown (set words 0 (w.head + 1)) ≡ head_shown words + 1
publish_head g words w readers h = get_or-set_same words 0 (w.head + 1) 0 (let k = h.words_in in omega arith) ∙ ap (λ n. n + 1) (sym h.head_is)

pub publish_holds : (g : RingNumbers) (words : List ℕ) (w : WriterView) (readers : ℕ → ReaderView) → Holds g words w readers → head_shown words < g.total
    → ((r k : ℕ) → r < g.readers → (shown words w readers r).known ≡ Some k → head_shown words < k + g.places) → Holds g (set words 0 (w.head + 1)) (published w) readers
publish_holds g words w readers h row room =
    let head = publish_head g words w readers h in
    record {
      total_in = h.total_in;
      words_in = length-set words 0 (w.head + 1) ∙ h.words_in;
      writer_ring = h.writer_ring;
      reader_ring = h.reader_ring;
      number_is = h.number_is;
      made_in = h.made_in;
      taken_in = h.taken_in;
      known_in = h.known_in;
      loads_in = h.loads_in;
      head_is = get_or-set_same words 0 (w.head + 1) 0 (let k = h.words_in in omega arith);
      cursor_is = λ r l. get_or-set_other words 0 (r + 1) (w.head + 1) 0 (λ x. omega arith) ∙ h.cursor_is r l;
      sound = record {
        some_place = h.sound.some_place;
        head_in = omega arith;
        each = λ r l.
            subst (λ n. IsSoundProgress g.places n (shown (set words 0 (w.head + 1)) (published w) readers r)) (sym head)
            (subst (λ p. IsSoundProgress g.places (head_shown words + 1) p) (sym (publish_shows words w readers (w.head + 1) r))
            (publish_progress g.places (head_shown words) (shown words w readers r) (λ k e. room r k l e) (h.sound.each r l)));
      };
    }

-- A reader's view changes

-- the progress shown for the reader by its new view, and for the others by theirs
pub by_view : (words : List ℕ) (w : WriterView) (readers : ℕ → ReaderView) (y : ReaderView) (r : ℕ) → y.number ≡ r → shown words w (put_reader y readers) r ≡ shown_by words w y r
by_view words w readers y r e = ap (λ (x : ReaderView). shown_by words w x r) (put_here y readers r e)

by_others : (words : List ℕ) (w : WriterView) (readers : ℕ → ReaderView) (y : ReaderView) (r q : ℕ) → y.number ≡ r → q ≢ r → shown words w (put_reader y readers) q ≡ shown words w readers q
by_others words w readers y r q e o = ap (λ (x : ReaderView). shown_by words w x q) (put_else y readers q (λ f. o (sym f ∙ e)))

-- A fact about each reader, where one view is new
pub put_each : (readers : ℕ → ReaderView) (y : ReaderView) (P : ℕ → ReaderView → Type 0) (r : ℕ) → y.number ≡ r → P r y → ((q : ℕ) → q ≢ r → P q (readers q)) → (q : ℕ) → P q (put_reader y readers q)
put_each readers y P r e here else q = elim (cases_eq q r) [
  | inl is ↦ subst (λ x. P q x) (sym (put_here y readers q (e ∙ sym is))) (subst (λ k. P k y) (sym is) here)
  | inr other ↦ subst (λ x. P q x) (sym (put_else y readers q (λ f. other (sym f ∙ e)))) (else q other)
]

-- a reader's view and its word are new, and the head's word is as before
reader_holds : (g : RingNumbers) (words ws : List ℕ) (w : WriterView) (readers : ℕ → ReaderView) (r : ℕ) (y : ReaderView) → Holds g words w readers → length ws ≡ length words → get_or ws 0 0 ≡ get_or words 0 0
    → ((q : ℕ) → q ≢ r → get_or ws (q + 1) 0 ≡ get_or words (q + 1) 0) → y.number ≡ r → y.ring ≡ g → y.taken ≤ g.total → get_or ws (r + 1) 0 ≡ word_of y
    → IsSoundProgress g.places (head_shown words) (shown_by ws w y r) → Holds g ws w (put_reader y readers)
reader_holds g words ws w readers r y h long head other number ring taken word sound =
    record {
      total_in = h.total_in;
      words_in = long ∙ h.words_in;
      writer_ring = h.writer_ring;
      reader_ring = put_each readers y (λ q z. q < g.readers → z.ring ≡ g) r number (λ k. ring) (λ q o. h.reader_ring q);
      number_is = put_each readers y (λ q z. q < g.readers → z.number ≡ q) r number (λ k. number) (λ q o. h.number_is q);
      made_in = h.made_in;
      taken_in = put_each readers y (λ q z. q < g.readers → z.taken ≤ g.total) r number (λ k. taken) (λ q o. h.taken_in q);
      known_in = h.known_in;
      loads_in = h.loads_in;
      head_is = head ∙ h.head_is;
      cursor_is = put_each readers y (λ q z. q < g.readers → get_or ws (q + 1) 0 ≡ word_of z) r number (λ k. word) (λ q o k. other q o ∙ h.cursor_is q k);
      sound = record {
        some_place = h.sound.some_place;
        head_in = subst (λ n. n ≤ g.total) (sym head) h.sound.head_in;
        each = put_each readers y (λ q z. q < g.readers → IsSoundProgress g.places (head_shown ws) (shown_by ws w z q)) r number
            (λ k. subst (λ n. IsSoundProgress g.places n (shown_by ws w y r)) (sym head) sound)
            (λ q o k. subst (λ t. t) (λ i. IsSoundProgress g.places (sym head i) record { known = cursor_in (get_or w.known q 0); cursor = cursor_in (sym (other q o) i); seen = (readers q).seen; taken = up_to (readers q).taken })
            (h.sound.each q k));
      };
    }

-- the words that a reader's step leaves
head_kept : (words : List ℕ) (r n : ℕ) → get_or (set words (r + 1) n) 0 0 ≡ get_or words 0 0
head_kept words r n = get_or-set_other words (r + 1) 0 n 0 (λ f. omega arith)

others_kept : (words : List ℕ) (r n q : ℕ) → q ≢ r → get_or (set words (r + 1) n) (q + 1) 0 ≡ get_or words (q + 1) 0
others_kept words r n q o = get_or-set_other words (r + 1) (q + 1) n 0 (λ f. o (let k : q ≡ r = omega arith in k))

pub see_own : (words : List ℕ) (w : WriterView) (readers : ℕ → ReaderView) (x : ReaderView) → readers x.number ≡ x
    → shown words w (put_reader (saw_head (get_or words 0 0) x) readers) x.number ≡ saw (head_shown words) (shown words w readers x.number)
see_own words w readers x is = by_view words w readers (saw_head (get_or words 0 0) x) x.number refl ∙ ap (λ (y : ReaderView). saw (head_shown words) (shown_by words w y x.number)) (sym is)

pub see_other : (words : List ℕ) (w : WriterView) (readers : ℕ → ReaderView) (x : ReaderView) (n q : ℕ) → q ≢ x.number → shown words w (put_reader (saw_head n x) readers) q ≡ shown words w readers q
see_other words w readers x n q o = by_others words w readers (saw_head n x) x.number q refl o

pub see_holds : (g : RingNumbers) (words : List ℕ) (w : WriterView) (readers : ℕ → ReaderView) (x : ReaderView) → Holds g words w readers → readers x.number ≡ x → x.number < g.readers
    → Holds g words w (put_reader (saw_head (get_or words 0 0) x) readers)
see_holds g words w readers x h is l =
    let r = x.number in
    reader_holds g words words w readers r (saw_head (get_or words 0 0) x) h refl refl (λ q o. refl) refl
    (ap (λ (z : ReaderView). z.ring) (sym is) ∙ h.reader_ring r l)
    (subst (λ (z : ReaderView). z.taken ≤ g.total) is (h.taken_in r l))
    (h.cursor_is r l ∙ ap word_of is)
    (subst (λ (z : ReaderView). IsSoundProgress g.places (head_shown words) (saw (head_shown words) (shown_by words w z r))) is (see_progress g.places (head_shown words) (shown words w readers r) (h.sound.each r l)))

-- the cursor shown for a joined reader, with its word given
pub joined_cursor : (g : RingNumbers) (words : List ℕ) (w : WriterView) (readers : ℕ → ReaderView) (x : ReaderView) → Holds g words w readers → readers x.number ≡ x → x.number < g.readers → x.left ≡ false
    → get_or words (x.number + 1) 0 ≡ x.taken
joined_cursor g words w readers x h is l j = h.cursor_is x.number l ∙ (ap word_of is ∙ word_joined x j)

-- the same, by the function alone
pub joined_here : (g : RingNumbers) (words : List ℕ) (w : WriterView) (readers : ℕ → ReaderView) (r : ℕ) → Holds g words w readers → r < g.readers → (readers r).left ≡ false
    → (shown words w readers r).cursor ≡ Some (readers r).taken
joined_here g words w readers r h l j =
    let taken = h.taken_in r l in
    let t = h.total_in in
    ap cursor_in (h.cursor_is r l ∙ word_joined (readers r) j) ∙ cursor_some (readers r).taken (λ e. omega arith)

-- its word is a row number, so it shows that number
pub joined_shown : (g : RingNumbers) (words : List ℕ) (w : WriterView) (readers : ℕ → ReaderView) (x : ReaderView) → Holds g words w readers → readers x.number ≡ x → x.number < g.readers → x.left ≡ false
    → (shown words w readers x.number).cursor ≡ Some x.taken
joined_shown g words w readers x h is l j =
    let taken : x.taken ≤ g.total = subst (λ (z : ReaderView). z.taken ≤ g.total) is (h.taken_in x.number l) in
    let t = h.total_in in
    ap cursor_in (joined_cursor g words w readers x h is l j) ∙ cursor_some x.taken (λ e. omega arith)

-- the progress shown for the reader by its new view and word
pub advance_own : (g : RingNumbers) (words : List ℕ) (w : WriterView) (readers : ℕ → ReaderView) (x : ReaderView) → Holds g words w readers → readers x.number ≡ x → x.number < g.readers → x.taken < x.seen
    → shown_by (set words (x.number + 1) (x.taken + 1)) w (went_on x) x.number ≡ advanced x.taken (shown words w readers x.number)
advance_own g words w readers x h is l ahead =
    let r = x.number in
    let c = x.taken in
    let s : (readers r).seen ≡ x.seen = ap (λ (z : ReaderView). z.seen) is in
    let p = (h.sound.each r l).seen_in in
    let head = h.sound.head_in in
    let t = h.total_in in
    let e = get_or-set_same words (r + 1) (c + 1) 0 (let k = h.words_in in omega arith) in
    let word : cursor_in (get_or (set words (r + 1) (c + 1)) (r + 1) 0) ≡ Some (c + 1) = ap cursor_in e ∙ cursor_some (c + 1) (λ f. omega arith) in
    let rows : up_to (c + 1) ≡ up_to (readers r).taken ++ c ∷ [] = up_to_more c ∙ ap (λ (z : ReaderView). up_to z.taken ++ c ∷ []) (sym is) in
    λ i. record { known = cursor_in (get_or w.known r 0); cursor = word i; seen = sym s i; taken = rows i }

-- another reader's word and view change
pub word_other : (words : List ℕ) (w : WriterView) (readers : ℕ → ReaderView) (x y : ReaderView) (n q : ℕ) → y.number ≡ x.number → q ≢ x.number
    → shown (set words (x.number + 1) n) w (put_reader y readers) q ≡ shown words w readers q
word_other words w readers x y n q same o =
    let e = others_kept words x.number n q o in
    by_others (set words (x.number + 1) n) w readers y x.number q same o ∙ (λ i. record { known = cursor_in (get_or w.known q 0); cursor = cursor_in (e i); seen = (readers q).seen; taken = up_to (readers q).taken })

pub advance_holds : (g : RingNumbers) (words : List ℕ) (w : WriterView) (readers : ℕ → ReaderView) (x : ReaderView) → Holds g words w readers → readers x.number ≡ x → x.number < g.readers → x.left ≡ false → x.taken < x.seen
    → Holds g (set words (x.number + 1) (x.taken + 1)) w (put_reader (went_on x) readers)
advance_holds g words w readers x h is l j ahead =
    let r = x.number in
    let c = x.taken in
    let s : (readers r).seen ≡ x.seen = ap (λ (z : ReaderView). z.seen) is in
    let most : c + 1 ≤ g.total = let b = (h.sound.each r l).seen_in in let d = h.sound.head_in in omega arith in
    reader_holds g words (set words (r + 1) (c + 1)) w readers r (went_on x) h (length-set words (r + 1) (c + 1)) (head_kept words r (c + 1)) (others_kept words r (c + 1)) refl
    (ap (λ (z : ReaderView). z.ring) (sym is) ∙ h.reader_ring r l) most
    (get_or-set_same words (r + 1) (c + 1) 0 (let k = h.words_in in omega arith) ∙ sym (word_joined (went_on x) j))
    (subst (λ p. IsSoundProgress g.places (head_shown words) p) (sym (advance_own g words w readers x h is l ahead))
    (advance_progress g.places (head_shown words) (shown words w readers r) c (joined_shown g words w readers x h is l j) (omega arith) (h.sound.each r l)))

-- A reader leaves

pub leave_own : (g : RingNumbers) (words : List ℕ) (w : WriterView) (readers : ℕ → ReaderView) (x : ReaderView) → Holds g words w readers → readers x.number ≡ x → x.number < g.readers
    → shown_by (set words (x.number + 1) left_word) w (gone x) x.number ≡ departed (shown words w readers x.number)
leave_own g words w readers x h is l =
    let r = x.number in
    let e = get_or-set_same words (r + 1) left_word 0 (let k = h.words_in in omega arith) in
    let word : cursor_in (get_or (set words (r + 1) left_word) (r + 1) 0) ≡ None = ap cursor_in e ∙ cursor_none left_word refl in
    λ i. record { known = cursor_in (get_or w.known r 0); cursor = word i; seen = (sym is i).seen; taken = up_to (sym is i).taken }

pub leave_holds : (g : RingNumbers) (words : List ℕ) (w : WriterView) (readers : ℕ → ReaderView) (x : ReaderView) → Holds g words w readers → readers x.number ≡ x → x.number < g.readers → x.left ≡ false
    → Holds g (set words (x.number + 1) left_word) w (put_reader (gone x) readers)
leave_holds g words w readers x h is l j =
    let r = x.number in
    reader_holds g words (set words (r + 1) left_word) w readers r (gone x) h (length-set words (r + 1) left_word) (head_kept words r left_word) (others_kept words r left_word) refl
    (ap (λ (z : ReaderView). z.ring) (sym is) ∙ h.reader_ring r l)
    (subst (λ (z : ReaderView). z.taken ≤ g.total) is (h.taken_in r l))
    (get_or-set_same words (r + 1) left_word 0 (let k = h.words_in in omega arith))
    (subst (λ p. IsSoundProgress g.places (head_shown words) p) (sym (leave_own g words w readers x h is l))
    (leave_progress g.places (head_shown words) (shown words w readers r) x.taken (joined_shown g words w readers x h is l j) (h.sound.each r l)))

-- Views change in fields that no word shows

pub record SameWords (x y : ReaderView) : Type 0 where
  pub ring : x.ring ≡ y.ring
  pub number : x.number ≡ y.number
  pub taken : x.taken ≡ y.taken
  pub left : x.left ≡ y.left
  pub seen : x.seen ≡ y.seen

pub same_shown : (words : List ℕ) (w : WriterView) (readers later : ℕ → ReaderView) (r : ℕ) → SameWords (later r) (readers r) → shown words w later r ≡ shown words w readers r
same_shown words w readers later r e = λ i. record { known = cursor_in (get_or w.known r 0); cursor = cursor_in (get_or words (r + 1) 0); seen = e.seen i; taken = up_to (e.taken i) }

pub same_holds : (g : RingNumbers) (words : List ℕ) (w : WriterView) (readers later : ℕ → ReaderView) → ((r : ℕ) → SameWords (later r) (readers r)) → Holds g words w readers → Holds g words w later
same_holds g words w readers later e h = record {
  total_in = h.total_in;
  words_in = h.words_in;
  writer_ring = h.writer_ring;
  reader_ring = λ r l. (e r).ring ∙ h.reader_ring r l;
  number_is = λ r l. (e r).number ∙ h.number_is r l;
  made_in = h.made_in;
  taken_in = λ r l. let k = (e r).taken in let t = h.taken_in r l in omega arith;
  known_in = h.known_in;
  loads_in = h.loads_in;
  head_is = h.head_is;
  cursor_is = λ r l. h.cursor_is r l ∙ (λ i. cond (sym (e r).left i) left_word (sym (e r).taken i));
  sound = record {
    some_place = h.sound.some_place;
    head_in = h.sound.head_in;
    each = λ r l. subst (λ p. IsSoundProgress g.places (head_shown words) p) (sym (same_shown words w readers later r (e r))) (h.sound.each r l);
  };
}

-- a reader's view replaced by one with the same words
pub same_put : (readers : ℕ → ReaderView) (x y : ReaderView) → readers x.number ≡ x → y.number ≡ x.number → SameWords y x → (r : ℕ) → SameWords (put_reader y readers r) (readers r)
same_put readers x y is n e = put_each readers y (λ q z. SameWords z (readers q)) x.number n
    record { ring = e.ring ∙ ap (λ (z : ReaderView). z.ring) (sym is); number = e.number ∙ ap (λ (z : ReaderView). z.number) (sym is); taken = e.taken ∙ ap (λ (z : ReaderView). z.taken) (sym is); left = e.left ∙ ap (λ (z : ReaderView). z.left) (sym is); seen = e.seen ∙ ap (λ (z : ReaderView). z.seen) (sym is) }
    (λ q o. record { ring = refl; number = refl; taken = refl; left = refl; seen = refl })

-- the writer's view replaced by one with the same words
pub writer_holds : (g : RingNumbers) (words : List ℕ) (w v : WriterView) (readers : ℕ → ReaderView) → v.ring ≡ w.ring → v.head ≡ w.head → v.made ≤ g.readers → v.known ≡ w.known → v.loads ≡ w.loads
    → Holds g words w readers → Holds g words v readers
writer_holds g words w v readers ring head made known loads h =
    seen_holds g words w v readers ring head made (ap length known) (ap length loads) h
    (λ r l. subst (λ (ks : List ℕ). IsSoundProgress g.places (head_shown words) record { known = cursor_in (get_or ks r 0); cursor = cursor_in (get_or words (r + 1) 0); seen = (readers r).seen; taken = up_to (readers r).taken }) (sym known) (h.sound.each r l))
