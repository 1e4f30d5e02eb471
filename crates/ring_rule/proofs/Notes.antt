-- Seats are split and joined: the writer's seat gives a reader its seat, each seat makes notes and takes them
-- in. What is shown is unchanged.
use Rattle.std.proofs.Common.{◌≡◌, ◌≢◌, ℕ, ◌+◌, ◌<◌, ◌≤◌, Bool, true, List, [], ◌∷◌, ◌++◌, get_or, sym, refl, ap, ◌∙◌, subst, inl, inr, arith}
use Rattle.std.specs.Prelude.{Option, Some, None}
use Rattle.std.proofs.lemmas.Bool.{cases_Bool}
use mathlib.Core.Option.{some, some-injective}
use lib.ListN.{get_elem?}
use Rattle.atomic_table.proofs.Lists.{at_set, set_else, set_again}
use Rattle.ring_rule.specs.declared.view.RingNumbers.{RingNumbers}
use Rattle.ring_rule.specs.declared.view.WriterView.{WriterView}
use Rattle.ring_rule.specs.declared.view.ReaderView.{ReaderView}
use Rattle.ring_rule.specs.declared.view.HeadNoteView.{HeadNoteView}
use Rattle.ring_rule.specs.declared.view.CursorNoteView.{CursorNoteView}
use Rattle.ring_rule.specs.declared.view.View.{View}
use Rattle.ring_rule.specs.declared.view.View.TheVariants.{Writer, Reader, HeadNote, CursorNote, Spent}
use Rattle.ring_rule.specs.Views.{left_word, cursor_in, new_reader, actor_of, writer_of, reader_of, put_reader}
use Rattle.ring_rule.specs.Shown.{Homes, RingState, lanes_known, schedule_shown}
use Rattle.ring_rule.specs.Kept.{HoldsLanes, IsTrueHead, IsTrueCursor, Kept}
use Rattle.ring_rule.specs.Plays.{made_more, made_reader, head_note, cursor_note, noted, writer_met, reader_met, met}
use Rattle.ring_rule.specs.Laws.{ShowsTheSame, Has, cut, joined}
use Rattle.ring_rule.proofs.Numbers.{cursor_none}
use Rattle.ring_rule.proofs.Moves
use Rattle.ring_rule.proofs.Moves.{put_each}
use Rattle.ring_rule.proofs.Roster.{writer_at, writer_kept, reader_kept, writer_more, reader_more, readers_first}
use Rattle.ring_rule.proofs.Hold.{lanes_by}
use Rattle.ring_rule.proofs.ReaderLanes
use Rattle.ring_rule.proofs.Tables.{changed, holds_at, lanes_at, notes_at, reader_is, reader_in_range, ring_is, reader_ring_is, by_view, writer_now, readers_same, by_writer, readers_now, writer_same, by_reader, by_more}
use Rattle.ring_rule.proofs.Schedules.{same_shows}

-- the writer's view changes in fields that neither words nor slots show
writer_lanes : (g : RingNumbers) (words : List ℕ) (homes : Homes) (w v : WriterView) (readers : ℕ → ReaderView) → v.hand ≡ w.hand → v.head ≡ w.head → v.known ≡ w.known → v.filled ≡ w.filled
    → HoldsLanes g words homes w readers → HoldsLanes g words homes v readers
writer_lanes g words homes w v readers hand head known filled m =
    let P : Option ℕ → ℕ → List ℕ → List Bool → Type 0 = λ a b c d. HoldsLanes g words homes record v { hand = a; head = b; known = c; filled = d } readers in
    subst (λ x. x) (λ i. P (sym hand i) (sym head i) (sym known i) (sym filled i)) (record {
      rows_in = m.rows_in;
      even = m.even;
      deep = m.deep;
      filled_in = m.filled_in;
      hand_fits = λ r e. let f = m.hand_fits r e in record { in_range = f.in_range; row = f.row; unfilled = f.unfilled; from = f.from; known = f.known; room = f.room };
      out_fits = m.out_fits;
      lane_is = m.lane_is;
      sound = m.sound;
    })

-- A reader's seat

abbrev more : WriterView → WriterView
more w = record w { made = w.made + 1 }

module _ (g : RingNumbers) (s : RingState) (id : ℕ) (w : WriterView) (k : Kept g s) (at : Has s id (Writer w)) where
  more_kept : w.made < g.readers → Kept g (changed s s.words s.homes id (Writer (more w)))
  more_kept l =
      let readers = reader_of g s.views in
      let h = holds_at g s id w k at in
      by_writer g s id w (more w) s.words s.homes k at (omega arith) (omega arith) (notes_at g s id w k at).writer_told
      (Moves.writer_holds g s.words w (more w) readers refl refl (omega arith) refl refl h) (writer_lanes g s.words s.homes w (more w) readers refl refl refl refl (lanes_at g s id w k at))

  -- no view belongs yet to the reader that gets its seat
  none_yet : (j : ℕ) (u : View) → get_elem? s.views j ≡ some u → actor_of u ≢ Some (w.made + 1)
  none_yet j (Writer v) e f = let x : 0 ≡ w.made + 1 = cc in omega arith
  none_yet j (Reader y) e f =
      let x : y.number + 1 ≡ w.made + 1 = cc in
      let before : y.number < w.made = subst (λ (u : WriterView). y.number < u.made) (writer_at g s.views id w k.alone at) (k.made j y e) in
      omega arith
  none_yet j (HeadNote n) e f = cc
  none_yet j (CursorNote n) e f = cc
  none_yet j Spent e f = cc

  pub split_kept : w.made < g.readers → Kept g (cut s id (made_more (Writer w)) (made_reader (Writer w)))
  split_kept l =
      let v = more w in
      let one = changed s s.words s.homes id (Writer v) in
      let n = w.made in
      let seat = Reader (new_reader w.ring n) in
      let kept = more_kept l in
      let now = writer_now g s id w v k at in
      by_more g one seat kept
      (λ a j u e f. λ q. elim (at_set s.views id j (Writer v) u f) [
        | inl b ↦ let x : actor_of u ≡ Some 0 = ap actor_of (sym b.1) in let y : 0 ≡ n + 1 = cc in omega arith
        | inr b ↦ none_yet j u b.1 (q ∙ sym e)
      ])
      (writer_more g one.views seat (λ e. let f : n + 1 ≡ 0 = cc in omega arith))
      ((λ i. reader_of g (one.views ++ Reader (new_reader (ring_is g s id w k at i) n) ∷ [])) ∙ (λ i r. readers_first g one.views n r i))
      record {
        made = λ x e. let m : n ≡ x.number = let is : new_reader w.ring n ≡ x = cc in ap (λ (u : ReaderView). u.number) is in subst (λ (u : WriterView). x.number < u.made) (sym now) (omega arith);
        head_note = λ x e. cc;
        cursor_note = λ x e. cc;
      }

  pub split_same : w.made < g.readers → ShowsTheSame g s (cut s id (made_more (Writer w)) (made_reader (Writer w)))
  split_same l =
      let v = more w in
      let readers = reader_of g s.views in
      let one = changed s s.words s.homes id (Writer v) in
      let seat = Reader (new_reader w.ring w.made) in
      let t = cut s id (Writer v) seat in
      let kept = split_kept l in
      let now : writer_of g t.views ≡ v = writer_more g one.views seat (λ e. let f : w.made + 1 ≡ 0 = cc in omega arith) ∙ writer_now g s id w v k at in
      let then : reader_of g t.views ≡ readers =
      (λ i. reader_of g (one.views ++ Reader (new_reader (ring_is g s id w k at i) w.made) ∷ [])) ∙ ((λ i r. readers_first g one.views w.made r i) ∙ readers_same g s id w v at) in
      record { kept = kept; same = same_shows g s t w v readers k kept (writer_at g s.views id w k.alone at) now then refl (λ r _. refl) (λ r _. refl) }

  -- The writer makes a note

  -- a reader that the writer saw leave has left
  seen_left : (r : ℕ) → r < g.readers → get_or w.known r 0 ≡ left_word → (reader_of g s.views r).left ≡ true
  seen_left r l e = elim (cases_Bool (reader_of g s.views r).left) [
    | inl left ↦ left
    | inr here ↦
        let h = holds_at g s id w k at in
        let readers = reader_of g s.views in
        let j = (h.sound.each r l).joined_known (readers r).taken (Moves.joined_here g s.words w readers r h l here) in
        let none' : cursor_in (get_or w.known r 0) ≡ None = cursor_none (get_or w.known r 0) e in
        let f : None ≡ Some j.0 = sym none' ∙ j.1 in cc
  ]

  head_note_kept : Kept g record { words = s.words; homes = s.homes; views = s.views ++ HeadNote (head_note w) ∷ [] }
  head_note_kept =
      let was = writer_at g s.views id w k.alone at in
      by_more g s (HeadNote (head_note w)) k (λ a j u e f. cc) (writer_more g s.views (HeadNote (head_note w)) (λ e. cc)) (λ i r. reader_more g s.views (HeadNote (head_note w)) r (λ e. cc) i)
      record {
        made = λ x e. cc;
        head_note = λ n e. let is : head_note w ≡ n = cc in subst (IsTrueHead g (writer_of g s.views) (reader_of g s.views)) is
            record { ring = ring_is g s id w k at; head = subst (λ (u : WriterView). w.head ≤ u.head) (sym was) (omega arith); left = seen_left };
        cursor_note = λ n e. cc;
      }

  pub head_note_same : ShowsTheSame g s (cut s id (Writer w) (noted (Writer w)))
  head_note_same =
      let readers = reader_of g s.views in
      let v = HeadNote (head_note w) in
      let t : RingState = record { words = s.words; homes = s.homes; views = s.views ++ v ∷ [] } in
      let was = writer_at g s.views id w k.alone at in
      let same = same_shows g s t w w readers k head_note_kept was (writer_more g s.views v (λ e. cc) ∙ was) (λ i r. reader_more g s.views v r (λ e. cc) i) refl (λ r _. refl) (λ r _. refl) in
      let T : List View → Type 0 = λ vs. ShowsTheSame g s record { words = s.words; homes = s.homes; views = vs ++ v ∷ [] } in
      subst T (sym (set_again s.views id (Writer w) at)) (record { kept = head_note_kept; same = same })

-- A reader makes a note

cursor_note_kept : (g : RingNumbers) (s : RingState) (id : ℕ) (x : ReaderView) → Kept g s → Has s id (Reader x) → Kept g record { words = s.words; homes = s.homes; views = s.views ++ CursorNote (cursor_note x) ∷ [] }
cursor_note_kept g s id x k at =
    let is = reader_is g s id x k at in
    by_more g s (CursorNote (cursor_note x)) k (λ a j u e f. cc) (writer_more g s.views (CursorNote (cursor_note x)) (λ e. cc)) (λ i r. reader_more g s.views (CursorNote (cursor_note x)) r (λ e. cc) i)
    record {
      made = λ y e. cc;
      head_note = λ n e. cc;
      cursor_note = λ n e. let same : cursor_note x ≡ n = cc in subst (IsTrueCursor g (reader_of g s.views)) same
          record {
            ring = reader_ring_is g s id x k at;
            in_range = reader_in_range g s id x k at;
            taken = subst (λ (y : ReaderView). x.taken ≤ y.taken) (sym is) (omega arith);
            left = λ f. ap (λ (y : ReaderView). y.left) is ∙ f;
          };
    }

pub cursor_note_same : (g : RingNumbers) (s : RingState) (id : ℕ) (x : ReaderView) → Kept g s → Has s id (Reader x) → ShowsTheSame g s (cut s id (Reader x) (noted (Reader x)))
cursor_note_same g s id x k at =
    let w = writer_of g s.views in
    let readers = reader_of g s.views in
    let v = CursorNote (cursor_note x) in
    let t : RingState = record { words = s.words; homes = s.homes; views = s.views ++ v ∷ [] } in
    let kept = cursor_note_kept g s id x k at in
    let same = same_shows g s t w w readers k kept refl (writer_more g s.views v (λ e. cc)) (λ i r. reader_more g s.views v r (λ e. cc) i) refl (λ r _. refl) (λ r _. refl) in
    let T : List View → Type 0 = λ vs. ShowsTheSame g s record { words = s.words; homes = s.homes; views = vs ++ v ∷ [] } in
    subst T (sym (set_again s.views id (Reader x) at)) (record { kept = kept; same = same })

-- A note is joined to a seat, and is then spent

-- the view of a note in the table becomes Spent
spend_kept : (g : RingNumbers) (s : RingState) (id : ℕ) (v : View) → Kept g s → Has s id v → actor_of v ≡ None → Kept g (changed s s.words s.homes id Spent)
spend_kept g s id v k at none' =
    let w = writer_of g s.views in
    let readers = reader_of g s.views in
    let apart : (n : ℕ) → actor_of v ≢ Some n = λ n e. let f : None ≡ Some n = sym none' ∙ e in cc in
    by_view g s id v Spent s.words s.homes w readers k at (λ n e. cc) (writer_kept g s.views id v Spent at (apart 0) (λ e. cc)) (λ i r. reader_kept g s.views id r v Spent at (apart (r + 1)) (λ e. cc) i)
    record { head = omega arith; taken = λ r. omega arith; left = λ r e. e } (omega arith) record { made = λ x e. cc; head_note = λ n e. cc; cursor_note = λ n e. cc } k.holds k.lanes k.told

spend_same : (g : RingNumbers) (s : RingState) (id : ℕ) (v : View) → Kept g s → Has s id v → actor_of v ≡ None → schedule_shown g (changed s s.words s.homes id Spent) ≡ schedule_shown g s
spend_same g s id v k at none' =
    let w = writer_of g s.views in
    let apart : (n : ℕ) → actor_of v ≢ Some n = λ n e. let f : None ≡ Some n = sym none' ∙ e in cc in
    same_shows g s (changed s s.words s.homes id Spent) w w (reader_of g s.views) k (spend_kept g s id v k at none') refl
    (writer_kept g s.views id v Spent at (apart 0) (λ e. cc)) (λ i r. reader_kept g s.views id r v Spent at (apart (r + 1)) (λ e. cc) i) refl (λ r _. refl) (λ r _. refl)

-- a reader's seat takes in a note: the rule holds before the note is spent
reader_met_kept : (g : RingNumbers) (s : RingState) (id : ℕ) (x : ReaderView) (n : HeadNoteView) → Kept g s → Has s id (Reader x) → IsTrueHead g (writer_of g s.views) (reader_of g s.views) n
    → ShowsTheSame g s (changed s s.words s.homes id (Reader (reader_met n x)))
reader_met_kept g s id x n k at true' =
    let w = writer_of g s.views in
    let readers = reader_of g s.views in
    let y = reader_met n x in
    let is = reader_is g s id x k at in
    let l = reader_in_range g s id x k at in
    let e : Moves.SameWords y x = record { ring = refl; number = refl; taken = refl; left = refl; seen = refl } in
    let words = Moves.same_put readers x y is refl e in
    let kept = by_reader g s id x y s.words s.homes k at refl (omega arith) (λ f. f) (λ m f. let same : n ≡ m = cc in subst (IsTrueHead g w readers) same true')
    (Moves.same_holds g s.words w readers (put_reader y readers) words k.holds) (ReaderLanes.view_keeps g s.words s.homes w readers k.holds k.lanes x is l y refl refl refl refl refl) in
    record {
      kept = kept;
      same = same_shows g s (changed s s.words s.homes id (Reader y)) w w (put_reader y readers) k kept refl (writer_same g s id x y at) (readers_now g s id x y k at refl) refl
          (λ r _. Moves.same_shown s.words w readers (put_reader y readers) r (words r))
          (λ r _. put_each readers y (λ q z. lanes_by g.places s.words s.homes w z q ≡ lanes_known g.places s.words s.homes w readers q) x.number refl
          (ap (λ (z : ReaderView). lanes_by g.places s.words s.homes w z x.number) (sym is)) (λ q o. refl) r);
    }

writer_met_kept : (g : RingNumbers) (s : RingState) (id : ℕ) (w : WriterView) (n : CursorNoteView) → Kept g s → Has s id (Writer w) → IsTrueCursor g (reader_of g s.views) n
    → ShowsTheSame g s (changed s s.words s.homes id (Writer (writer_met n w)))
writer_met_kept g s id w n k at true' =
    let readers = reader_of g s.views in
    let v = writer_met n w in
    let h = holds_at g s id w k at in
    let kept = by_writer g s id w v s.words s.homes k at (omega arith) (omega arith) (λ m f. let same : n ≡ m = cc in subst (IsTrueCursor g readers) same true')
    (Moves.writer_holds g s.words w v readers refl refl h.made_in refl refl h) (writer_lanes g s.words s.homes w v readers refl refl refl refl (lanes_at g s id w k at)) in
    record {
      kept = kept;
      same = same_shows g s (changed s s.words s.homes id (Writer v)) w v readers k kept (writer_at g s.views id w k.alone at) (writer_now g s id w v k at) (readers_same g s id w v at) refl (λ r _. refl) (λ r _. refl);
    }

-- two seats with different views are different seats
apart_seats : (s : RingState) (id other : ℕ) (u v : View) → Has s id u → Has s other v → u ≢ v → other ≢ id
apart_seats s id other u v a b n e = n (some-injective u v (sym a ∙ subst (λ i. get_elem? s.views i ≡ some v) e b))

then_spent : (g : RingNumbers) (s : RingState) (id other : ℕ) (both v : View) → Has s other v → other ≢ id → actor_of v ≡ None → ShowsTheSame g s (changed s s.words s.homes id both) → ShowsTheSame g s (joined s id both other)
then_spent g s id other both v there apart none' one =
    let t = changed s s.words s.homes id both in
    let still : Has t other v = set_else s.views id other both apart ∙ there in
    record { kept = spend_kept g t other v one.kept still none'; same = spend_same g t other v one.kept still none' ∙ one.same }

pub meet_head_same : (g : RingNumbers) (s : RingState) (id other : ℕ) (x : ReaderView) (n : HeadNoteView) → Kept g s → Has s id (Reader x) → Has s other (HeadNote n)
    → ShowsTheSame g s (joined s id (met (Reader x) (HeadNote n)) other)
meet_head_same g s id other x n k at there =
    then_spent g s id other (Reader (reader_met n x)) (HeadNote n) there (apart_seats s id other (Reader x) (HeadNote n) at there (λ e. cc)) refl
    (reader_met_kept g s id x n k at (k.head_notes other n there))

pub meet_cursor_same : (g : RingNumbers) (s : RingState) (id other : ℕ) (w : WriterView) (n : CursorNoteView) → Kept g s → Has s id (Writer w) → Has s other (CursorNote n)
    → ShowsTheSame g s (joined s id (met (Writer w) (CursorNote n)) other)
meet_cursor_same g s id other w n k at there =
    then_spent g s id other (Writer (writer_met n w)) (CursorNote n) there (apart_seats s id other (Writer w) (CursorNote n) at there (λ e. cc)) refl
    (writer_met_kept g s id w n k at (k.cursor_notes other n there))
