-- The rule over the list of views: one seat's view changes, or a seat is split.
use Rattle.std.proofs.Common.{◌≡◌, ◌≢◌, ℕ, ◌+◌, ◌<◌, ◌≤◌, true, List, [], ◌∷◌, ◌++◌, set, sym, ap, ◌∙◌, subst, inl, inr, arith}
use Rattle.std.specs.Prelude.{Some}
use mathlib.Core.Option.{some}
use lib.ListN.{get_elem?}
use Rattle.atomic_table.proofs.Lists.{at_set, set_here}
use Rattle.ring_rule.specs.declared.view.RingNumbers.{RingNumbers}
use Rattle.ring_rule.specs.declared.view.WriterView.{WriterView}
use Rattle.ring_rule.specs.declared.view.ReaderView.{ReaderView}
use Rattle.ring_rule.specs.declared.view.HeadNoteView.{HeadNoteView}
use Rattle.ring_rule.specs.declared.view.CursorNoteView.{CursorNoteView}
use Rattle.ring_rule.specs.declared.view.View.{View}
use Rattle.ring_rule.specs.declared.view.View.TheVariants.{Writer, Reader, HeadNote, CursorNote}
use Rattle.ring_rule.specs.Views.{actor_of, writer_of, reader_of, put_reader}
use Rattle.ring_rule.specs.Shown.{Homes, RingState}
use Rattle.ring_rule.specs.Kept.{Holds, HoldsLanes, HoldsNotes, IsTrueHead, IsTrueCursor, Kept}
use Rattle.ring_rule.proofs.Moves.{put_each}
use Rattle.ring_rule.proofs.Roster.{writer_at, reader_at, writer_kept, reader_kept, readers_put, alone_set, alone_more, at_in, at_end}

-- the table with other words and slots and another view
abbrev pub changed : RingState → List ℕ → Homes → ℕ → View → RingState
changed s words homes id v = record { words = words; homes = homes; views = set s.views id v }

-- What the rule says about a seat's own view

pub holds_at : (g : RingNumbers) (s : RingState) (id : ℕ) (w : WriterView) → Kept g s → get_elem? s.views id ≡ some (Writer w) → Holds g s.words w (reader_of g s.views)
holds_at g s id w k at = subst (λ v. Holds g s.words v (reader_of g s.views)) (writer_at g s.views id w k.alone at) k.holds

pub lanes_at : (g : RingNumbers) (s : RingState) (id : ℕ) (w : WriterView) → Kept g s → get_elem? s.views id ≡ some (Writer w) → HoldsLanes g s.words s.homes w (reader_of g s.views)
lanes_at g s id w k at = subst (λ v. HoldsLanes g s.words s.homes v (reader_of g s.views)) (writer_at g s.views id w k.alone at) k.lanes

pub notes_at : (g : RingNumbers) (s : RingState) (id : ℕ) (w : WriterView) → Kept g s → get_elem? s.views id ≡ some (Writer w) → HoldsNotes g w (reader_of g s.views)
notes_at g s id w k at = subst (λ v. HoldsNotes g v (reader_of g s.views)) (writer_at g s.views id w k.alone at) k.told

pub reader_is : (g : RingNumbers) (s : RingState) (id : ℕ) (x : ReaderView) → Kept g s → get_elem? s.views id ≡ some (Reader x) → reader_of g s.views x.number ≡ x
reader_is g s id x k at = reader_at g s.views id x k.alone at

pub reader_in_range : (g : RingNumbers) (s : RingState) (id : ℕ) (x : ReaderView) → Kept g s → get_elem? s.views id ≡ some (Reader x) → x.number < g.readers
reader_in_range g s id x k at = let a = k.made id x at in let b = k.holds.made_in in omega arith

-- a seat's view has the ring's numbers
pub ring_is : (g : RingNumbers) (s : RingState) (id : ℕ) (w : WriterView) → Kept g s → get_elem? s.views id ≡ some (Writer w) → w.ring ≡ g
ring_is g s id w k at = (holds_at g s id w k at).writer_ring

pub reader_ring_is : (g : RingNumbers) (s : RingState) (id : ℕ) (x : ReaderView) → Kept g s → get_elem? s.views id ≡ some (Reader x) → x.ring ≡ g
reader_ring_is g s id x k at = ap (λ (y : ReaderView). y.ring) (sym (reader_is g s id x k at)) ∙ k.holds.reader_ring x.number (reader_in_range g s id x k at)

-- What notes say remains true

-- head and the rows taken only grow, and a reader that left does not rejoin
pub record IsLater (w : WriterView) (readers : ℕ → ReaderView) (v : WriterView) (later : ℕ → ReaderView) : Type 0 where
  pub head : w.head ≤ v.head
  pub taken : (r : ℕ) → (readers r).taken ≤ (later r).taken
  pub left : (r : ℕ) → (readers r).left ≡ true → (later r).left ≡ true

pub later_head : (g : RingNumbers) (w v : WriterView) (readers later : ℕ → ReaderView) (n : HeadNoteView) → IsLater w readers v later → IsTrueHead g w readers n → IsTrueHead g v later n
later_head g w v readers later n l t = record { ring = t.ring; head = let a = l.head in let b = t.head in omega arith; left = λ r h e. l.left r (t.left r h e) }

pub later_cursor : (g : RingNumbers) (w v : WriterView) (readers later : ℕ → ReaderView) (n : CursorNoteView) → IsLater w readers v later → IsTrueCursor g readers n → IsTrueCursor g later n
later_cursor g w v readers later n l t = record { ring = t.ring; in_range = t.in_range; taken = let a = l.taken n.number in let b = t.taken in omega arith; left = λ e. l.left n.number (t.left e) }

-- what a view tells others is true: a reader's view is of a reader that the writer made, and a note's content
-- holds
pub record TellsTrue (g : RingNumbers) (w : WriterView) (readers : ℕ → ReaderView) (v : View) : Type 0 where
  pub made : (x : ReaderView) → v ≡ Reader x → x.number < w.made
  pub head_note : (n : HeadNoteView) → v ≡ HeadNote n → IsTrueHead g w readers n
  pub cursor_note : (n : CursorNoteView) → v ≡ CursorNote n → IsTrueCursor g readers n

-- One view changes

pub by_view : (g : RingNumbers) (s : RingState) (id : ℕ) (a b : View) (words : List ℕ) (homes : Homes) (w : WriterView) (readers : ℕ → ReaderView) → Kept g s → get_elem? s.views id ≡ some a
    → ((n : ℕ) → actor_of b ≡ Some n → actor_of a ≡ Some n) → writer_of g (set s.views id b) ≡ w → reader_of g (set s.views id b) ≡ readers
    → IsLater (writer_of g s.views) (reader_of g s.views) w readers → (writer_of g s.views).made ≤ w.made → TellsTrue g w readers b
    → Holds g words w readers → HoldsLanes g words homes w readers → HoldsNotes g w readers → Kept g (changed s words homes id b)
by_view g s id a b words homes w readers k at actor now then later more tells h m t =
    let vs = set s.views id b in
    record {
      alone = alone_set s.views id a b k.alone at actor;
      made = λ i x e. subst (λ (u : WriterView). x.number < u.made) (sym now) (elim (at_set s.views id i b (Reader x) e) [
        | inl c ↦ tells.made x c.1
        | inr c ↦ let before = k.made i x c.1 in omega arith
      ]);
      head_notes = λ i n e. subst (λ u. IsTrueHead g u (reader_of g vs) n) (sym now) (subst (λ f. IsTrueHead g w f n) (sym then) (elim (at_set s.views id i b (HeadNote n) e) [
        | inl c ↦ tells.head_note n c.1
        | inr c ↦ later_head g (writer_of g s.views) w (reader_of g s.views) readers n later (k.head_notes i n c.1)
      ]));
      cursor_notes = λ i n e. subst (λ f. IsTrueCursor g f n) (sym then) (elim (at_set s.views id i b (CursorNote n) e) [
        | inl c ↦ tells.cursor_note n c.1
        | inr c ↦ later_cursor g (writer_of g s.views) w (reader_of g s.views) readers n later (k.cursor_notes i n c.1)
      ]);
      holds = subst (λ u. Holds g words u (reader_of g vs)) (sym now) (subst (λ f. Holds g words w f) (sym then) h);
      lanes = subst (λ u. HoldsLanes g words homes u (reader_of g vs)) (sym now) (subst (λ f. HoldsLanes g words homes w f) (sym then) m);
      told = subst (λ u. HoldsNotes g u (reader_of g vs)) (sym now) (subst (λ f. HoldsNotes g w f) (sym then) t);
    }

-- The writer's view changes

pub writer_now : (g : RingNumbers) (s : RingState) (id : ℕ) (w v : WriterView) → Kept g s → get_elem? s.views id ≡ some (Writer w) → writer_of g (set s.views id (Writer v)) ≡ v
writer_now g s id w v k at = writer_at g (set s.views id (Writer v)) id v (alone_set s.views id (Writer w) (Writer v) k.alone at (λ n e. e)) (set_here s.views id (Writer v) (at_in s.views id (Writer w) at))

-- the writer is no reader
no_reader : (r : ℕ) → Some 0 ≢ Some (r + 1)
no_reader r e = let f : 0 ≡ r + 1 = cc in omega arith

pub readers_same : (g : RingNumbers) (s : RingState) (id : ℕ) (w v : WriterView) → get_elem? s.views id ≡ some (Writer w) → reader_of g (set s.views id (Writer v)) ≡ reader_of g s.views
readers_same g s id w v at = λ i r. reader_kept g s.views id r (Writer w) (Writer v) at (no_reader r) (no_reader r) i

writer_tells : (g : RingNumbers) (w v : WriterView) (readers : ℕ → ReaderView) → TellsTrue g w readers (Writer v)
writer_tells g w v readers = record { made = λ x e. cc; head_note = λ n e. cc; cursor_note = λ n e. cc }

pub by_writer : (g : RingNumbers) (s : RingState) (id : ℕ) (w v : WriterView) (words : List ℕ) (homes : Homes) → Kept g s → get_elem? s.views id ≡ some (Writer w) → w.made ≤ v.made → w.head ≤ v.head
    → ((n : CursorNoteView) → v.told ≡ Some n → IsTrueCursor g (reader_of g s.views) n)
    → Holds g words v (reader_of g s.views) → HoldsLanes g words homes v (reader_of g s.views) → Kept g (changed s words homes id (Writer v))
by_writer g s id w v words homes k at made head told h m =
    let readers = reader_of g s.views in
    let was = writer_at g s.views id w k.alone at in
    let later : IsLater (writer_of g s.views) readers v readers = record { head = subst (λ (u : WriterView). u.head ≤ v.head) (sym was) head; taken = λ r. omega arith; left = λ r e. e } in
    by_view g s id (Writer w) (Writer v) words homes v readers k at (λ n e. e) (writer_now g s id w v k at) (readers_same g s id w v at) later
    (subst (λ (u : WriterView). u.made ≤ v.made) (sym was) made) (writer_tells g v v readers) h m
    record { writer_told = told; reader_told = λ r n l e. later_head g (writer_of g s.views) v readers readers n later (k.told.reader_told r n l e) }

-- A reader's view changes

pub readers_now : (g : RingNumbers) (s : RingState) (id : ℕ) (x y : ReaderView) → Kept g s → get_elem? s.views id ≡ some (Reader x) → y.number ≡ x.number → reader_of g (set s.views id (Reader y)) ≡ put_reader y (reader_of g s.views)
readers_now g s id x y k at n = λ i r. readers_put g s.views id x y r k.alone at n (at_in s.views id (Reader x) at) i

-- a reader is no writer
no_writer : (r : ℕ) → Some (r + 1) ≢ Some 0
no_writer r e = let f : r + 1 ≡ 0 = cc in omega arith

pub writer_same : (g : RingNumbers) (s : RingState) (id : ℕ) (x y : ReaderView) → get_elem? s.views id ≡ some (Reader x) → writer_of g (set s.views id (Reader y)) ≡ writer_of g s.views
writer_same g s id x y at = writer_kept g s.views id (Reader x) (Reader y) at (no_writer x.number) (no_writer y.number)

reader_later : (w : WriterView) (readers : ℕ → ReaderView) (x y : ReaderView) → readers x.number ≡ x → y.number ≡ x.number → x.taken ≤ y.taken → (x.left ≡ true → y.left ≡ true) → IsLater w readers w (put_reader y readers)
reader_later w readers x y is n taken left = record {
  head = omega arith;
  taken = put_each readers y (λ q z. (readers q).taken ≤ z.taken) x.number n (subst (λ (z : ReaderView). z.taken ≤ y.taken) (sym is) taken) (λ q o. omega arith);
  left = put_each readers y (λ q z. (readers q).left ≡ true → z.left ≡ true) x.number n (subst (λ (z : ReaderView). z.left ≡ true → y.left ≡ true) (sym is) left) (λ q o e. e);
}

pub by_reader : (g : RingNumbers) (s : RingState) (id : ℕ) (x y : ReaderView) (words : List ℕ) (homes : Homes) → Kept g s → get_elem? s.views id ≡ some (Reader x) → y.number ≡ x.number
    → x.taken ≤ y.taken → (x.left ≡ true → y.left ≡ true) → ((n : HeadNoteView) → y.told ≡ Some n → IsTrueHead g (writer_of g s.views) (reader_of g s.views) n)
    → Holds g words (writer_of g s.views) (put_reader y (reader_of g s.views)) → HoldsLanes g words homes (writer_of g s.views) (put_reader y (reader_of g s.views)) → Kept g (changed s words homes id (Reader y))
by_reader g s id x y words homes k at n taken left told h m =
    let w = writer_of g s.views in
    let readers = reader_of g s.views in
    let after = put_reader y readers in
    let later = reader_later w readers x y (reader_is g s id x k at) n taken left in
    let tells : TellsTrue g w after (Reader y) = record {
      made = λ z e. let is : y ≡ z = cc in let before = k.made id x at in let a : y.number ≡ z.number = ap (λ (u : ReaderView). u.number) is in omega arith;
      head_note = λ z e. cc;
      cursor_note = λ z e. cc;
    } in
    by_view g s id (Reader x) (Reader y) words homes w after k at (λ j e. ap (λ i. Some (i + 1)) (sym n) ∙ e) (writer_same g s id x y at) (readers_now g s id x y k at n) later (omega arith) tells h m
    record {
      writer_told = λ z e. later_cursor g w w readers after z later (k.told.writer_told z e);
      reader_told = put_each readers y (λ q u. (z : HeadNoteView) → q < g.readers → u.told ≡ Some z → IsTrueHead g w after z) x.number n
          (λ z l e. later_head g w w readers after z later (told z e))
          (λ q o z l e. later_head g w w readers after z later (k.told.reader_told q z l e));
    }

-- One more view

pub by_more : (g : RingNumbers) (s : RingState) (v : View) → Kept g s → ((n j : ℕ) (u : View) → actor_of v ≡ Some n → get_elem? s.views j ≡ some u → actor_of u ≢ Some n)
    → writer_of g (s.views ++ v ∷ []) ≡ writer_of g s.views → reader_of g (s.views ++ v ∷ []) ≡ reader_of g s.views → TellsTrue g (writer_of g s.views) (reader_of g s.views) v
    → Kept g record { words = s.words; homes = s.homes; views = s.views ++ v ∷ [] }
by_more g s v k fresh now then tells =
    let vs = s.views ++ v ∷ [] in
    let w = writer_of g s.views in
    let readers = reader_of g s.views in
    record {
      alone = alone_more s.views v k.alone fresh;
      made = λ i x e. subst (λ (u : WriterView). x.number < u.made) (sym now) (elim (at_end s.views v (Reader x) i e) [ inl c ↦ k.made i x c | inr c ↦ tells.made x c.1 ]);
      head_notes = λ i n e. subst (λ u. IsTrueHead g u (reader_of g vs) n) (sym now) (subst (λ f. IsTrueHead g w f n) (sym then) (elim (at_end s.views v (HeadNote n) i e) [
        | inl c ↦ k.head_notes i n c
        | inr c ↦ tells.head_note n c.1
      ]));
      cursor_notes = λ i n e. subst (λ f. IsTrueCursor g f n) (sym then) (elim (at_end s.views v (CursorNote n) i e) [
        | inl c ↦ k.cursor_notes i n c
        | inr c ↦ tells.cursor_note n c.1
      ]);
      holds = subst (λ u. Holds g s.words u (reader_of g vs)) (sym now) (subst (λ f. Holds g s.words w f) (sym then) k.holds);
      lanes = subst (λ u. HoldsLanes g s.words s.homes u (reader_of g vs)) (sym now) (subst (λ f. HoldsLanes g s.words s.homes w f) (sym then) k.lanes);
      told = subst (λ u. HoldsNotes g u (reader_of g vs)) (sym now) (subst (λ f. HoldsNotes g w f) (sym then) k.told);
    }
