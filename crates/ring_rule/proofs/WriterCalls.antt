-- The table's conditions on each call of the writer: the step keeps the rule and has the result that its play
-- states.
use Rattle.std.proofs.Common.{◌≡◌, ℕ, ◌+◌, ◌<◌, ◌≤◌, true, List, [], ◌∷◌, length, get_or, set, sym, refl, ap, ◌∙◌, subst, inl, inr, arith}
use Rattle.std.specs.Prelude.{Some, None}
use Rattle.std.proofs.lemmas.Bool.{cases_Bool}
use mathlib.Core.Option.{none, some}
use Rattle.atomic_table.specs.Table.{step, keeps, takes, gives, Allows, Splits, Joins}
use Rattle.atomic_table.proofs.Lists.{set_else}
use Rattle.ring_rule.specs.declared.lane.Lane.{Lane}
use Rattle.ring_rule.specs.declared.view.RingNumbers.{RingNumbers}
use Rattle.ring_rule.specs.declared.view.WriterView.{WriterView}
use Rattle.ring_rule.specs.declared.view.ReaderView.{ReaderView}
use Rattle.ring_rule.specs.declared.view.CursorNoteView.{CursorNoteView}
use Rattle.ring_rule.specs.declared.view.View.TheVariants.{Writer, CursorNote, Spent}
use Rattle.ring_rule.specs.Views.{reader_of}
use Rattle.ring_rule.specs.Shown.{RingState}
use Rattle.ring_rule.specs.Kept.{row_at, Fits, Holds, IsTrueCursor, Kept}
use Rattle.ring_rule.specs.Plays.{slot_for, looked_at, published, picked, placed, IsPastNote, MayPublish, MayFill, IsLook, LooksAt, PublishesAt, PicksAt, PlacesAt, made_more, made_reader, noted, met}
use Rattle.ring_rule.specs.Laws.{Has}
use Rattle.ring_rule.proofs.Numbers.{word_joined, word_left}
use Rattle.ring_rule.proofs.Moves
use Rattle.ring_rule.proofs.Tables.{holds_at, lanes_at, notes_at, ring_is}
use Rattle.ring_rule.proofs.WriterEvents
use Rattle.ring_rule.proofs.Notes

-- a cursor word is past what a note of its reader said
pub past_note : (g : RingNumbers) (words : List ℕ) (w : WriterView) (readers : ℕ → ReaderView) (r : ℕ) (n : CursorNoteView) → Holds g words w readers → IsTrueCursor g readers n → n.number ≡ r → IsPastNote n (get_or words (r + 1) 0)
past_note g words w readers r n h t e =
    let l : r < g.readers = let a = t.in_range in omega arith in
    let word = h.cursor_is r l in
    let taken : n.taken ≤ (readers r).taken = subst (λ i. n.taken ≤ (readers i).taken) e t.taken in
    let left : n.left ≡ true → (readers r).left ≡ true = subst (λ i. n.left ≡ true → (readers i).left ≡ true) e t.left in
    record {
      cursor = elim (cases_Bool (readers r).left) [
        | inl gone ↦ inl (word ∙ word_left (readers r) gone)
        | inr here ↦ inr (let x = word ∙ word_joined (readers r) here in omega arith)
      ];
      left = λ f. word ∙ word_left (readers r) (left f);
    }

module _ (g : RingNumbers) (slots id : ℕ) (w : WriterView) where
  pub looks : (r : ℕ) → r < g.readers → w.hand ≡ None → Allows (Kept g) slots id (Writer w, []) (r + 1) (λ n. n) (LooksAt (step slots (r + 1) 0 0 none) (Writer w, []))
  looks r l hand s k len at fits =
      let n = get_or s.words (r + 1) 0 in
      let h = holds_at g s id w k at in (
        Writer (looked_at r n w),
        keeps,
        tt,
        (WriterEvents.look_event g s id w k at r l hand).kept,
        λ q e.
            let same : r ≡ q = omega arith in
            let P : ℕ → Type 0 = λ j. IsLook (Writer w, []) j n (Writer (looked_at r n w), []) in
            let Q : ℕ → Type 0 = λ j. IsLook (Writer w, []) j n (Writer (looked_at j n w), []) in
            subst (λ j. IsLook (Writer w, []) j n (Writer (looked_at r n w), [])) same record {
              seat = refl;
              cursor = Moves.look_finds g s.words w (reader_of g s.views) r h l;
              told = λ note told number. past_note g s.words w (reader_of g s.views) r note h ((notes_at g s id w k at).writer_told note told) number;
            },
      )

  pub publishes : (n : ℕ) → n ≡ w.head + 1 → MayPublish w → Allows (Kept g) slots id (Writer w, []) 0 (λ _. n) (λ _. PublishesAt (step slots 0 n 0 none) (Writer w, []) n)
  publishes n e may s k len at fits =
      let P : ℕ → Type 0 = λ m. Kept g record { words = set s.words 0 m; homes = s.homes; views = set s.views id (Writer (published w)) } in
      (Writer (published w), keeps, tt, subst P (sym e) (WriterEvents.publish_event g s id w k at may).kept, refl)

  -- each row of the deal is as long as a buffer
  row_long : (s : RingState) → Kept g s → Has s id (Writer w) → w.head < g.total → length (row_at w.ring w.head) ≡ w.ring.row_len
  row_long s k at l =
      let m = lanes_at g s id w k at in
      let e = ring_is g s id w k at in
      subst (λ (z : RingNumbers). length (row_at z w.head) ≡ z.row_len) (sym e) (m.even w.head [] (let a = m.rows_in in omega arith))

  pub picks : (r : ℕ) → w.hand ≡ None → MayFill w r → Allows (Kept g) slots id (Writer w, []) 0 (λ n. n) (PicksAt r (step slots 0 0 0 none) (Writer w, []))
  picks r hand may s k len at fits =
      let found = WriterEvents.pick_found g s id w k at r hand may in
      let e = ring_is g s id w k at in (
        Writer (picked r w),
        takes (slot_for w r) (Some found.0),
        found.1,
        ((WriterEvents.pick_stays g s id w k at r hand may).step (Some found.0) found.1).kept,
        record {
          lane = found.0;
          seat = refl;
          long = found.2.long ∙ ap (λ (z : RingNumbers). z.row_len) (sym e);
          row_long = row_long s k at (WriterEvents.may_hand g s id w k at r may).row;
        },
      )

  pub places : (r slot : ℕ) (lane : Lane) → slot ≡ slot_for w r → w.hand ≡ Some r → lane.number ≡ Some w.head → lane.bytes.items ≡ row_at w.ring w.head
      → Allows (Kept g) slots id (Writer w, (slot, Some lane) ∷ []) 0 (λ n. n) (PlacesAt (step slots 0 0 0 none) (Writer w, (slot, Some lane) ∷ []))
  places r slot lane place hand number row s k len at fits =
      let m = lanes_at g s id w k at in
      let e = ring_is g s id w k at in
      let hand_fits = m.hand_fits r hand in
      let same : (n : ℕ) → lane.number ≡ Some n → w.head ≡ n = λ n q. (let x : Some w.head ≡ Some n = sym number ∙ q in cc) in
      let row_fits : Fits g w.head lane = record {
        long = ap length row ∙ (row_long s k at hand_fits.row ∙ ap (λ (z : RingNumbers). z.row_len) e);
        not_ahead = λ n q. let x = same n q in omega arith;
        row = λ n q. row ∙ (λ i. row_at (e i) (same n q i));
      } in
      let P : ℕ → Type 0 = λ i. Kept g record { words = set s.words 0 (get_or s.words 0 0); homes = set s.homes i (some (Some lane)); views = set s.views id (Writer (placed w)) } in
      (Writer (placed w), gives, tt, subst P (sym place) (WriterEvents.place_event g s id w k at r lane hand number row_fits).kept, refl)

  pub splits : w.made < g.readers → Splits (Kept g) id (Writer w) (made_more (Writer w)) (made_reader (Writer w))
  splits l s k at = Notes.split_kept g s id w k at l

  pub notes : Splits (Kept g) id (Writer w) (Writer w) (noted (Writer w))
  notes s k at = (Notes.head_note_same g s id w k at).kept

  pub meets : (other : ℕ) (n : CursorNoteView) → Joins (Kept g) id (Writer w) other (CursorNote n) (met (Writer w) (CursorNote n)) Spent
  meets other n s k at apart there = (Notes.meet_cursor_same g s id other w n k at (sym (set_else s.views id other (met (Writer w) (CursorNote n)) apart) ∙ there)).kept
