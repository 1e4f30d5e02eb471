-- The table's conditions on each call of a reader: the step keeps the rule and has the result that its play
-- states.
use Rattle.std.proofs.Common.{◌≡◌, ℕ, ◌+◌, ◌<◌, ◌≤◌, true, false, List, [], ◌∷◌, length, get_or, set, sym, refl, ap, ◌∙◌, subst, arith}
use Rattle.std.specs.Prelude.{Some}
use Rattle.std.proofs.lemmas.Bool.{false≢true}
use mathlib.Core.Option.{none, some}
use Rattle.atomic_table.specs.Table.{step, keeps, takes, gives, Allows, Splits, Joins}
use Rattle.atomic_table.proofs.Lists.{set_else}
use Rattle.ring_rule.specs.declared.lane.Lane.{Lane}
use Rattle.ring_rule.specs.declared.view.RingNumbers.{RingNumbers}
use Rattle.ring_rule.specs.declared.view.ReaderView.{ReaderView}
use Rattle.ring_rule.specs.declared.view.HeadNoteView.{HeadNoteView}
use Rattle.ring_rule.specs.declared.view.View.TheVariants.{Reader, HeadNote, Spent}
use Rattle.ring_rule.specs.Views.{left_word, writer_of, reader_of}
use Rattle.ring_rule.specs.Shown.{Slot}
use Rattle.ring_rule.specs.Kept.{row_at, Fits, Kept}
use Rattle.ring_rule.specs.Plays.{slot_of, saw_head, took, gave, went_on, gone, MayTake, SeesAt, TakesAt, GivesAt, AdvancesAt, LeavesAt, noted, met}
use Rattle.ring_rule.proofs.ReaderLanes
use Rattle.ring_rule.proofs.Tables.{reader_is, reader_in_range, reader_ring_is}
use Rattle.ring_rule.proofs.ReaderEvents
use Rattle.ring_rule.proofs.Notes

module _ (g : RingNumbers) (slots id : ℕ) (x : ReaderView) where
  pub sees : (c : List (ℕ × Slot)) → x.left ≡ false → Allows (Kept g) slots id (Reader x, c) 0 (λ n. n) (SeesAt (step slots 0 0 0 none) (Reader x, c))
  sees c joined s k len at fits =
      let n = get_or s.words 0 0 in
      let l = reader_in_range g s id x k at in
      let is : (reader_of g s.views x.number).seen ≡ x.seen = ap (λ (y : ReaderView). y.seen) (reader_is g s id x k at) in
      let known = (k.holds.sound.each x.number l).seen_in in
      let head = k.holds.head_is in
      let ring = reader_ring_is g s id x k at in (
        Reader (saw_head n x),
        keeps,
        tt,
        (ReaderEvents.see_event g s id x k at joined).kept,
        record {
          seat = refl;
          grows = omega arith;
          within = subst (λ (z : RingNumbers). n ≤ z.total) (sym ring) k.holds.sound.head_in;
          told = λ note e.
              let t = ReaderEvents.told_here g s id x k at note e in
              let here = reader_is g s id x k at in
              record {
                head = let a = t.head in omega arith;
                joined = λ f. false≢true (sym joined ∙ (ap (λ (y : ReaderView). y.left) (sym here) ∙ t.left x.number l f));
              };
        },
      )

  pub takes_row : MayTake x → Allows (Kept g) slots id (Reader x, []) (x.number + 1) (λ n. n) (TakesAt (step slots (x.number + 1) 0 0 none) (Reader x, []))
  takes_row may s k len at fits =
      let found = ReaderEvents.take_found g s id x k at may in
      let e = reader_ring_is g s id x k at in (
        Reader (took x),
        takes (slot_of x) (Some found.0),
        found.1,
        ((ReaderEvents.take_opens g s id x k at may).step (Some found.0) found.1).kept,
        record { lane = found.0; seat = refl; number = found.3; row = found.2.row x.taken found.3 ∙ ap (λ (z : RingNumbers). row_at z x.taken) (sym e) },
      )

  pub gives_row : (slot : ℕ) (lane : Lane) → slot ≡ slot_of x → x.out ≡ true → lane.number ≡ Some x.taken → lane.bytes.items ≡ row_at x.ring x.taken
      → Allows (Kept g) slots id (Reader x, (slot, Some lane) ∷ []) (x.number + 1) (λ n. n) (GivesAt (step slots (x.number + 1) 0 0 none) (Reader x, (slot, Some lane) ∷ []))
  gives_row slot lane place out number row s k len at fits =
      let e = reader_ring_is g s id x k at in
      let l = reader_in_range g s id x k at in
      let here = reader_is g s id x k at in
      let f = ReaderLanes.out_here g s.words s.homes (writer_of g s.views) (reader_of g s.views) k.holds k.lanes x here l out in
      let seen : (reader_of g s.views x.number).seen ≡ x.seen = ap (λ (y : ReaderView). y.seen) here in
      let below : x.taken < length g.rows = let a = f.ahead in let b = (k.holds.sound.each x.number l).seen_in in let c = k.holds.sound.head_in in let d = k.lanes.rows_in in omega arith in
      let same : (n : ℕ) → lane.number ≡ Some n → x.taken ≡ n = λ n q. (let y : Some x.taken ≡ Some n = sym number ∙ q in cc) in
      let row_fits : Fits g x.taken lane = record {
        long = ap length row ∙ ((λ i. length (row_at (e i) x.taken)) ∙ k.lanes.even x.taken [] below);
        not_ahead = λ n q. let y = same n q in omega arith;
        row = λ n q. row ∙ (λ i. row_at (e i) (same n q i));
      } in
      let word = x.number + 1 in
      let P : ℕ → Type 0 = λ i. Kept g record { words = set s.words word (get_or s.words word 0); homes = set s.homes i (some (Some lane)); views = set s.views id (Reader (gave x)) } in
      (Reader (gave x), gives, tt, subst P (sym place) (ReaderEvents.give_event g s id x k at lane out number row_fits).kept, refl)

  pub advances : (i n : ℕ) → i ≡ x.number + 1 → n ≡ x.taken + 1 → MayTake x → Allows (Kept g) slots id (Reader x, []) i (λ _. n) (λ _. AdvancesAt (step slots i n 0 none) (Reader x, []) n)
  advances i n p q may s k len at fits =
      let P : ℕ → ℕ → Type 0 = λ a b. Kept g record { words = set s.words a b; homes = s.homes; views = set s.views id (Reader (went_on x)) } in
      (Reader (went_on x), keeps, tt, subst (λ z. z) (λ j. P (sym p j) (sym q j)) (ReaderEvents.advance_event g s id x k at may).kept, refl)

  pub leaves : (i : ℕ) → i ≡ x.number + 1 → x.left ≡ false → x.out ≡ false → Allows (Kept g) slots id (Reader x, []) i (λ _. left_word) (λ _. LeavesAt (step slots i left_word 0 none) (Reader x, []) left_word)
  leaves i p joined home s k len at fits =
      let P : ℕ → Type 0 = λ a. Kept g record { words = set s.words a left_word; homes = s.homes; views = set s.views id (Reader (gone x)) } in
      (Reader (gone x), keeps, tt, subst P (sym p) (ReaderEvents.leave_event g s id x k at joined home).kept, refl)

  pub notes : Splits (Kept g) id (Reader x) (Reader x) (noted (Reader x))
  notes s k at = (Notes.cursor_note_same g s id x k at).kept

  pub meets : (other : ℕ) (n : HeadNoteView) → Joins (Kept g) id (Reader x) other (HeadNote n) (met (Reader x) (HeadNote n)) Spent
  meets other n s k at apart there = (Notes.meet_head_same g s id other x n k at (sym (set_else s.views id other (met (Reader x) (HeadNote n)) apart) ∙ there)).kept
