-- The table's initial state satisfies the rule and shows the core's initial schedule.
use Rattle.std.proofs.Common.{◌≡◌, ◌≢◌, ℕ, zero, suc, ◌+◌, ◌<◌, ◌≤◌, false, List, [], ◌∷◌, map, length, replicate, get_or, sym, refl, ap, ◌∙◌, subst, arith}
use Rattle.std.specs.Prelude.{Some, None}
use Rattle.std.proofs.lemmas.List.{get_or-replicate, length-replicate, length-map, get_or-map}
use mathlib.Core.Option.{none, some, some-injective, some-ne-none}
use lib.ListN.{get_elem?}
use Rattle.atomic_table.specs.Table.{opening}
use Rattle.ring_core.specs.declared.event.Stage.TheVariants.{Idle}
use Rattle.ring_core.specs.Schedule.{lane_place}
use Rattle.ring_core.specs.Sound.{IsSoundProgress, IsSoundLanes}
use Rattle.ring_core.specs.Plain.{schedule_of}
use Rattle.ring_core.proofs.Made.{made_same, start_made}
use Rattle.ring_core.proofs.Readers.{fresh_progress, fresh_lanes, lane_in}
use Rattle.ring_core.proofs.Whole.{fresh_progress_sound, fresh_lanes_sound}
use Rattle.ring_rule.specs.declared.lane.Lane.{Lane}
use Rattle.ring_rule.specs.declared.view.RingNumbers.{RingNumbers}
use Rattle.ring_rule.specs.declared.view.View.{View}
use Rattle.ring_rule.specs.declared.view.View.TheVariants.{Writer, Reader, HeadNote, CursorNote}
use Rattle.ring_rule.specs.Views.{cursor_in, new_writer, new_reader}
use Rattle.ring_rule.specs.Shown.{Slot, Homes, home_at, number_in, head_shown, shown, counted, row_shown, lanes_known}
use Rattle.ring_rule.specs.Kept.{Alone, Kept}
use Rattle.ring_rule.specs.Laws.{IsFirst, StartsAt}
use Rattle.ring_rule.proofs.Schedules.{table_shows}

module _ (g : RingNumbers) (slots : List Slot) (f : IsFirst g slots) where
  abbrev words : List ℕ
  words = replicate (g.readers + 1) 0

  word_zero : (i : ℕ) → i < g.readers + 1 → get_or words i 0 ≡ 0
  word_zero i l = get_or-replicate {A = ℕ} (g.readers + 1) i 0 0 l

  abbrev homes : Homes
  homes = map some slots

  -- each slot holds an empty lane
  home_is : (r n : ℕ) → r < g.readers → (lane : Lane) × (home_at homes (lane_place g.places r n) ≡ some (Some lane)) × (lane.number ≡ None) × (length lane.bytes.items ≡ g.row_len)
  home_is r n l =
      let i = lane_place g.places r n in
      let here : i < length slots = let a = lane_in g.places g.readers r n f.places l in let d = f.deep in omega arith in
      let e = f.empty i None here in
      (e.lane, get_or-map some slots i None none here ∙ ap some e.is, e.number, e.long)

  fresh_shown : (r : ℕ) → r < g.readers → shown words (new_writer g) (new_reader g) r ≡ fresh_progress
  fresh_shown r l =
      let a = get_or-replicate {A = ℕ} g.readers r 0 0 l in
      let b = word_zero (r + 1) (omega arith) in
      λ i. record { known = cursor_in (a i); cursor = cursor_in (b i); seen = 0; taken = [] }

  fresh_known : (r : ℕ) → r < g.readers → lanes_known g.places words homes (new_writer g) (new_reader g) r ≡ fresh_lanes
  fresh_known r l =
      let filled = get_or-replicate g.readers r false false l in
      let number : (n : ℕ) → number_in (home_at homes (lane_place g.places r n)) ≡ None = λ n. let h = home_is r n l in ap number_in h.1 ∙ h.2 in
      let row : (n : ℕ) → row_shown g.places words homes r n ≡ None = λ n. (λ i. counted (head_shown words) (cursor_in (word_zero (r + 1) (omega arith) i)) (number n i)) in
      λ i. record { filled = filled i; stage = Idle; row = λ n. row n i }

  only_view : Alone (Writer (new_writer g) ∷ [])
  only_view zero zero a u v p q s t = refl
  only_view zero (suc j) a u v p q s t = absurd (some-ne-none v (sym q))
  only_view (suc i) j a u v p q s t = absurd (some-ne-none u (sym p))

  other_view : (i : ℕ) (v : View) → Writer (new_writer g) ≢ v → get_elem? (Writer (new_writer g) ∷ []) i ≡ some v → ⊥
  other_view zero v n e = n (some-injective (Writer (new_writer g)) v e)
  other_view (suc i) v n e = some-ne-none v (sym e)

  pub first_kept : Kept g (opening words slots (Writer (new_writer g)))
  first_kept =
      let head : head_shown words ≡ 0 = word_zero 0 (omega arith) in
      record {
        alone = only_view;
        made = λ i x e. absurd (other_view i (Reader x) (λ q. cc) e);
        head_notes = λ i n e. absurd (other_view i (HeadNote n) (λ q. cc) e);
        cursor_notes = λ i n e. absurd (other_view i (CursorNote n) (λ q. cc) e);
        holds = record {
          total_in = f.total;
          words_in = length-replicate {A = ℕ} (g.readers + 1) 0;
          writer_ring = refl;
          reader_ring = λ r l. refl;
          number_is = λ r l. refl;
          made_in = omega arith;
          taken_in = λ r l. omega arith;
          known_in = length-replicate {A = ℕ} g.readers 0;
          loads_in = length-replicate {A = ℕ} g.readers 0;
          head_is = head;
          cursor_is = λ r l. word_zero (r + 1) (omega arith);
          sound = record {
            some_place = f.places;
            head_in = subst (λ n. n ≤ g.total) (sym head) (omega arith);
            each = λ r l. subst (λ x. x) (λ i. IsSoundProgress g.places (sym head i) (sym (fresh_shown r l) i)) (fresh_progress_sound g.places);
          };
        };
        lanes = record {
          rows_in = f.rows_in;
          even = f.even;
          deep = length-map slots some ∙ f.deep;
          filled_in = length-replicate g.readers false;
          hand_fits = λ r e. cc;
          out_fits = λ r l e. cc;
          lane_is = λ r n l. let h = home_is r n l in (h.0, h.1, record { long = h.3; not_ahead = λ q e. let x : None ≡ Some q = sym h.2 ∙ e in cc; row = λ q e. let x : None ≡ Some q = sym h.2 ∙ e in cc });
          sound = λ r l. subst (λ x. x) (λ i. IsSoundLanes g.places g.total (sym head i) (sym (fresh_shown r l) i) (sym (fresh_known r l) i)) (fresh_lanes_sound g.places g.total);
        };
        told = record { writer_told = λ n e. cc; reader_told = λ r n l e. cc };
      }

  pub first_shows : StartsAt g (opening words slots (Writer (new_writer g)))
  first_shows = record {
    kept = first_kept;
    shows =
        let head : head_shown words ≡ 0 = word_zero 0 (omega arith) in
        table_shows g (opening words slots (Writer (new_writer g))) (new_writer g) (new_reader g) first_kept refl refl
        ∙ ((λ i. schedule_of g.places g.total (head i) g.readers (shown words (new_writer g) (new_reader g)) (lanes_known g.places words homes (new_writer g) (new_reader g)))
        ∙ (made_same g.places g.total 0 g.readers (shown words (new_writer g) (new_reader g)) (λ _. fresh_progress) (lanes_known g.places words homes (new_writer g) (new_reader g)) (λ _. fresh_lanes) f.places fresh_shown fresh_known
        ∙ start_made g.places g.total g.readers));
  }

-- the initial state, with the words as given
pub first_of_words : (g : RingNumbers) (words : List ℕ) (slots : List Slot) → words ≡ replicate (g.readers + 1) 0 → IsFirst g slots → Kept g (opening words slots (Writer (new_writer g)))
first_of_words g words slots e f = subst (λ ws. Kept g (opening ws slots (Writer (new_writer g)))) (sym e) (first_kept g slots f)
