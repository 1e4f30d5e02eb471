-- Each event, and every list of events, takes a sound schedule to a sound schedule.
use Rattle.std.proofs.Common.{◌≡◌, ℕ, zero, suc, ◌+◌, ◌*◌, ◌%◌, ◌<◌, ◌≢◌, Bool, true, false, cond, ◌&&◌, List, [], ◌∷◌, length, replicate, inl, inr, ap, sym, ◌∙◌, refl, subst, arith}
use Rattle.std.specs.Prelude.{Option, Some, None, is_some, unwrap_or, nat_lt}
use Rattle.std.proofs.lemmas.Bool.{and_parts, and_from, and_left, and_right, ltb-true, cases_eq, cases_lt, cases_Bool, false≢true}
use Rattle.std.proofs.lemmas.List.{length-replicate}
use Rattle.ring_core.specs.declared.event.Stage.TheVariants.{Idle}
use Rattle.ring_core.specs.declared.event.Event.{Event}
use Rattle.ring_core.specs.declared.event.Event.TheVariants.{Look, Fill, Publish, See, Open, Close, Advance, Leave}
use Rattle.ring_core.specs.Schedule.{Schedule, readers, Progress, Lanes, progress_of, lanes_of, start}
use Rattle.ring_core.specs.Events.{each_below, can_fill, is_ready, can_open, can_close, can_advance, can_leave, can_be, after, step, run, cursor_at, is_below, is_idle}
use Rattle.ring_core.proofs.Changes.{looked, saw, advanced, departed, filled_with, opened, closed, settled}
use Rattle.ring_core.specs.Sound.{IsSized, IsSoundProgress, IsSoundLanes, IsSoundWords, IsSound}
use Rattle.ring_core.specs.Laws.{WasClosed}
use Rattle.ring_core.proofs.Places.{one_turn}
use Rattle.ring_core.proofs.Keeps.{some_is, below_is, fill_room, look_progress, look_lanes, fill_lanes, publish_progress, publish_lanes, ready_room, see_progress, see_lanes, open_lanes, close_lanes, advance_progress, advance_lanes, advance_ahead, leave_progress, leave_lanes}
use Rattle.ring_core.proofs.Readers
use Rattle.ring_core.proofs.Sizes.{after_count, after_sized}
use Rattle.ring_core.proofs.Made.{made_sound}

-- what holds for one number below n and for all others holds for each
pub each_by : (n r : ℕ) (P : ℕ → Type 0) → P r → ((q : ℕ) → q < n → q ≢ r → P q) → (q : ℕ) → q < n → P q
each_by n r P here else q h = elim (cases_eq q r) [ inl e ↦ subst P (sym e) here | inr e ↦ else q h e ]

pub each_below_is : (n : ℕ) (p : ℕ → Bool) → each_below n p ≡ true → (k : ℕ) → k < n → p k ≡ true
each_below_is zero p e k h = absurd (omega arith)
each_below_is (suc n) p e k h =
    let parts = and_parts (each_below n p) (p n) e in
    elim (cases_lt k n) [
      | inl below ↦ each_below_is n p parts.0 k below
      | inr above ↦ let at : n ≡ k = omega arith in subst (λ j. p j ≡ true) at parts.1
    ]

-- a possible event of a reader: its number is below the number of readers, and its own condition holds
event_parts : (n r : ℕ) (can : Bool) → (nat_lt r n && can) ≡ true → (r < n) × (can ≡ true)
event_parts n r can e = let x = and_parts (nat_lt r n) can e in (ltb-true r n x.0, x.1)

-- the cursor of a reader that has not left
cursor_is : (s : Schedule) (r : ℕ) → is_some (progress_of s r).cursor ≡ true
    → (progress_of s r).cursor ≡ Some (cursor_at s r)
cursor_is s r e = let x = some_is (progress_of s r).cursor e in x.1 ∙ ap Some (sym (ap (λ o. unwrap_or o 0) x.1))

abbrev SoundLanes : Schedule → Progress → Lanes → Type 0
SoundLanes s p l = IsSoundLanes s.places s.total s.head p l

-- only one reader's progress changed
words_by : (s : Schedule) (r : ℕ) (p : ℕ → Progress) → IsSound s → IsSoundProgress s.places s.head (p r)
    → ((q : ℕ) → q ≢ r → p q ≡ progress_of s q)
    → IsSoundWords s.places s.total s.head (readers s) p
words_by s r p h here else = record {
  some_place = h.words.some_place;
  head_in = h.words.head_in;
  each = each_by (readers s) r (λ q. IsSoundProgress s.places s.head (p q)) here (λ q l n. subst (λ x. IsSoundProgress s.places s.head x) (sym (else q n)) (h.words.each q l));
}

-- only one reader's lanes changed, or the values that they are compared with
lanes_by : (s : Schedule) (r : ℕ) (p : ℕ → Progress) (l : ℕ → Lanes) → IsSound s → SoundLanes s (p r) (l r)
    → ((q : ℕ) → q ≢ r → p q ≡ progress_of s q) → ((q : ℕ) → q ≢ r → l q ≡ lanes_of s q)
    → (q : ℕ) → q < readers s → SoundLanes s (p q) (l q)
lanes_by s r p l h here same still = each_by (readers s) r (λ q. SoundLanes s (p q) (l q)) here
    (λ q k n. subst (λ x. SoundLanes s x (l q)) (sym (same q n)) (subst (λ x. SoundLanes s (progress_of s q) x) (sym (still q n)) (h.lanes q k)))

-- only reader r's part changed: its progress is now p, and its lanes are l
sound_by : (s t : Schedule) (r : ℕ) (p : Progress) (l : Lanes) → IsSound s → IsSized t → t.places ≡ s.places
    → t.total ≡ s.total → t.head ≡ s.head → readers t ≡ readers s
    → progress_of t r ≡ p → ((q : ℕ) → q ≢ r → progress_of t q ≡ progress_of s q) → lanes_of t r ≡ l
    → ((q : ℕ) → q ≢ r → lanes_of t q ≡ lanes_of s q)
    → IsSoundProgress s.places s.head p → SoundLanes s p l → IsSound t
sound_by s t r p l h z places total head count here same there still good lies =
    let some = subst (λ k. 0 < k) (sym places) h.words.some_place in
    made_sound t s.places s.total s.head (readers s) (progress_of t) (lanes_of t)
    (record {
      numbers = record { places_is = places; total_is = total; head_is = head; some_place = some; count = count; sized = z };
      progress = λ q i. refl;
      lanes = λ q i. refl;
    })
    (words_by s r (progress_of t) h (subst (λ x. IsSoundProgress s.places s.head x) (sym here) good) same)
    (lanes_by s r (progress_of t) (lanes_of t) h (subst (λ x. x) (λ j. SoundLanes s (sym here j) (sym there j)) lies) same still)

pub look_sound : (s : Schedule) (r : ℕ) → IsSound s → can_be s (Look r) ≡ true → IsSound (after s (Look r))
look_sound s r h can =
    let i : r < readers s = ltb-true r (readers s) can in
    let p = progress_of s r in
    sound_by s (after s (Look r)) r (looked p) (lanes_of s r) h (after_sized s (Look r) h.sized) refl refl refl refl
    (Readers.look_shows s r h.sized i) (Readers.look_else s r) refl (λ q n. refl)
    (look_progress s.places s.head p (h.words.each r i)) (look_lanes s.places s.total s.head p (lanes_of s r) (h.words.each r i) (h.lanes r i))

pub fill_sound : (s : Schedule) (r : ℕ) → IsSound s → can_be s (Fill r) ≡ true → IsSound (after s (Fill r))
fill_sound s r h can =
    let p = progress_of s r in
    let l = lanes_of s r in
    let x = event_parts (readers s) r (can_fill s.places s.total s.head p l) can in
    let some = h.words.some_place in
    sound_by s (after s (Fill r)) r p (filled_with s.places s.head l) h (after_sized s (Fill r) h.sized) refl refl refl refl
    refl (λ q n. refl) (Readers.fill_shows s r h.sized some x.0) (λ q. Readers.fill_else s r q some)
    (h.words.each r x.0) (fill_lanes s.places s.total s.head p l x.1 (h.words.each r x.0) (h.lanes r x.0))

pub publish_sound : (s : Schedule) → IsSound s → can_be s Publish ≡ true → IsSound (after s Publish)
publish_sound s h can =
    let x = and_parts (nat_lt s.head s.total) (each_below (readers s) (λ r. is_ready (progress_of s r) (lanes_of s r))) can in
    let ready = each_below_is (readers s) (λ r. is_ready (progress_of s r) (lanes_of s r)) x.1 in
    let lt : s.head < s.total = ltb-true s.head s.total x.0 in
    record {
      sized = after_sized s Publish h.sized;
      words = record {
        some_place = h.words.some_place;
        head_in = omega arith;
        each = λ q l. publish_progress s.places s.head (progress_of s q) (ready_room s.places s.total s.head (progress_of s q) (lanes_of s q) (ready q l) (h.lanes q l)) (h.words.each q l);
      };
      lanes = λ q l.
          subst (λ y. IsSoundLanes s.places s.total (s.head + 1) (progress_of s q) y) (sym (Readers.publish_shows s q h.sized l))
          (publish_lanes s.places s.total s.head (progress_of s q) (lanes_of s q) (ready q l) (h.words.each q l) (h.lanes q l));
    }

pub see_sound : (s : Schedule) (r : ℕ) → IsSound s → can_be s (See r) ≡ true → IsSound (after s (See r))
see_sound s r h can =
    let p = progress_of s r in
    let x = event_parts (readers s) r (is_some p.cursor) can in
    sound_by s (after s (See r)) r (saw s.head p) (lanes_of s r) h (after_sized s (See r) h.sized) refl refl refl refl
    (Readers.see_shows s r h.sized x.0) (Readers.see_else s r) refl (λ q n. refl)
    (see_progress s.places s.head p (h.words.each r x.0)) (see_lanes s.places s.total s.head p (lanes_of s r) (h.words.each r x.0) (h.lanes r x.0))

pub open_sound : (s : Schedule) (r : ℕ) → IsSound s → can_be s (Open r) ≡ true → IsSound (after s (Open r))
open_sound s r h can =
    let p = progress_of s r in
    let l = lanes_of s r in
    let x = event_parts (readers s) r (can_open p l) can in
    let b = below_is p.seen p.cursor (and_parts (is_below p.seen p.cursor) (is_idle l.stage) x.1).0 in
    let at : p.cursor ≡ Some (cursor_at s r) = b.1 ∙ ap Some (sym (ap (λ o. unwrap_or o 0) b.1)) in
    let some = h.words.some_place in
    sound_by s (after s (Open r)) r p (opened s.places (cursor_at s r) l) h (after_sized s (Open r) h.sized) refl refl refl refl
    refl (λ q n. refl) (Readers.open_shows s r h.sized some x.0) (λ q. Readers.open_else s r q some)
    (h.words.each r x.0) (open_lanes s.places s.total s.head p l (cursor_at s r) at x.1 (h.words.each r x.0) (h.lanes r x.0))

pub close_sound : (s : Schedule) (r : ℕ) → IsSound s → can_be s (Close r) ≡ true → IsSound (after s (Close r))
close_sound s r h can =
    let p = progress_of s r in
    let l = lanes_of s r in
    let x = event_parts (readers s) r (can_close p l) can in
    let at = cursor_is s r (and_parts (is_some p.cursor) _ x.1).0 in
    let some = h.words.some_place in
    sound_by s (after s (Close r)) r p (closed s.places (cursor_at s r) l) h (after_sized s (Close r) h.sized) refl refl refl refl
    refl (λ q n. refl) (Readers.close_shows s r h.sized some x.0) (λ q. Readers.close_else s r q some)
    (h.words.each r x.0) (close_lanes s.places s.total s.head p l (cursor_at s r) at x.1 (h.words.each r x.0) (h.lanes r x.0))

pub advance_sound : (s : Schedule) (r : ℕ) → IsSound s → can_be s (Advance r) ≡ true
    → IsSound (after s (Advance r))
advance_sound s r h can =
    let p = progress_of s r in
    let l = lanes_of s r in
    let c = cursor_at s r in
    let x = event_parts (readers s) r (can_advance p l) can in
    let at = cursor_is s r (and_parts (is_some p.cursor) _ x.1).0 in
    let ahead = advance_ahead s.places s.total s.head p l c at x.1 (h.lanes r x.0) in
    sound_by s (after s (Advance r)) r (advanced c p) (settled l) h (after_sized s (Advance r) h.sized) refl refl refl (after_count s (Advance r))
    (Readers.advance_shows s r h.sized x.0) (Readers.advance_else s r) (Readers.advance_settles s r h.sized x.0) (Readers.advance_leaves s r)
    (advance_progress s.places s.head p c at ahead (h.words.each r x.0)) (advance_lanes s.places s.total s.head p l c at x.1 (h.lanes r x.0))

pub leave_sound : (s : Schedule) (r : ℕ) → IsSound s → can_be s (Leave r) ≡ true → IsSound (after s (Leave r))
leave_sound s r h can =
    let p = progress_of s r in
    let l = lanes_of s r in
    let x = event_parts (readers s) r (can_leave p l) can in
    sound_by s (after s (Leave r)) r (departed p) l h (after_sized s (Leave r) h.sized) refl refl refl (after_count s (Leave r))
    (Readers.leave_shows s r x.0) (Readers.leave_else s r) refl (λ q n. refl)
    (leave_progress s.places s.head p (cursor_at s r) (cursor_is s r (and_parts (is_some p.cursor) _ x.1).0) (h.words.each r x.0)) (leave_lanes s.places s.total s.head p l x.1 (h.lanes r x.0))

pub event_sound : (s : Schedule) (e : Event) → IsSound s → can_be s e ≡ true → IsSound (after s e)
event_sound s (Look r) h can = look_sound s r h can
event_sound s (Fill r) h can = fill_sound s r h can
event_sound s Publish h can = publish_sound s h can
event_sound s (See r) h can = see_sound s r h can
event_sound s (Open r) h can = open_sound s r h can
event_sound s (Close r) h can = close_sound s r h can
event_sound s (Advance r) h can = advance_sound s r h can
event_sound s (Leave r) h can = leave_sound s r h can

pub step_sound : (s : Schedule) (e : Event) → IsSound s → IsSound (step s e)
step_sound s e h = elim (cases_Bool (can_be s e)) [
  | inl can ↦ subst (λ b. IsSound (cond b (after s e) s)) (sym can) (event_sound s e h can)
  | inr can ↦ subst (λ b. IsSound (cond b (after s e) s)) (sym can) h
]

pub run_sound : (s : Schedule) (es : List Event) → IsSound s → IsSound (run s es)
run_sound s [] h = h
run_sound s (e ∷ es) h = run_sound (step s e) es (step_sound s e h)

pub fresh_progress_sound : (places : ℕ) → IsSoundProgress places 0 Readers.fresh_progress
fresh_progress_sound places = record {
  in_order = λ i h. absurd (omega arith);
  counted = λ c e. let same : 0 ≡ c = cc in same;
  seen_in = omega arith;
  seen_ahead = λ c e. let same : 0 ≡ c = cc in omega arith;
  joined_known = λ c e. (0, refl, omega arith);
  left_known = λ e k f. cc;
  within = λ k e. omega arith;
}

pub fresh_lanes_sound : (places total : ℕ)
    → IsSoundLanes places total 0 Readers.fresh_progress Readers.fresh_lanes
fresh_lanes_sound places total = record {
  holding_ahead = λ c e s. cc;
  closed_ahead = λ c e s. cc;
  left_idle = λ e. refl;
  room = λ k e f. absurd (false≢true f);
  lies = λ c n e low high held. absurd (omega arith);
  out = λ c e s. cc;
  rows = record {
    placed = λ q n e. cc;
    not_ahead = λ q n e. cc;
    newest = λ q e. cc;
    in_total = λ f. absurd (false≢true f);
    fresh = λ f. absurd (false≢true f);
  };
}

pub start_sound : (places n total : ℕ) → 0 < places → IsSound (start places n total)
start_sound places n total some =
    let first : Option ℕ = Some 0 in
    let count : length (replicate n first) ≡ n = length-replicate n first in
    record {
      sized = record {
        filled = length-replicate n false ∙ sym count;
        known = refl;
        seen = length-replicate {A = ℕ} n 0 ∙ sym count;
        stage = length-replicate n Idle ∙ sym count;
        lane = length-replicate {A = Option ℕ} (n * places) None ∙ ap (λ k. k * places) (sym count);
        taken = length-replicate {A = List ℕ} n [] ∙ sym count;
      };
      words = record {
        some_place = some;
        head_in = omega arith;
        each = λ r h. subst (λ p. IsSoundProgress places 0 p) (sym (Readers.start_progress places n total r (subst (λ k. r < k) count h))) (fresh_progress_sound places);
      };
      lanes = λ r h.
          subst (λ p. IsSoundLanes places total 0 p (lanes_of (start places n total) r)) (sym (Readers.start_progress places n total r (subst (λ k. r < k) count h)))
          (subst (λ l. IsSoundLanes places total 0 Readers.fresh_progress l) (sym (Readers.start_lanes places n total r some (subst (λ k. r < k) count h))) (fresh_lanes_sound places total));
    }

-- when a lane may be filled, its reader has closed every earlier row of that place
pub fills_closed : (s : Schedule) (r c : ℕ) → IsSound s → can_be s (Fill r) ≡ true
    → (progress_of s r).cursor ≡ Some c → WasClosed s r c
fills_closed s r c h can at =
    let p = progress_of s r in
    let l = lanes_of s r in
    let x = event_parts (readers s) r (can_fill s.places s.total s.head p l) can in
    let room = fill_room s.places s.total s.head p l x.1 in
    let j = (h.words.each r x.0).joined_known c at in
    let same : j.0 ≡ room.from = cc (j.1, room.known) in
    let m = h.lanes r x.0 in
    let older : (n : ℕ) → n < s.head → n % s.places ≡ s.head % s.places → n < c = λ n below e. elim (cases_lt n c) [
      | inl yes' ↦ yes'
      | inr above ↦ let all : n ≡ s.head = one_turn s.places n s.head (omega arith) (omega (arith, room.room)) e in absurd (omega arith)
    ] in
    record {
      published = older;
      lying = λ n e. elim (cases_eq n s.head) [
        | inl is ↦ absurd (false≢true (sym room.empty ∙ m.rows.newest s.head (e ∙ ap Some is)))
        | inr other ↦ older n (omega (arith, m.rows.not_ahead s.head n e)) (sym (m.rows.placed s.head n e))
      ];
    }

pub each_below_yes : (n : ℕ) (p : ℕ → Bool) → ((k : ℕ) → k < n → p k ≡ true) → each_below n p ≡ true
each_below_yes zero p h = refl
each_below_yes (suc n) p h = and_from (each_below n p) (p n) (each_below_yes n p (λ k l. h k (omega arith))) (h n (omega arith))

pub each_below_no : (n : ℕ) (p : ℕ → Bool) (k : ℕ) → k < n → p k ≡ false → each_below n p ≡ false
each_below_no zero p k h e = absurd (omega arith)
each_below_no (suc n) p k h e = elim (cases_lt k n) [
  | inl below ↦ and_left (each_below n p) (p n) (each_below_no n p k below e)
  | inr above ↦ let at : k ≡ n = omega arith in and_right (each_below n p) (p n) (subst (λ j. p j ≡ false) at e)
]
