-- Each event keeps a reader's progress and lanes sound. One lemma per event and half; a half that the event
-- does not change needs no lemma. All are over plain values, without lists.
use Rattle.std.proofs.Common.{◌≡◌, ℕ, ◌+◌, ◌%◌, ◌<◌, ◌≤◌, ◌≢◌, Bool, true, false, not, ◌&&◌, ◌||◌, List, [], ◌∷◌, ◌++◌, length, get_or, inl, inr, ap, sym, ◌∙◌, refl, arith, length-append}
use Rattle.std.specs.Prelude.{Option, Some, None, is_some, is_none, option_map, nat_lt}
use Rattle.std.proofs.lemmas.Bool.{and_parts, ltb-true, cases_eq, cases_lt, not-true, false≢true}
use Rattle.std.proofs.lemmas.List.{get_or_append_left, get_or_push}
use Rattle.ring_core.specs.declared.event.Stage.{Stage}
use Rattle.ring_core.specs.declared.event.Stage.TheVariants.{Idle, Holding, Closed}
use Rattle.ring_core.specs.Schedule.{Progress, Lanes}
use Rattle.ring_core.specs.Events.{is_idle, is_holding, is_closed, is_above, is_below, can_fill, is_ready, can_open, can_close, can_advance, can_leave}
use Rattle.ring_core.proofs.Changes.{put_row, looked, saw, advanced, departed, filled_with, unfilled, opened, closed, settled}
use Rattle.ring_core.specs.Sound.{IsSoundProgress, IsSoundLanes}
use Rattle.ring_core.proofs.Places.{apart, put_same, put_other, put_gives}

-- What the tests of the stage mean.

pub idle_is : (s : Stage) → is_idle s ≡ true → s ≡ Idle
idle_is Idle e = refl
idle_is Holding e = cc
idle_is Closed e = cc

pub holding_is : (s : Stage) → is_holding s ≡ true → s ≡ Holding
holding_is Idle e = cc
holding_is Holding e = refl
holding_is Closed e = cc

pub closed_is : (s : Stage) → is_closed s ≡ true → s ≡ Closed
closed_is Idle e = cc
closed_is Holding e = cc
closed_is Closed e = refl

pub some_is : (o : Option ℕ) → is_some o ≡ true → (c : ℕ) × (o ≡ Some c)
some_is None e = absurd (false≢true e)
some_is (Some c) e = (c, refl)

-- the cursor that the writer knows leaves room for row head
pub record HasRoom (places total head : ℕ) (p : Progress) (l : Lanes) : Type 0 where
  pub from : ℕ
  pub known : p.known ≡ Some from
  pub room : head < from + places
  pub in_total : head < total
  pub empty : l.filled ≡ false

above_is : (low places : ℕ) (o : Option ℕ) → is_above low (option_map (λ k. k + places) o) ≡ true
    → (k : ℕ) × (o ≡ Some k) × (low < k + places)
above_is low places None e = absurd (false≢true e)
above_is low places (Some k) e = (k, refl, ltb-true low (k + places) e)

pub below_is : (high : ℕ) (o : Option ℕ) → is_below high o ≡ true → (c : ℕ) × (o ≡ Some c) × (c < high)
below_is high None e = absurd (false≢true e)
below_is high (Some c) e = (c, refl, ltb-true c high e)

pub fill_room : (places total head : ℕ) (p : Progress) (l : Lanes) → can_fill places total head p l ≡ true
    → HasRoom places total head p l
fill_room places total head p l e =
    let parts = and_parts (is_above head (option_map (λ k. k + places) p.known)) (nat_lt head total && not l.filled) e in
    let rest = and_parts (nat_lt head total) (not l.filled) parts.1 in
    let k = above_is head places p.known parts.0 in
    record { from = k.0; known = k.1; room = k.2; in_total = ltb-true head total rest.0; empty = not-true l.filled rest.1 }

-- Look

pub look_progress : (places head : ℕ) (p : Progress) → IsSoundProgress places head p
    → IsSoundProgress places head (looked p)
look_progress places head p h = record {
  in_order = h.in_order;
  counted = h.counted;
  seen_in = h.seen_in;
  seen_ahead = h.seen_ahead;
  joined_known = λ c e. (c, e, omega arith);
  left_known = λ left k e. cc;
  within = λ k e. let j = h.joined_known k e in omega (arith, h.within j.0 j.1);
}

pub look_lanes : (places total head : ℕ) (p : Progress) (l : Lanes) → IsSoundProgress places head p
    → IsSoundLanes places total head p l → IsSoundLanes places total head (looked p) l
look_lanes places total head p l h m = record {
  holding_ahead = m.holding_ahead;
  closed_ahead = m.closed_ahead;
  left_idle = m.left_idle;
  room = λ k e f. let j = h.joined_known k e in omega (arith, m.room j.0 j.1 f);
  lies = m.lies;
  out = m.out;
  rows = m.rows;
}

-- Fill

pub fill_lanes : (places total head : ℕ) (p : Progress) (l : Lanes) → can_fill places total head p l ≡ true
    → IsSoundProgress places head p → IsSoundLanes places total head p l
    → IsSoundLanes places total head p (filled_with places head l)
fill_lanes places total head p l can h m =
    let x = fill_room places total head p l can in
    let near : (c : ℕ) → p.cursor ≡ Some c → head < c + places = λ c e. (
    let j = h.joined_known c e in
    let same : j.0 ≡ x.from = cc (j.1, x.known) in
    omega (arith, x.room)) in
    record {
      holding_ahead = m.holding_ahead;
      closed_ahead = m.closed_ahead;
      left_idle = m.left_idle;
      room = λ k e f. let same : k ≡ x.from = cc (x.known) in omega (arith, x.room);
      lies = λ c n e low high held.
          put_other places head (Some head) l.row n (apart places n head high (omega (arith, near c e))) ∙ m.lies c n e low high held;
      out = λ c e held.
          put_other places head (Some head) l.row c (apart places c head (omega (arith, m.holding_ahead c e held, h.seen_in)) (near c e)) ∙ m.out c e held;
      rows = record {
        placed = λ q n. put_gives places head n (Some head) l.row (λ q. q % places ≡ n % places) (λ q s e. let same : head ≡ n = cc in s ∙ ap (λ k. k % places) same) (λ q. m.rows.placed q n) q;
        not_ahead = λ q n. put_gives places head n (Some head) l.row (λ q. n ≤ head) (λ q s e. let same : head ≡ n = cc in omega arith) (λ q. m.rows.not_ahead q n) q;
        newest = λ q e. refl;
        in_total = λ f. x.in_total;
        fresh = λ f. put_same places head (Some head) l.row head refl;
      };
    }

-- Publish. The first half needs only room, which a filled lane implies

pub publish_progress : (places head : ℕ) (p : Progress) → ((k : ℕ) → p.known ≡ Some k → head < k + places)
    → IsSoundProgress places head p → IsSoundProgress places (head + 1) p
publish_progress places head p room h = record {
  in_order = h.in_order;
  counted = h.counted;
  seen_in = omega (arith, h.seen_in);
  seen_ahead = h.seen_ahead;
  joined_known = h.joined_known;
  left_known = h.left_known;
  within = λ k e. omega (arith, room k e);
}

ready_filled : (k : ℕ) (o : Option ℕ) (f : Bool) → o ≡ Some k → (is_none o || f) ≡ true → f ≡ true
ready_filled k None f e r = cc
ready_filled k (Some j) f e r = r

pub ready_room : (places total head : ℕ) (p : Progress) (l : Lanes) → is_ready p l ≡ true
    → IsSoundLanes places total head p l → (k : ℕ) → p.known ≡ Some k → head < k + places
ready_room places total head p l ready m k e = m.room k e (ready_filled k p.known l.filled e ready)

pub publish_lanes : (places total head : ℕ) (p : Progress) (l : Lanes) → is_ready p l ≡ true
    → IsSoundProgress places head p → IsSoundLanes places total head p l
    → IsSoundLanes places total (head + 1) p (unfilled l)
publish_lanes places total head p l ready h m = record {
  holding_ahead = m.holding_ahead;
  closed_ahead = m.closed_ahead;
  left_idle = m.left_idle;
  room = λ k e f. absurd (false≢true f);
  lies = λ c n e low high held. elim (cases_lt n head) [
    | inl below ↦ m.lies c n e low below held
    | inr above ↦
        let at : head ≡ n = omega arith in
        let j = h.joined_known c e in
        let full = m.rows.fresh (ready_filled j.0 p.known l.filled j.1 ready) in
        ap l.row (sym at) ∙ (full ∙ ap Some at)
  ];
  out = m.out;
  rows = record {
    placed = m.rows.placed;
    not_ahead = λ q n e. omega (arith, m.rows.not_ahead q n e);
    newest = λ q e. absurd (omega (arith, m.rows.not_ahead q (head + 1) e));
    in_total = λ f. absurd (false≢true f);
    fresh = λ f. absurd (false≢true f);
  };
}

-- See

pub see_progress : (places head : ℕ) (p : Progress) → IsSoundProgress places head p
    → IsSoundProgress places head (saw head p)
see_progress places head p h = record {
  in_order = h.in_order;
  counted = h.counted;
  seen_in = omega arith;
  seen_ahead = λ c e. omega (arith, h.seen_ahead c e, h.seen_in);
  joined_known = h.joined_known;
  left_known = h.left_known;
  within = h.within;
}

pub see_lanes : (places total head : ℕ) (p : Progress) (l : Lanes) → IsSoundProgress places head p
    → IsSoundLanes places total head p l → IsSoundLanes places total head (saw head p) l
see_lanes places total head p l h m = record {
  holding_ahead = λ c e s. omega (arith, m.holding_ahead c e s, h.seen_in);
  closed_ahead = λ c e s. omega (arith, m.closed_ahead c e s, h.seen_in);
  left_idle = m.left_idle;
  room = m.room;
  lies = m.lies;
  out = m.out;
  rows = m.rows;
}

-- Open and close, at the cursor c

-- the position of the cursor, and which rows are within one turn (places rows) of it
near : (places head : ℕ) (p : Progress) (c : ℕ) → p.cursor ≡ Some c → IsSoundProgress places head p
    → head ≤ c + places
near places head p c e h = let j = h.joined_known c e in omega (arith, h.within j.0 j.1)

near_filled : (places total head : ℕ) (p : Progress) (l : Lanes) (c : ℕ) → p.cursor ≡ Some c
    → IsSoundProgress places head p → IsSoundLanes places total head p l → l.filled ≡ true → head < c + places
near_filled places total head p l c e h m f = let j = h.joined_known c e in omega (arith, m.room j.0 j.1 f)

pub open_lanes : (places total head : ℕ) (p : Progress) (l : Lanes) (c : ℕ) → p.cursor ≡ Some c
    → can_open p l ≡ true → IsSoundProgress places head p → IsSoundLanes places total head p l
    → IsSoundLanes places total head p (opened places c l)
open_lanes places total head p l c at can h m =
    let parts = and_parts (is_below p.seen p.cursor) (is_idle l.stage) can in
    let b = below_is p.seen p.cursor parts.0 in
    let here : b.0 ≡ c = cc (b.1) in
    let ahead : c < p.seen = omega (arith, b.2) in
    record {
      holding_ahead = λ d e s. let same : d ≡ c = cc in omega arith;
      closed_ahead = λ d e s. cc;
      left_idle = λ e. cc;
      room = m.room;
      lies = λ d n e low high held.
          let same : d ≡ c = cc in
          let other : n ≢ d = held refl in
          let lower : c ≤ n = omega arith in
          let away : n % places ≢ c % places = λ x. apart places c n (omega arith) (omega (arith, near places head p c at h)) (sym x) in
          put_other places c None l.row n away ∙ m.lies c n at lower high (λ s. absurd (let idle = idle_is l.stage parts.1 in cc));
      out = λ d e s. let same : c ≡ d = cc in ap (put_row places c None l.row) (sym same) ∙ put_same places c None l.row c refl;
      rows = record {
        placed = λ q n. put_gives places c n None l.row (λ q. q % places ≡ n % places) (λ q s e. cc) (λ q. m.rows.placed q n) q;
        not_ahead = λ q n. put_gives places c n None l.row (λ q. n ≤ head) (λ q s e. cc) (λ q. m.rows.not_ahead q n) q;
        newest = put_gives places c head None l.row (λ q. l.filled ≡ true) (λ q s e. cc) m.rows.newest;
        in_total = m.rows.in_total;
        fresh = λ f.
            let away : head % places ≢ c % places = λ x. apart places c head (omega (arith, h.seen_in)) (near_filled places total head p l c at h m f) (sym x) in
            put_other places c None l.row head away ∙ m.rows.fresh f;
      };
    }

pub close_lanes : (places total head : ℕ) (p : Progress) (l : Lanes) (c : ℕ) → p.cursor ≡ Some c
    → can_close p l ≡ true → IsSoundProgress places head p → IsSoundLanes places total head p l
    → IsSoundLanes places total head p (closed places c l)
close_lanes places total head p l c at can h m =
    let parts = and_parts (is_some p.cursor) (is_holding l.stage) can in
    let held : l.stage ≡ Holding = holding_is l.stage parts.1 in
    let ahead : c < p.seen = m.holding_ahead c at held in
    record {
      holding_ahead = λ d e s. cc;
      closed_ahead = λ d e s. let same : d ≡ c = cc in omega arith;
      left_idle = λ e. cc;
      room = m.room;
      lies = λ d n e low high out.
          let same : d ≡ c = cc in
          elim (cases_eq n c) [
            | inl here ↦ put_same places c (Some c) l.row n (ap (λ k. k % places) here) ∙ ap Some (sym here)
            | inr other ↦
                let lower : c ≤ n = omega arith in
                let away : n % places ≢ c % places = λ x. apart places c n (omega arith) (omega (arith, near places head p c at h)) (sym x) in
                put_other places c (Some c) l.row n away ∙ m.lies c n at lower high (λ s. other)
          ];
      out = λ d e s. cc;
      rows = record {
        placed = λ q n. put_gives places c n (Some c) l.row (λ q. q % places ≡ n % places) (λ q s e. let same : c ≡ n = cc in s ∙ ap (λ k. k % places) same) (λ q. m.rows.placed q n) q;
        not_ahead = λ q n. put_gives places c n (Some c) l.row (λ q. n ≤ head) (λ q s e. let same : c ≡ n = cc in omega (arith, h.seen_in)) (λ q. m.rows.not_ahead q n) q;
        newest = put_gives places c head (Some c) l.row (λ q. l.filled ≡ true) (λ q s e. let same : c ≡ head = cc in absurd (omega (arith, h.seen_in))) m.rows.newest;
        in_total = m.rows.in_total;
        fresh = λ f.
            let away : head % places ≢ c % places = λ x. apart places c head (omega (arith, h.seen_in)) (near_filled places total head p l c at h m f) (sym x) in
            put_other places c (Some c) l.row head away ∙ m.rows.fresh f;
      };
    }

-- Advance, at the cursor c. The first half needs only that the reader knows of a row at its cursor

ordered_more : (xs : List ℕ) (c : ℕ) → length xs ≡ c → ((i : ℕ) → i < length xs → get_or xs i 0 ≡ i) → (i : ℕ)
    → i < length (xs ++ c ∷ []) → get_or (xs ++ c ∷ []) i 0 ≡ i
ordered_more xs c len each i h = elim (cases_lt i (length xs)) [
  | inl below ↦ get_or_append_left xs (c ∷ []) 0 i below ∙ each i below
  | inr above ↦ let at : length xs ≡ i = omega (arith, length-append xs (c ∷ [])) in get_or_push xs c 0 i at ∙ (sym len ∙ at)
]

pub advance_progress : (places head : ℕ) (p : Progress) (c : ℕ) → p.cursor ≡ Some c → c < p.seen
    → IsSoundProgress places head p → IsSoundProgress places head (advanced c p)
advance_progress places head p c at ahead h =
    let len : length (p.taken ++ c ∷ []) ≡ c + 1 = omega (arith, length-append p.taken (c ∷ []), h.counted c at) in
    let j = h.joined_known c at in
    record {
      in_order = ordered_more p.taken c (h.counted c at) h.in_order;
      counted = λ d e. let same : c + 1 ≡ d = cc in len ∙ same;
      seen_in = h.seen_in;
      seen_ahead = λ d e. let same : c + 1 ≡ d = cc in omega arith;
      joined_known = λ d e. let same : c + 1 ≡ d = cc in (j.0, j.1, omega (arith, j.2));
      left_known = λ e k f. cc;
      within = h.within;
    }

pub advance_lanes : (places total head : ℕ) (p : Progress) (l : Lanes) (c : ℕ) → p.cursor ≡ Some c
    → can_advance p l ≡ true → IsSoundLanes places total head p l
    → IsSoundLanes places total head (advanced c p) (settled l)
advance_lanes places total head p l c at can m =
    let parts = and_parts (is_some p.cursor) (is_closed l.stage) can in
    let done : l.stage ≡ Closed = closed_is l.stage parts.1 in
    record {
      holding_ahead = λ d e s. cc;
      closed_ahead = λ d e s. cc;
      left_idle = λ e. refl;
      room = m.room;
      lies = λ d n e low high held. let same : c + 1 ≡ d = cc in m.lies c n at (omega arith) high (λ s. cc);
      out = λ d e s. cc;
      rows = m.rows;
    }

-- where an advance is possible, the reader knows of a row at its cursor
pub advance_ahead : (places total head : ℕ) (p : Progress) (l : Lanes) (c : ℕ) → p.cursor ≡ Some c
    → can_advance p l ≡ true → IsSoundLanes places total head p l → c < p.seen
advance_ahead places total head p l c at can m = m.closed_ahead c at (closed_is l.stage (and_parts (is_some p.cursor) (is_closed l.stage) can).1)

-- Leave

pub leave_progress : (places head : ℕ) (p : Progress) (c : ℕ) → p.cursor ≡ Some c
    → IsSoundProgress places head p → IsSoundProgress places head (departed p)
leave_progress places head p c at h =
    let j = h.joined_known c at in
    record {
      in_order = h.in_order;
      counted = λ d e. cc;
      seen_in = h.seen_in;
      seen_ahead = λ d e. cc;
      joined_known = λ d e. cc;
      left_known = λ e k f. let same : k ≡ j.0 = cc (j.1) in omega (arith, j.2, h.counted c at);
      within = h.within;
    }

pub leave_lanes : (places total head : ℕ) (p : Progress) (l : Lanes) → can_leave p l ≡ true
    → IsSoundLanes places total head p l → IsSoundLanes places total head (departed p) l
leave_lanes places total head p l can m =
    let idle : l.stage ≡ Idle = idle_is l.stage (and_parts (is_some p.cursor) (is_idle l.stage) can).1 in
    record {
      holding_ahead = λ d e s. cc;
      closed_ahead = λ d e s. cc;
      left_idle = λ e. idle;
      room = m.room;
      lies = λ d n e low high held. cc;
      out = λ d e s. cc;
      rows = m.rows;
    }
