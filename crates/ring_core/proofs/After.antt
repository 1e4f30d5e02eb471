-- A schedule built from its readers' parts, after an event: only the parts named by the event change.
use Rattle.std.proofs.Common.{◌≡◌, ◌≢◌, ℕ, ◌+◌, ◌<◌, Bool, true, ◌&&◌, ap, sym, ◌∙◌, refl, subst, arith}
use Rattle.std.specs.Prelude.{Some, nat_lt, unwrap_or, is_some}
use Rattle.std.proofs.lemmas.Bool.{and_from, lt-ltb}
use Rattle.ring_core.specs.declared.event.Event.TheVariants.{Look, Fill, Publish, See, Open, Close, Advance, Leave}
use Rattle.ring_core.specs.Schedule.{Schedule, readers, Progress, Lanes, progress_of, lanes_of}
use Rattle.ring_core.specs.Events.{can_be, after, each_below, cursor_at, can_fill, is_ready, can_open, can_close, can_advance, can_leave}
use Rattle.ring_core.proofs.Changes.{looked, saw, advanced, departed, filled_with, unfilled, opened, closed, settled}
use Rattle.ring_core.specs.Sound.{IsSized}
use Rattle.ring_core.specs.Plain.{read_closed}
use Rattle.ring_core.proofs.Readers
use Rattle.ring_core.proofs.Sizes.{after_count, after_sized, closed_sized}
use Rattle.ring_core.proofs.Whole.{each_below_yes, each_by}
use Rattle.ring_core.proofs.Lower.{unsettled}
use Rattle.ring_core.proofs.Made.{HasNumbers, IsMade}

-- a reader's event is possible if its own condition holds
can_reader : (r n m : ℕ) (can : Bool) → m ≡ n → r < n → can ≡ true → (nat_lt r m && can) ≡ true
can_reader r n m can e h c = and_from (nat_lt r m) can (lt-ltb r m (omega arith)) c

module _ (s : Schedule) (places total head n : ℕ) (p : ℕ → Progress) (l : ℕ → Lanes) (m : IsMade s places total head n p l) where
  abbrev Now : Schedule → (ℕ → Progress) → (ℕ → Lanes) → Type 0
  Now t q k = IsMade t places total head n q k

  abbrev is : HasNumbers s places total head n
  is = m.numbers

  -- r is one of the readers of s
  among : (r : ℕ) → r < n → r < readers s
  among r h = let c = is.count in omega arith

  -- a schedule of the same size, of which these are head and parts
  made_of : (t : Schedule) (high : ℕ) (q : ℕ → Progress) (k : ℕ → Lanes) → t.places ≡ s.places
      → t.total ≡ s.total → t.head ≡ high → readers t ≡ readers s → IsSized t
      → ((j : ℕ) → j < n → progress_of t j ≡ q j) → ((j : ℕ) → j < n → lanes_of t j ≡ k j)
      → IsMade t places total high n q k
  made_of t high q k size all at same z progress lanes = record {
    numbers = record {
      places_is = size ∙ is.places_is;
      total_is = all ∙ is.total_is;
      head_is = at;
      some_place = subst (λ x. 0 < x) (sym size) is.some_place;
      count = same ∙ is.count;
      sized = z;
    };
    progress = progress;
    lanes = lanes;
  }

  -- the progress of reader r is now x, and that of the others is unchanged
  progress_by : (t : Schedule) (r : ℕ) (q : ℕ → Progress) (x : Progress) → progress_of t r ≡ x
      → ((j : ℕ) → j ≢ r → progress_of t j ≡ progress_of s j)
      → q r ≡ x → ((j : ℕ) → j < n → j ≢ r → q j ≡ p j) → (j : ℕ) → j < n → progress_of t j ≡ q j
  progress_by t r q x here same own else = each_by n r (λ j. progress_of t j ≡ q j) (here ∙ sym own) (λ j h o. same j o ∙ (m.progress j h ∙ sym (else j h o)))

  -- the lanes of reader r are now x, and those of the others are unchanged
  lanes_by : (t : Schedule) (r : ℕ) (k : ℕ → Lanes) (x : Lanes) → lanes_of t r ≡ x
      → ((j : ℕ) → j ≢ r → lanes_of t j ≡ lanes_of s j)
      → k r ≡ x → ((j : ℕ) → j < n → j ≢ r → k j ≡ l j) → (j : ℕ) → j < n → lanes_of t j ≡ k j
  lanes_by t r k x here same own else = each_by n r (λ j. lanes_of t j ≡ k j) (here ∙ sym own) (λ j h o. same j o ∙ (m.lanes j h ∙ sym (else j h o)))

  pub look_can : (r : ℕ) → r < n → can_be s (Look r) ≡ true
  look_can r h = lt-ltb r (readers s) (among r h)

  pub look_made : (r : ℕ) (q : ℕ → Progress) → r < n → q r ≡ looked (p r)
      → ((k : ℕ) → k < n → k ≢ r → q k ≡ p k) → Now (after s (Look r)) q l
  look_made r q h own else = made_of (after s (Look r)) head q l refl refl is.head_is refl (after_sized s (Look r) is.sized)
      (progress_by (after s (Look r)) r q (looked (p r))
      (Readers.look_shows s r is.sized (among r h) ∙ ap looked (m.progress r h))
      (Readers.look_else s r) own else)
      m.lanes

  pub see_can : (r : ℕ) → r < n → is_some (p r).cursor ≡ true → can_be s (See r) ≡ true
  see_can r h can = can_reader r n (readers s) (is_some (progress_of s r).cursor) is.count h (ap (λ (x : Progress). is_some x.cursor) (m.progress r h) ∙ can)

  pub see_made : (r : ℕ) (q : ℕ → Progress) → r < n → q r ≡ saw head (p r)
      → ((k : ℕ) → k < n → k ≢ r → q k ≡ p k) → Now (after s (See r)) q l
  see_made r q h own else = made_of (after s (See r)) head q l refl refl is.head_is refl (after_sized s (See r) is.sized)
      (progress_by (after s (See r)) r q (saw head (p r))
      (Readers.see_shows s r is.sized (among r h) ∙ (λ i. saw (is.head_is i) (m.progress r h i)))
      (Readers.see_else s r) own else)
      m.lanes

  pub publish_can : head < total → ((r : ℕ) → r < n → is_ready (p r) (l r) ≡ true) → can_be s Publish ≡ true
  publish_can row ready =
      let at = is.head_is in
      let in_total = is.total_is in
      and_from (nat_lt s.head s.total) (each_below (readers s) (λ r. is_ready (progress_of s r) (lanes_of s r))) (lt-ltb s.head s.total (omega arith))
      (each_below_yes (readers s) (λ r. is_ready (progress_of s r) (lanes_of s r)) (λ r h. let k = is.count in let i : r < n = omega arith in (λ j. is_ready (m.progress r i j) (m.lanes r i j)) ∙ ready r i))

  pub publish_made : IsMade (after s Publish) places total (head + 1) n p (λ r. unfilled (l r))
  publish_made = made_of (after s Publish) (head + 1) p (λ r. unfilled (l r)) refl refl (ap (λ x. x + 1) is.head_is) refl (after_sized s Publish is.sized)
      m.progress
      (λ r h. Readers.publish_shows s r is.sized (among r h) ∙ ap unfilled (m.lanes r h))

  pub fill_can : (r : ℕ) → r < n → can_fill places total head (p r) (l r) ≡ true → can_be s (Fill r) ≡ true
  fill_can r h can = can_reader r n (readers s) (can_fill s.places s.total s.head (progress_of s r) (lanes_of s r)) is.count h
      ((λ i. can_fill (is.places_is i) (is.total_is i) (is.head_is i) (m.progress r h i) (m.lanes r h i)) ∙ can)

  pub fill_made : (r : ℕ) (k : ℕ → Lanes) → r < n → k r ≡ filled_with places head (l r)
      → ((q : ℕ) → q < n → q ≢ r → k q ≡ l q) → Now (after s (Fill r)) p k
  fill_made r k h own else = made_of (after s (Fill r)) head p k refl refl is.head_is refl (after_sized s (Fill r) is.sized)
      m.progress
      (lanes_by (after s (Fill r)) r k (filled_with places head (l r))
      (Readers.fill_shows s r is.sized is.some_place (among r h) ∙ (λ i. filled_with (is.places_is i) (is.head_is i) (m.lanes r h i)))
      (λ j. Readers.fill_else s r j is.some_place) own else)

  -- the cursor that s shows for a reader
  cursor_made : (r c : ℕ) → r < n → (p r).cursor ≡ Some c → cursor_at s r ≡ c
  cursor_made r c h at = ap (λ (x : Progress). unwrap_or x.cursor 0) (m.progress r h) ∙ ap (λ o. unwrap_or o 0) at

  -- an event of reader r whose condition is on its progress and lanes
  lanes_can : (can : Progress → Lanes → Bool) (r : ℕ) → r < n → can (p r) (l r) ≡ true → (nat_lt r (readers s) && can (progress_of s r) (lanes_of s r)) ≡ true
  lanes_can can r h may = can_reader r n (readers s) (can (progress_of s r) (lanes_of s r)) is.count h ((λ i. can (m.progress r h i) (m.lanes r h i)) ∙ may)

  pub open_can : (r : ℕ) → r < n → can_open (p r) (l r) ≡ true → can_be s (Open r) ≡ true
  open_can = lanes_can can_open

  pub close_can : (r : ℕ) → r < n → can_close (p r) (l r) ≡ true → can_be s (Close r) ≡ true
  close_can = lanes_can can_close

  pub advance_can : (r : ℕ) → r < n → can_advance (p r) (l r) ≡ true → can_be s (Advance r) ≡ true
  advance_can = lanes_can can_advance

  pub leave_can : (r : ℕ) → r < n → can_leave (p r) (l r) ≡ true → can_be s (Leave r) ≡ true
  leave_can = lanes_can can_leave

  -- an event of reader r at its cursor c that changes its lanes alone
  at_cursor : (t : Schedule) (effect : ℕ → ℕ → Lanes → Lanes) (r c : ℕ) (k : ℕ → Lanes) → t.places ≡ s.places → t.total ≡ s.total → t.head ≡ s.head → readers t ≡ readers s → IsSized t
      → ((j : ℕ) → progress_of t j ≡ progress_of s j) → lanes_of t r ≡ effect s.places (cursor_at s r) (lanes_of s r) → ((j : ℕ) → j ≢ r → lanes_of t j ≡ lanes_of s j)
      → r < n → (p r).cursor ≡ Some c → k r ≡ effect places c (l r) → ((q : ℕ) → q < n → q ≢ r → k q ≡ l q) → Now t p k
  at_cursor t effect r c k size all high same z still here others h at own else = made_of t head p k size all (high ∙ is.head_is) same z
      (λ j b. still j ∙ m.progress j b)
      (lanes_by t r k (effect places c (l r)) (here ∙ (λ i. effect (is.places_is i) (cursor_made r c h at i) (m.lanes r h i))) others own else)

  pub open_made : (r c : ℕ) (k : ℕ → Lanes) → r < n → (p r).cursor ≡ Some c → k r ≡ opened places c (l r)
      → ((q : ℕ) → q < n → q ≢ r → k q ≡ l q) → Now (after s (Open r)) p k
  open_made r c k h at own else =
      at_cursor (after s (Open r)) opened r c k refl refl refl refl (after_sized s (Open r) is.sized) (λ j. refl) (Readers.open_shows s r is.sized is.some_place (among r h)) (λ j. Readers.open_else s r j is.some_place) h at own else

  pub close_made : (r c : ℕ) (k : ℕ → Lanes) → r < n → (p r).cursor ≡ Some c → k r ≡ closed places c (l r)
      → ((q : ℕ) → q < n → q ≢ r → k q ≡ l q) → Now (after s (Close r)) p k
  close_made r c k h at own else =
      at_cursor (after s (Close r)) closed r c k refl refl refl refl (after_sized s (Close r) is.sized) (λ j. refl) (Readers.close_shows s r is.sized is.some_place (among r h)) (λ j. Readers.close_else s r j is.some_place) h at own else

  pub advance_made : (r c : ℕ) (q : ℕ → Progress) (k : ℕ → Lanes) → r < n → (p r).cursor ≡ Some c
      → q r ≡ advanced c (p r) → ((j : ℕ) → j < n → j ≢ r → q j ≡ p j)
      → k r ≡ settled (l r) → ((j : ℕ) → j < n → j ≢ r → k j ≡ l j) → Now (after s (Advance r)) q k
  advance_made r c q k h at own else still stays = made_of (after s (Advance r)) head q k refl refl is.head_is (after_count s (Advance r)) (after_sized s (Advance r) is.sized)
      (progress_by (after s (Advance r)) r q (advanced c (p r))
      (Readers.advance_shows s r is.sized (among r h) ∙ (λ i. advanced (cursor_made r c h at i) (m.progress r h i)))
      (Readers.advance_else s r) own else)
      (lanes_by (after s (Advance r)) r k (settled (l r))
      (Readers.advance_settles s r is.sized (among r h) ∙ ap settled (m.lanes r h))
      (Readers.advance_leaves s r) still stays)

  pub leave_made : (r : ℕ) (q : ℕ → Progress) → r < n → q r ≡ departed (p r)
      → ((k : ℕ) → k < n → k ≢ r → q k ≡ p k) → Now (after s (Leave r)) q l
  leave_made r q h own else = made_of (after s (Leave r)) head q l refl refl is.head_is (after_count s (Leave r)) (after_sized s (Leave r) is.sized)
      (progress_by (after s (Leave r)) r q (departed (p r))
      (Readers.leave_shows s r (among r h) ∙ ap departed (m.progress r h))
      (Readers.leave_else s r) own else)
      m.lanes

  -- the stage of reader r, read as closed
  pub closed_made : (r : ℕ) (k : ℕ → Lanes) → r < n → k r ≡ unsettled (l r)
      → ((q : ℕ) → q < n → q ≢ r → k q ≡ l q) → Now (read_closed r s) p k
  closed_made r k h own else = made_of (read_closed r s) head p k refl refl is.head_is refl (closed_sized s r is.sized)
      m.progress
      (lanes_by (read_closed r s) r k (unsettled (l r))
      (Readers.closed_shows s r is.sized (among r h) ∙ ap unsettled (m.lanes r h))
      (Readers.closed_else s r) own else)
