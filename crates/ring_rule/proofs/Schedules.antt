-- The schedule that a table shows, in terms of the views found in it, and after an event.
use Rattle.std.proofs.Common.{◌≡◌, ℕ, ◌<◌, sym, refl, ◌∙◌}
use Rattle.ring_core.specs.Schedule.{Schedule, Progress, Lanes}
use Rattle.ring_core.specs.Plain.{plain, plain_lanes, schedule_of}
use Rattle.ring_core.proofs.Made.{IsMade, is_made, made_same, made_plain, made_sound}
use Rattle.ring_rule.specs.declared.view.RingNumbers.{RingNumbers}
use Rattle.ring_rule.specs.declared.view.WriterView.{WriterView}
use Rattle.ring_rule.specs.declared.view.ReaderView.{ReaderView}
use Rattle.ring_rule.specs.Views.{writer_of, reader_of}
use Rattle.ring_rule.specs.Shown.{RingState, head_shown, cursor_shown, shown, lanes_shown, lanes_known, schedule_shown}
use Rattle.ring_rule.specs.Kept.{Kept}
use Rattle.ring_rule.specs.Laws.{ShowsSound}
use Rattle.ring_rule.proofs.Slots.{shown_by_place}
use Rattle.ring_rule.proofs.Hold.{lanes_agree}

-- the schedule shown, as built from its readers' parts, with filled and stage as the views say
pub before_made : (g : RingNumbers) (s : RingState) (w : WriterView) → Kept g s → writer_of g s.views ≡ w
    → IsMade (schedule_shown g s) g.places g.total (head_shown s.words) g.readers (shown s.words w (reader_of g s.views)) (lanes_known g.places s.words s.homes w (reader_of g s.views))
before_made g s w k is =
    let found = writer_of g s.views in
    let readers = reader_of g s.views in
    let head = head_shown s.words in
    let made = is_made g.places g.total head g.readers (shown s.words found readers) (lanes_shown g.places s.words s.homes) k.holds.sound.some_place
    (λ r h j. shown_by_place g.places r head (cursor_shown s.words r) s.homes j) in
    record {
      numbers = made.numbers;
      progress = λ r h. made.progress r h ∙ (λ i. shown s.words (is i) readers r);
      lanes = λ r h. made.lanes r h ∙ (lanes_agree g s.words s.homes found readers k.holds k.lanes r h ∙ (λ i. lanes_known g.places s.words s.homes (is i) readers r));
    }

-- the same as one list equation
pub table_shows : (g : RingNumbers) (t : RingState) (v : WriterView) (later : ℕ → ReaderView) → Kept g t → writer_of g t.views ≡ v → reader_of g t.views ≡ later
    → schedule_shown g t ≡ schedule_of g.places g.total (head_shown t.words) g.readers (shown t.words v later) (lanes_known g.places t.words t.homes v later)
table_shows g t v later k now then =
    let found = writer_of g t.views in
    let readers = reader_of g t.views in
    made_same g.places g.total (head_shown t.words) g.readers (shown t.words found readers) (shown t.words found readers) (lanes_shown g.places t.words t.homes) (lanes_known g.places t.words t.homes found readers)
    k.holds.sound.some_place (λ r h. refl) (lanes_agree g t.words t.homes found readers k.holds k.lanes)
    ∙ (λ i. schedule_of g.places g.total (head_shown t.words) g.readers (shown t.words (now i) (then i)) (lanes_known g.places t.words t.homes (now i) (then i)))

-- a table that shows the parts of an event's effect, read plainly, shows the plain reading of that effect
pub event_shows : (g : RingNumbers) (t : RingState) (v : WriterView) (later : ℕ → ReaderView) (after : Schedule) (head : ℕ) (p : ℕ → Progress) (l : ℕ → Lanes) → Kept g t → writer_of g t.views ≡ v → reader_of g t.views ≡ later
    → IsMade after g.places g.total head g.readers p l → head_shown t.words ≡ head → ((r : ℕ) → r < g.readers → shown t.words v later r ≡ p r)
    → ((r : ℕ) → r < g.readers → lanes_known g.places t.words t.homes v later r ≡ plain_lanes head (p r) (l r)) → schedule_shown g t ≡ plain after
event_shows g t v later after head p l k now then made at progress lanes =
    table_shows g t v later k now then
    ∙ ((λ i. schedule_of g.places g.total (at i) g.readers (shown t.words v later) (lanes_known g.places t.words t.homes v later))
    ∙ (made_same g.places g.total head g.readers (shown t.words v later) p (lanes_known g.places t.words t.homes v later) (λ r. plain_lanes head (p r) (l r)) k.holds.sound.some_place progress lanes
    ∙ sym (made_plain after g.places g.total head g.readers p l made)))

-- tables that show the same parts show the same schedule
pub same_shows : (g : RingNumbers) (s t : RingState) (w v : WriterView) (later : ℕ → ReaderView) → Kept g s → Kept g t → writer_of g s.views ≡ w → writer_of g t.views ≡ v → reader_of g t.views ≡ later
    → t.words ≡ s.words → ((r : ℕ) → r < g.readers → shown s.words v later r ≡ shown s.words w (reader_of g s.views) r)
    → ((r : ℕ) → r < g.readers → lanes_known g.places s.words t.homes v later r ≡ lanes_known g.places s.words s.homes w (reader_of g s.views) r) → schedule_shown g t ≡ schedule_shown g s
same_shows g s t w v later k n is now then words progress lanes =
    let readers = reader_of g s.views in
    table_shows g t v later n now then
    ∙ ((λ i. schedule_of g.places g.total (head_shown (words i)) g.readers (shown (words i) v later) (lanes_known g.places (words i) t.homes v later))
    ∙ (made_same g.places g.total (head_shown s.words) g.readers (shown s.words v later) (shown s.words w readers) (lanes_known g.places s.words t.homes v later) (lanes_known g.places s.words s.homes w readers)
    k.holds.sound.some_place progress lanes
    ∙ sym (table_shows g s w readers k is refl)))

-- what the table shows is sound, and its slots show what the views say
pub rule_shows : (g : RingNumbers) (s : RingState) → Kept g s → ShowsSound g s
rule_shows g s k =
    let w = writer_of g s.views in
    let readers = reader_of g s.views in
    record {
      sound = made_sound (schedule_shown g s) g.places g.total (head_shown s.words) g.readers (shown s.words w readers) (lanes_known g.places s.words s.homes w readers)
          (before_made g s w k refl) k.holds.sound k.lanes.sound;
      agrees = lanes_agree g s.words s.homes w readers k.holds k.lanes;
    }
