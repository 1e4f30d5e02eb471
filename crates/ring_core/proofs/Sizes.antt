-- The sizes of a schedule's lists, which no event changes.
use Rattle.std.proofs.Common.{◌≡◌, ℕ, ◌+◌, ◌*◌, true, length, sym, ◌∙◌, refl, length-set}
use Rattle.std.specs.Prelude.{Some, None}
use Rattle.std.proofs.lemmas.List.{length-map}
use Rattle.ring_core.specs.declared.event.Stage.TheVariants.{Idle, Holding, Closed}
use Rattle.ring_core.specs.declared.event.Event.{Event}
use Rattle.ring_core.specs.declared.event.Event.TheVariants.{Look, Fill, Publish, See, Open, Close, Advance, Leave}
use Rattle.ring_core.specs.Schedule.{Schedule, readers}
use Rattle.ring_core.specs.Events.{after, cursor_at}
use Rattle.ring_core.specs.Sound.{IsSized}
use Rattle.ring_core.specs.Plain.{read_closed}

-- a schedule whose lists are as long as those of s
as_long : (s t : Schedule) → IsSized s → readers t ≡ readers s → t.places ≡ s.places
    → length t.filled ≡ length s.filled → length t.known ≡ length s.known
    → length t.seen ≡ length s.seen → length t.stage ≡ length s.stage → length t.lane ≡ length s.lane
    → length t.taken ≡ length s.taken → IsSized t
as_long s t z count places filled known seen stage lane taken = record {
  filled = filled ∙ (z.filled ∙ sym count);
  known = known ∙ (z.known ∙ sym count);
  seen = seen ∙ (z.seen ∙ sym count);
  stage = stage ∙ (z.stage ∙ sym count);
  lane = lane ∙ (z.lane ∙ (λ i. sym count i * sym places i));
  taken = taken ∙ (z.taken ∙ sym count);
}

-- an event leaves the number of readers
pub after_count : (s : Schedule) (e : Event) → readers (after s e) ≡ readers s
after_count s (Look r) = refl
after_count s (Fill r) = refl
after_count s Publish = refl
after_count s (See r) = refl
after_count s (Open r) = refl
after_count s (Close r) = refl
after_count s (Advance r) = length-set s.cursor r (Some (cursor_at s r + 1))
after_count s (Leave r) = length-set s.cursor r None

pub after_sized : (s : Schedule) (e : Event) → IsSized s → IsSized (after s e)
after_sized s (Look r) z = as_long s (after s (Look r)) z refl refl refl (length-set s.known r _) refl refl refl refl
after_sized s (Fill r) z = as_long s (after s (Fill r)) z refl refl (length-set s.filled r true) refl refl refl (length-set s.lane _ (Some s.head)) refl
after_sized s Publish z = as_long s (after s Publish) z refl refl (length-map s.filled _) refl refl refl refl refl
after_sized s (See r) z = as_long s (after s (See r)) z refl refl refl refl (length-set s.seen r s.head) refl refl refl
after_sized s (Open r) z = as_long s (after s (Open r)) z refl refl refl refl refl (length-set s.stage r Holding) (length-set s.lane _ None) refl
after_sized s (Close r) z = as_long s (after s (Close r)) z refl refl refl refl refl (length-set s.stage r Closed) (length-set s.lane _ (Some (cursor_at s r))) refl
after_sized s (Advance r) z =
    as_long s (after s (Advance r)) z (after_count s (Advance r)) refl refl refl refl (length-set s.stage r Idle) refl (length-set s.taken r _)
after_sized s (Leave r) z = as_long s (after s (Leave r)) z (after_count s (Leave r)) refl refl refl refl refl refl refl

-- nor does reading a stage as closed
pub closed_sized : (s : Schedule) (r : ℕ) → IsSized s → IsSized (read_closed r s)
closed_sized s r z = as_long s (read_closed r s) z refl refl refl refl refl (length-set s.stage r Closed) refl refl
