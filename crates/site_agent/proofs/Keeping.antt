-- What a site's result means, and the site's state after it kept a row.
use Rattle.std.proofs.Common.{◌≡◌, ◌≢◌, ℕ, ◌+◌, ◌/◌, ◌<◌, inl, inr, List, [], ◌∷◌, length, arith, Option, Some, sym, ap, subst, ◌∙◌, refl}
use Rattle.std.specs.Prelude.{slice_get, slice_index_or}
use Rattle.std.proofs.lemmas.List.{get_or-map}
use Rattle.ring_lanes.specs.declared.source.Source.{Source}
use Rattle.tif_packbits.specs.Frame.{packed_in, framed_row, IsFrame}
use Rattle.tif_plate.specs.Plate.{rows_each, strip_count}
use Rattle.pr_rack.specs.declared.rack.RackCall.{RackCall}
use Rattle.pr_rack.specs.declared.rack.RackCall.TheVariants.{Begin, Row, Finish}
use Rattle.pr_rack.specs.declared.rack.RackFault.{RackFault}
use Rattle.pr_rack.specs.declared.rack.RackFault.TheVariants.{Failed, Memory}
use Rattle.pr_rack.specs.Told.{Tells}
use Rattle.site_agent.specs.declared.plate.SitePlate.{SitePlate}
use Rattle.site_agent.specs.declared.kept.Kept.{Kept}
use Rattle.site_agent.specs.declared.kept.LeftCause.{LeftCause}
use Rattle.site_agent.specs.Job.{SiteJob, sides_of, IsJob}
use Rattle.site_agent.specs.Given.{IsRowOf}
use Rattle.site_agent.specs.Kept.{OnDone, IfLeft, OnMemory, OnEnd, TakenOnce, kept_of}
use Rattle.site_agent.specs.Refused.{taken_at}
use Rattle.site_agent.specs.Site.{IsCounting, counts_of}
use Rattle.site_agent.specs.Stands.{StandsAfter}
use Rattle.plate_bytes.specs.Strips.{StripState, counted}
use Rattle.site_agent.specs.Tells.{after_row}
use Rattle.site_agent.proofs.Holding.{FinishedTold}
use Rattle.site_agent.proofs.Opens.{plate_at}
use Rattle.site_agent.proofs.Standing.{row_kept}

-- ---- the result if the rack refused a call

pub done-refused : (kept : Kept) (fault : RackFault) (cause : LeftCause) (P : Type 0)
    → kept ≡ kept_of fault cause → OnDone kept P
done-refused kept Failed cause P is = subst (λ (k : Kept). OnDone k P) (sym is) tt
done-refused kept Memory cause P is = subst (λ (k : Kept). OnDone k P) (sym is) tt

pub left-refused : (kept : Kept) (fault : RackFault) (cause : LeftCause) (P : LeftCause → Type 0)
    → kept ≡ kept_of fault cause → (fault ≡ Failed → P cause) → IfLeft kept P
left-refused kept Failed cause P is holds = subst (λ (k : Kept). IfLeft k P) (sym is) (holds refl)
left-refused kept Memory cause P is holds = subst (λ (k : Kept). IfLeft k P) (sym is) tt

pub memory-refused : (kept : Kept) (fault : RackFault) (cause : LeftCause) (P : Type 0)
    → kept ≡ kept_of fault cause → P → OnMemory kept P
memory-refused kept Failed cause P is holds = subst (λ (k : Kept). OnMemory k P) (sym is) tt
memory-refused kept Memory cause P is holds = subst (λ (k : Kept). OnMemory k P) (sym is) holds

pub end-refused : (kept : Kept) (fault : RackFault) (cause : LeftCause) (P : Type 0)
    → kept ≡ kept_of fault cause → P → OnEnd kept P
end-refused kept Failed cause P is holds = subst (λ (k : Kept). OnEnd k P) (sym is) holds
end-refused kept Memory cause P is holds = subst (λ (k : Kept). OnEnd k P) (sym is) holds

pub memory-only : (kept : Kept) (fault : RackFault) (cause : LeftCause) (P : Type 0)
    → kept ≡ kept_of fault cause → (fault ≡ Memory → P) → OnMemory kept P
memory-only kept Failed cause P is holds = subst (λ (k : Kept). OnMemory k P) (sym is) tt
memory-only kept Memory cause P is holds = subst (λ (k : Kept). OnMemory k P) (sym is) (holds refl)

-- the row was taken once or not at all
pub taken-once : (call : RackCall) (number : ℕ) (source : Source) (old new : Option (List (ℕ × Source)))
    → new ≡ taken_at call number source old → TakenOnce number source old new
taken-once Begin number source old new is = inl is
taken-once Row number source old new is = inl is
taken-once Finish number source old new is = inr is

-- ---- the site and its rack

pub strips-of : (job : SiteJob) (n finished : ℕ) (slots : List StripState) (s : ℕ)
    → IsCounting job n finished slots → s < 5 → s < length slots
    → length (slice_index_or (counts_of slots) s []) ≡ strip_count job.width job.height
strips-of job n finished [] s counting less within = absurd (omega arith)
strips-of job n finished (d ∷ slots) s counting less within = ap length (get_or-map (λ slot. slot.counts) (d ∷ slots) s d [] within) ∙ (counting.each s d less).strips

-- one row of a plate, which is in this slot
pub row_kept-slot : (job : SiteJob) (rows : List (List ℕ)) (source : Source) (n k y slot : ℕ)
    (before old now : Tells) (counts after : List (List ℕ)) (d : SitePlate) (frame : List ℕ) → IsJob job
    → IsRowOf job n k y → (plate_at job k d).slot ≡ slot → StandsAfter job rows source n before old counts
    → FinishedTold old → IsFrame frame → slice_get rows n ≡ Some (framed_row frame)
    → length (slice_index_or counts slot []) ≡ strip_count job.width job.height
    → slice_index_or after slot []
    ≡ counted y (y / rows_each job.width) (length (packed_in frame)) (slice_index_or counts slot [])
    → ((s : ℕ) → s < 5 → s ≢ slot → slice_index_or after s [] ≡ slice_index_or counts s [])
    → now ≡ after_row (sides_of job) (plate_at job k d) y n frame source (slice_index_or after slot []) old
    → StandsAfter job rows source (n + 1) before now after
row_kept-slot job rows source n k y slot before old now counts after d frame is row there stands told framed here size own others told_now =
    row_kept job rows source n k y before old now counts after d frame is row stands told framed here
    (ap (λ i. length (slice_index_or counts i [])) there ∙ size)
    (ap (λ i. slice_index_or after i []) there ∙ own ∙ ap (λ i. counted y (y / rows_each job.width) (length (packed_in frame)) (slice_index_or counts i [])) (sym there))
    (λ s less apart. others s less (λ same. apart (same ∙ sym there)))
    (told_now ∙ ap (λ i. after_row (sides_of job) (plate_at job k d) y n frame source (slice_index_or after i []) old) (sym there))
