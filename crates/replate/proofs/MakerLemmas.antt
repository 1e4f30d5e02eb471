-- A site of a delivery and a row: the site continues, it leaves, or its rack runs out of memory.
use Rattle.std.proofs.Common.{◌≡◌, ℕ, ◌+◌, Bool, true, false, List, map, take, Option, Some, refl, sym, ap, subst, ◌∙◌, inl, inr, arith}
use Rattle.std.specs.Prelude.{slice_get}
use Rattle.std.proofs.lemmas.List.{length-map}
use Rattle.std.proofs.lemmas.Option.{get_or_from_slice_get, slice_get_within}
use Rattle.pr_base.specs.Row.{row_size}
use Rattle.ring_lanes.specs.Held.{HeldRow}
use Rattle.ring_lanes.specs.declared.source.Source.{Source}
use Rattle.ring_lanes.specs.declared.source.Source.TheVariants.{Deck}
use Rattle.tif_packbits.specs.Frame.{IsFrame, framed_row}
use Rattle.tif_packbits.proofs.Frames.{AreFrames-frame}
use Rattle.pr_rack.specs.declared.rack.RackCall.{RackCall}
use Rattle.pr_rack.specs.declared.rack.RackCall.TheVariants.{Begin, Row, Finish}
use Rattle.pr_rack.specs.Rack.{with_row}
use Rattle.pr_rack.specs.Told.{RackTells}
use Rattle.plan_json.specs.Data.{plate_width}
use Rattle.site_agent.specs.declared.kept.Kept.TheVariants as kept
use Rattle.site_agent.specs.declared.kept.LeftCause.{LeftCause}
use Rattle.site_agent.specs.Given.{finished_count, is_kept}
use Rattle.site_agent.specs.Job.{SiteJob}
use Rattle.site_agent.specs.Kept.{GoesOn, IsCauseAt, TakenOnce}
use Rattle.site_agent.specs.Picked.{picked_job}
use Rattle.site_agent.specs.Refused.{OthersStayFor, taken_at}
use Rattle.site_agent.specs.Site.{SiteData}
use Rattle.site_agent.specs.Stands.{OthersHold, StandsAfter, grown, taken_below}
use Rattle.site_agent.proofs.Counting.{any}
use Rattle.site_agent.proofs.Drawing.{Keeps, row-taken}
use Rattle.site_agent.proofs.Going.{going_further, going_within, going_sides, going_begun, going_working}
use Rattle.site_agent.proofs.Others.{others-hold_at}
use Rattle.site_agent.proofs.Parts.{IsLeftAt, picked_below, picked_left}
use Rattle.site_agent.proofs.Racks.{rose_since}
use Rattle.site_agent.proofs.Steps.{is_kept-row}
use Rattle.replate.specs.declared.maker.Maker.{Maker}
use Rattle.replate.specs.declared.remade.RemadeEnd.{RemadeEnd}
use Rattle.replate.specs.declared.remade.RemadeEnd.TheVariants.{Done, Left}
use Rattle.replate.specs.Making.{Asks, Carries, GoesOnAt, HasLeft, HasPart, Made, ServedBy, SomeServed, Stopped, has_left}
use Rattle.replate.specs.Remade.{AreTakenUpTo, Making, drawn_below, files_for, job_for}

-- ---- the row

pub row_at : (making : Making) (frames : List (List ℕ)) (n : ℕ) (bytes : List ℕ) → Carries making frames → slice_get frames n ≡ Some bytes → slice_get making.rows n ≡ Some (framed_row bytes)
row_at making frames n bytes carries there = ap (λ (rows : List (List ℕ)). slice_get rows n) carries.framed ∙ row-taken frames n n bytes refl there

pub frame_at : (making : Making) (frames : List (List ℕ)) (n : ℕ) (bytes : List ℕ) → Carries making frames → slice_get frames n ≡ Some bytes → IsFrame bytes
frame_at making frames n bytes carries there =
    subst IsFrame (get_or_from_slice_get frames n bytes bytes there)
    (AreFrames-frame (row_size (plate_width making.plan)) (map framed_row frames) frames n bytes carries.rows_are.are (omega (arith, slice_get_within frames n bytes there, length-map frames framed_row)))

-- ---- a site that continues

-- the state of the site
pub stands_at : (making : Making) (site n : ℕ) (before now : RackTells) (going : SiteData) (made kept' : ℕ) → GoesOnAt making site n before now going made kept'
    → StandsAfter (picked_job making.plan making.out site (making.bits site)) making.rows Deck n before.tells now.tells going.counts
stands_at making site n before now going made kept' at =
    subst (λ (m : ℕ). StandsAfter (picked_job making.plan making.out site (making.bits site)) making.rows Deck m before.tells now.tells going.counts) at.next_is
    (subst (λ (job : SiteJob). StandsAfter job making.rows Deck going.next before.tells now.tells going.counts) at.job_is at.is.stands)

-- the files that its rack has in addition
pub files_at : (making : Making) (site n : ℕ) (before now : RackTells) (going : SiteData) (made kept' : ℕ) → GoesOnAt making site n before now going made kept'
    → now.tells.finished ≡ grown (take (finished_count (picked_job making.plan making.out site (making.bits site)) n) (files_for making site)) before.tells.finished
files_at making site n before now going made kept' at =
    (stands_at making site n before now going made kept' at).rack.finished
    ∙ ap (λ files. grown files before.tells.finished) (picked_below making.plan making.rows making.out site n (making.bits site))

pub part_at : (making : Making) (site n : ℕ) (before now : RackTells) (going : SiteData) (made kept' : ℕ) → GoesOnAt making site n before now going made kept' → HasPart making site before now
part_at making site n before now going made kept' at = record {
  part = record {
    files = finished_count (picked_job making.plan making.out site (making.bits site)) n;
    finished = files_at making site n before now going made kept' at;
    row = n;
    taken = inl (stands_at making site n before now going made kept' at).rack.taken;
    calls = inl at.missed;
  };
  faults = at.faults;
}

-- a site that left took the row at which it left only if the call was to finish its plate
left_taken : (making : Making) (site n : ℕ) (cause : LeftCause) (before now : Option (List (ℕ × Source))) → IsCauseAt (job_for making site) n cause → now ≡ taken_at cause.call n Deck (grown (drawn_below making site n) before)
    → AreTakenUpTo making site n before now
left_taken making site n cause before now at is = by cause.call is where
  by : (call : RackCall) → now ≡ taken_at call n Deck (grown (drawn_below making site n) before) → AreTakenUpTo making site n before now
  by Begin taken = inl taken
  by Row taken = inl taken
  by Finish taken = inr (is_kept-row (job_for making site) n at.index at.y any at.is, taken)

-- each site's rack has a part
pub served_part : (making : Making) (site n : ℕ) (before now : RackTells) (going : SiteData) (end : RemadeEnd) → ServedBy making site n before now going end → HasPart making site before now
served_part making site n before now going (Done made kept') at = part_at making site n before now going made kept' at
served_part making site n before now going (Left made path) left = record {
  part = record {
    files = made;
    finished = left.fits.finished;
    row = left.fits.row;
    taken = left_taken making site left.fits.row
        (record { plates = made; row = left.fits.row; call = left.fits.last_call; path = path })
        before.tells.taken now.tells.taken left.fits.cause left.fits.taken;
    calls = inr (made, path, left.fits);
  };
  faults = left.faults;
}

-- ---- the requirements of Site::keep

-- a site that hasn't left is done with some number of plates unless it leaves
is_done : (end : RemadeEnd) → has_left end ≡ false → (made : ℕ) × ((kept' : ℕ) × (end ≡ Done made kept'))
is_done (Done made kept') on = (made, (kept', refl))
is_done (Left made path) on = absurd (let e : true ≡ false = on in cc)

-- the site of a maker that continues
pub going_of : (making : Making) (site n : ℕ) (before now : RackTells) (going : SiteData) (end : RemadeEnd) (made kept' : ℕ) → end ≡ Done made kept' → ServedBy making site n before now going end
    → GoesOnAt making site n before now going made kept'
going_of making site n before now going end made kept' is served = subst (λ (e : RemadeEnd). ServedBy making site n before now going e) is served

pub asks : (frames : List (List ℕ)) (n : ℕ) (now : RackTells) (maker : Maker) (held : HeldRow) → SomeServed frames n now maker → has_left maker.end ≡ false → held.number ≡ n
    → slice_get frames held.number ≡ Some held.bytes → Asks maker.site held now.tells
asks frames n now maker held some going number there =
    let making : Making = some.making in
    let done = is_done maker.end going in
    let at : GoesOnAt making some.site' n some.before now maker.site done.0 done.1.0 = going_of making some.site' n some.before now maker.site maker.end done.0 done.1.0 done.1.1 some.is in
    let here : slice_get making.rows maker.site.next ≡ Some (framed_row held.bytes) =
    ap (slice_get making.rows) (at.next_is ∙ sym number) ∙ row_at making frames held.number held.bytes some.carries there in
    record {
      on = at.is.on;
      next_is = number ∙ sym at.next_is;
      within = going_within making.rows Deck some.before.tells now.tells maker.site (framed_row held.bytes) at.is here;
      frame = frame_at making frames held.number held.bytes some.carries there;
      row = going_sides making.rows Deck some.before.tells now.tells maker.site (framed_row held.bytes) at.is here;
      begun = going_begun making.rows Deck some.before.tells now.tells maker.site at.is;
      working = going_working making.rows Deck some.before.tells now.tells maker.site at.is;
    }

-- ---- the effect of keeping the row

-- a row of the deck
pub record IsPutRow (frames : List (List ℕ)) (n : ℕ) (held : HeldRow) : Type 0 where
  pub number_is : held.number ≡ n
  pub bytes_are : slice_get frames held.number ≡ Some held.bytes
  pub source_is : held.source ≡ Deck

-- the row was kept
goes_further : (making : Making) (frames : List (List ℕ)) (site n : ℕ) (before old new : RackTells) (held : HeldRow) (going next : SiteData) (made kept' : ℕ) → Carries making frames → IsPutRow frames n held
    → Keeps going next held old new kept.Done → GoesOnAt making site n before old going made kept' → GoesOnAt making site (n + 1) before new next made kept'
goes_further making frames site n before old new held going next made kept' carries row keeps at =
    let goes : GoesOn going next = keeps.goes_on in
    let here : slice_get making.rows going.next ≡ Some (framed_row held.bytes) =
    ap (slice_get making.rows) (at.next_is ∙ sym row.number_is) ∙ row_at making frames held.number held.bytes carries row.bytes_are in
    record {
      job_is = goes.job ∙ at.job_is;
      next_is = goes.next ∙ ap (λ m. m + 1) at.next_is;
      is = going_further making.rows Deck before.tells old.tells new.tells going next at.is goes
          (λ stands. subst (λ (s : Source). StandsAfter going.job making.rows s (going.next + 1) before.tells new.tells next.counts) row.source_is
          (keeps.keeps making.rows before.tells here
          (subst (λ (s : Source). StandsAfter going.job making.rows s going.next before.tells old.tells going.counts) (sym row.source_is) stands)));
      made_are = at.made_are;
      kept_are = at.kept_are;
      missed = keeps.done_missed ∙ at.missed;
      faults = (let since = at.faults in let stay = keeps.faults_stay in omega (arith, since, stay));
    }

pub made_on : (frames : List (List ℕ)) (n : ℕ) (old new : RackTells) (held : HeldRow) (maker : Maker) (next : SiteData) → has_left maker.end ≡ false → IsPutRow frames n held
    → Keeps maker.site next held old new kept.Done → Made frames n old new maker (record maker { site = next })
made_on frames n old new held maker next going row keeps =
    let done = is_done maker.end going in
    record {
      each = λ making site before carries served.
          subst (λ (e : RemadeEnd). ServedBy making site (n + 1) before new next e) (sym done.1.1)
          (goes_further making frames site n before old new held maker.site next done.0 done.1.0 carries row keeps (going_of making site n before old maker.site maker.end done.0 done.1.0 done.1.1 served));
    }

-- the site left
leaves_at : (making : Making) (frames : List (List ℕ)) (site n : ℕ) (before old new : RackTells) (held : HeldRow) (going next : SiteData) (made kept' : ℕ) (cause : LeftCause) → Carries making frames → IsPutRow frames n held
    → Keeps going next held old new (kept.Left cause) → GoesOnAt making site n before old going made kept' → HasLeft making site before new cause.plates cause.path
leaves_at making frames site n before old new held going next made kept' cause carries put keeps at =
    let job : SiteJob = picked_job making.plan making.out site (making.bits site) in
    let by : IsCauseAt going.job going.next cause = keeps.left in
    let cause-at : IsCauseAt job n cause = subst (λ (m : ℕ). IsCauseAt job m cause) at.next_is (subst (λ (j : SiteJob). IsCauseAt j going.next cause) at.job_is by) in
    let stay : OthersStayFor job n old.tells new.tells = subst (λ (m : ℕ). OthersStayFor job m old.tells new.tells) at.next_is (subst (λ (j : SiteJob). OthersStayFor j going.next old.tells new.tells) at.job_is keeps.others_stay) in
    let left : IsLeftAt (files_for making site) cause.plates cause.path = picked_left making.plan making.rows making.out site n (making.bits site) cause carries.plan_is cause-at in
    record {
      fits = record {
        finished = keeps.finished_stay ∙ files_at making site n before old going made kept' at ∙ ap (λ k. grown (take k (files_for making site)) before.tells.finished) (sym cause-at.plates);
        index = left.index;
        least = left.from;
        within = left.within;
        path_is = left.is;
        counted = rose_since before.faults old.faults new.faults at.faults keeps.left_counted;
        last_call = cause.call;
        missed = keeps.left_missed;
        row = cause.row;
        cause = subst (λ (m : ℕ). IsCauseAt job m cause) (sym cause-at.row) cause-at;
        taken = keeps.left_taken
            ∙ ap (λ m. taken_at cause.call m held.source old.tells.taken) (at.next_is ∙ sym cause-at.row)
            ∙ ap (λ s. taken_at cause.call cause.row s old.tells.taken) put.source_is
            ∙ ap (taken_at cause.call cause.row Deck)
            ((stands_at making site n before old going made kept' at).rack.taken
            ∙ ap (λ m. grown (taken_below job Deck m) before.tells.taken) (sym cause-at.row));
        others = subst (λ (m : ℕ). OthersHold job making.rows m new.tells) (sym cause-at.row)
            (others-hold_at job making.rows Deck n before.tells old.tells new.tells going.counts (stands_at making site n before old going made kept' at) stay);
      };
      faults = (let since = at.faults in let stay = keeps.faults_stay in omega (arith, since, stay));
    }

pub made_left : (frames : List (List ℕ)) (n : ℕ) (old new : RackTells) (held : HeldRow) (maker : Maker) (next : SiteData) (cause : LeftCause) → has_left maker.end ≡ false → IsPutRow frames n held
    → Keeps maker.site next held old new (kept.Left cause) → Made frames n old new maker (record { site = next; end = Left cause.plates cause.path })
made_left frames n old new held maker next cause going put keeps =
    let done = is_done maker.end going in
    record {
      each = λ making site before carries served.
          leaves_at making frames site n before old new held maker.site next done.0 done.1.0 cause carries put keeps (going_of making site n before old maker.site maker.end done.0 done.1.0 done.1.1 served);
    }

-- only a row of the site can run out of memory
own_row : (test : Bool) → (test ≡ false → kept.Memory ≡ kept.Done) → test ≡ true
own_row true passes = refl
own_row false passes = let e : kept.Memory ≡ kept.Done = passes refl in cc

-- so its rack took the rows below it, and the row itself or not
memory_taken : (making : Making) (frames : List (List ℕ)) (site n : ℕ) (before old new : RackTells) (held : HeldRow) (going next : SiteData) (made kept' : ℕ) → IsPutRow frames n held
    → Keeps going next held old new kept.Memory → GoesOnAt making site n before old going made kept' → AreTakenUpTo making site n before.tells.taken new.tells.taken
memory_taken making frames site n before old new held going next made kept' put keeps at =
    let stood : old.tells.taken ≡ grown (drawn_below making site n) before.tells.taken = (stands_at making site n before old going made kept' at).rack.taken in
    let own : is_kept (job_for making site) n ≡ true =
    subst (λ (m : ℕ). is_kept (job_for making site) m ≡ true) at.next_is (subst (λ (j : SiteJob). is_kept j going.next ≡ true) at.job_is (own_row (is_kept going.job going.next) keeps.passes)) in
    let once : TakenOnce going.next held.source old.tells.taken new.tells.taken = keeps.memory_taken in
    elim once [
      | inl none ↦ inl (none ∙ stood)
      | inr more ↦ inr (own, more ∙ ap (λ m. with_row m held.source old.tells.taken) at.next_is ∙ ap (λ s. with_row n s old.tells.taken) put.source_is ∙ ap (with_row n Deck) stood)
    ]

-- the rack ran out of memory
pub made_stopped : (frames : List (List ℕ)) (n : ℕ) (old new : RackTells) (held : HeldRow) (maker : Maker) (next : SiteData) → has_left maker.end ≡ false → IsPutRow frames n held
    → Keeps maker.site next held old new kept.Memory → Stopped frames n old new maker
made_stopped frames n old new held maker next going put keeps =
    let done = is_done maker.end going in
    record {
      each = λ making site before carries served.
          let at : GoesOnAt making site n before old maker.site done.0 done.1.0 = going_of making site n before old maker.site maker.end done.0 done.1.0 done.1.1 served in
          record {
            part = record {
              files = finished_count (picked_job making.plan making.out site (making.bits site)) n;
              finished = keeps.finished_stay ∙ files_at making site n before old maker.site done.0 done.1.0 at;
              row = n;
              taken = memory_taken making frames site n before old new held maker.site next done.0 done.1.0 put keeps at;
              calls = inl (keeps.memory_missed ∙ at.missed);
            };
            faults = (let since = at.faults in let stay = keeps.faults_stay in omega (arith, since, stay));
          };
    }

-- a site that has left remains so
pub left_stays : (frames : List (List ℕ)) (n : ℕ) (told : RackTells) (maker : Maker) → has_left maker.end ≡ true → Made frames n told told maker maker
left_stays frames n told maker out = record { each = λ making site before carries served. by making site before maker.end out served } where
  by : (making : Making) (site : ℕ) (before : RackTells) (end : RemadeEnd) → has_left end ≡ true → ServedBy making site n before told maker.site end → ServedBy making site (n + 1) before told maker.site end
  by making site before (Done made kept') out' at = absurd (let e : false ≡ true = out' in cc)
  by making site before (Left made path) out' left = left
