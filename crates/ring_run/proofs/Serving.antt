-- A reader of a run and its turn: a site continues, leaves, or runs out of memory; a key reader counts.
use Rattle.std.proofs.Common.{◌≡◌, ℕ, ◌+◌, ◌-◌, ◌<◌, ◌≤◌, inl, inr, Bool, true, false, if◌then◌else◌, List, length, map, take, Option, Some, None, IfSome, refl, sym, ap, subst, ◌∙◌, arith}
use Rattle.std.specs.Prelude.{is_some}
use Rattle.std.specs.Option.{option_map}
use Rattle.pr_base.specs.Count.{Rose}
use Rattle.pr_base.specs.Row.{row_size}
use Rattle.ring_lanes.specs.declared.source.Source.{Source}
use Rattle.ring_rule.specs.declared.view.RingNumbers.{RingNumbers}
use Rattle.ring_lanes.specs.Reader.{ReaderState, source_of}
use Rattle.tif_packbits.specs.Frame.{AreFrames, framed_row}
use Rattle.tif_packbits.proofs.Frames.{AreFrames-length, AreFrames-rows}
use Rattle.pr_rack.specs.declared.rack.RackCall.{RackCall}
use Rattle.pr_rack.specs.declared.rack.RackCall.TheVariants.{Begin, Row, Finish}
use Rattle.pr_rack.specs.Rack.{Plate}
use Rattle.pr_rack.specs.Told.{RackTells, Tells}
use Rattle.plan_json.specs.Data.{plate_width}
use Rattle.plan_rows.specs.Plates.{site_plates}
use Rattle.plan_rows.specs.Rows.{RowPlanData, places_in, row_places, rows_of}
use Rattle.ink_keys.specs.Counts.{CountsData, IsBounded}
use Rattle.ink_keys.specs.Turn.{AreRowsOf, CountsRows, KeyReaderData}
use Rattle.ink_keys.proofs.Turning.{counted-both}
use Rattle.site_agent.specs.declared.kept.LeftCause.{LeftCause}
use Rattle.site_agent.specs.Given.{finished_count, is_kept}
use Rattle.site_agent.specs.Going.{IsGoing}
use Rattle.site_agent.specs.Job.{IsJob, SiteJob}
use Rattle.site_agent.specs.Kept.{IsCauseAt, TakenOnce}
use Rattle.site_agent.specs.Plan.{job_of, FitsLeft}
use Rattle.site_agent.specs.Refused.{taken_at}
use Rattle.site_agent.specs.Site.{SiteData}
use Rattle.site_agent.specs.Stands.{StandsAfter, files_below, grown, plate_below, taken_below}
use Rattle.site_agent.specs.Turn.{AreRowsFor, GoesOnBy, GoesOnTo, IsGoingBy, LeavesAt, LeavesBy, StopsAt, StopsBy}
use Rattle.site_agent.proofs.Counting.{any}
use Rattle.site_agent.proofs.Givens.{given-all}
use Rattle.site_agent.proofs.Jobs.{job_is}
use Rattle.site_agent.proofs.Keeps.{drawn_at_end, fits_left}
use Rattle.site_agent.proofs.Opens.{closed, closed-cases, plate_at}
use Rattle.site_agent.proofs.Racks.{rose_since}
use Rattle.site_agent.proofs.Runs.{files_are, site_at_end}
use Rattle.site_agent.proofs.Steps.{is_kept-row}
use Rattle.site_agent.proofs.Taken.{taken_first, taken_in_part, taken_up_to}
use Rattle.ring_run.specs.Fits.{Delivery, FitsCause, FitsFinished, FitsPart, files_for, kept_rows}
use Rattle.ring_run.specs.declared.role.Role.{Role}
use Rattle.ring_run.specs.declared.role.Role.TheVariants.{Going, Left, Stopped, Counting}
use Rattle.ring_run.specs.Seat.{SeatData}
use Rattle.ring_run.specs.Served.{Carries, GoesOnAt, HasLeft, HasStopped, IsSeated, IsServed, SomeSeated, TakesOn, Turned, Work, first_counts, is_out, to_take}

-- ---- the rows of a ring

-- the rows to deliver are those of the ring's frames
pub rows_are : (delivery : Delivery) (ring : RingNumbers) → Carries delivery ring → map framed_row ring.rows ≡ delivery.rows
rows_are delivery ring carries = AreFrames-rows (row_size (plate_width delivery.plan)) delivery.rows ring.rows carries.are

pub total_is : (delivery : Delivery) (ring : RingNumbers) → Carries delivery ring → ring.total ≡ length (row_places delivery.plan)
total_is delivery ring carries = carries.total ∙ AreFrames-length (row_size (plate_width delivery.plan)) delivery.rows ring.rows carries.are ∙ carries.count

-- they are frames of the plates' width
pub rows_of_ring : (delivery : Delivery) (ring : RingNumbers) → Carries delivery ring → AreRowsOf (plate_width delivery.plan) ring
rows_of_ring delivery ring carries = record {
  count = sym carries.total;
  frames = subst (λ (rows : List (List ℕ)). AreFrames (row_size (plate_width delivery.plan)) rows ring.rows) (sym (rows_are delivery ring carries)) carries.are;
}

-- a site that continues does so with the rows of its reader
going_by : (delivery : Delivery) (reader : ReaderState) (before now : Tells) (going : SiteData) → Carries delivery reader.ring → IsGoing delivery.rows (delivery.source reader.number) before now going → IsGoingBy reader before now going
going_by delivery reader before now going carries is =
    subst (λ (rows : List (List ℕ)). IsGoing rows (source_of reader) before now going) (sym (rows_are delivery reader.ring carries))
    (subst (λ (s : Source). IsGoing delivery.rows s before now going) (carries.source_is reader.number) is)

going_for : (delivery : Delivery) (reader : ReaderState) (before now : Tells) (going : SiteData) → Carries delivery reader.ring → IsGoingBy reader before now going → IsGoing delivery.rows (delivery.source reader.number) before now going
going_for delivery reader before now going carries is =
    subst (λ (s : Source). IsGoing delivery.rows s before now going) (sym (carries.source_is reader.number))
    (subst (λ (rows : List (List ℕ)). IsGoing rows (source_of reader) before now going) (rows_are delivery reader.ring carries) is)

-- ---- what a turn asks

-- the rows are those of the site's job
pub asked_rows : (delivery : Delivery) (ring : RingNumbers) (site n : ℕ) (before now : RackTells) (going : SiteData) → Carries delivery ring → GoesOnAt delivery site n before now going → AreRowsFor going.job ring
asked_rows delivery ring site n before now going carries at = record {
  total = carries.total ∙ AreFrames-length (row_size (plate_width delivery.plan)) delivery.rows ring.rows carries.are ∙ at.is.total;
  count = sym carries.total;
  frames = subst (λ (rows : List (List ℕ)). AreFrames (row_size going.job.width) rows ring.rows) (sym (rows_are delivery ring carries))
      (subst (λ (job : SiteJob). AreFrames (row_size job.width) delivery.rows ring.rows) (sym at.job_is) carries.are);
}

-- ---- a site that continues

-- the state of the site, in the terms of the plan
stands_at : (delivery : Delivery) (site n : ℕ) (before now : RackTells) (going : SiteData) → GoesOnAt delivery site n before now going
    → StandsAfter (job_of delivery.plan delivery.out site) delivery.rows (delivery.source site) n before.tells now.tells going.counts
stands_at delivery site n before now going at =
    subst (λ (m : ℕ). StandsAfter (job_of delivery.plan delivery.out site) delivery.rows (delivery.source site) m before.tells now.tells going.counts) at.next_is
    (subst (λ (job : SiteJob). StandsAfter job delivery.rows (delivery.source site) going.next before.tells now.tells going.counts) at.job_is at.is.stands)

-- its rack has, in addition, the first files and the first rows
pub going_part : (delivery : Delivery) (ring : RingNumbers) (site n : ℕ) (before now : RackTells) (going : SiteData) → Carries delivery ring → n ≤ length (row_places delivery.plan)
    → GoesOnAt delivery site n before now going → FitsPart delivery site before now
going_part delivery ring site n before now going carries within at =
    let job : SiteJob = job_of delivery.plan delivery.out site in
    let stands = stands_at delivery site n before now going at in
    record {
      files = finished_count job n;
      rows' = length (taken_below job (delivery.source site) n);
      finished = stands.rack.finished ∙ ap (λ files. grown (take (finished_count job n) files) before.tells.finished) (files_are delivery.plan delivery.rows delivery.out site);
      taken = stands.rack.taken ∙ ap (λ rows. grown rows before.tells.taken) (taken_first delivery.plan delivery.out site (delivery.source site) n carries.plan_is within);
      failed = inl at.missed;
    }

-- after the last row it has finished
pub finishes : (delivery : Delivery) (ring : RingNumbers) (site : ℕ) (before now : RackTells) (going : SiteData) → Carries delivery ring
    → GoesOnAt delivery site (length (row_places delivery.plan)) before now going → FitsFinished delivery site before now (length (site_plates delivery.plan site)) (kept_rows delivery.plan site)
finishes delivery ring site before now going carries at =
    let job : SiteJob = job_of delivery.plan delivery.out site in
    let total : ℕ = length (row_places delivery.plan) in
    let stands = stands_at delivery site total before now going at in
    record {
      plates_are = refl;
      rows_are = refl;
      finished = site_at_end delivery.plan delivery.rows delivery.out site (delivery.source site) before.tells now.tells going.counts carries.plan_is stands;
      taken = stands.rack.taken ∙ ap (λ rows. grown rows before.tells.taken) (drawn_at_end delivery.plan delivery.out site (delivery.source site) carries.plan_is);
      begun = λ slot less. stands.rack.begun slot less ∙ ap (λ plate. Some (is_some plate)) (none job slot (job_is delivery.plan delivery.out site carries.plan_is));
      missed = at.missed;
    } where
      none : (job : SiteJob) (slot : ℕ) → IsJob job → plate_below job delivery.rows job.total slot ≡ None
      none job slot is = ap (option_map _) (closed job job.total slot (λ j d less same. closed-cases job.height job.total (plate_at job j d) (inr (given-all job.height job.total (plate_at job j d) (let high = is.height in omega arith) (is.within j d less)))))

-- ---- a site that leaves

left_once : (call : RackCall) (n : ℕ) (source : Source) (old new : Option (List (ℕ × Source))) → new ≡ taken_at call n source old → TakenOnce n source old new
left_once Begin n source old new took = inl took
left_once Row n source old new took = inl took
left_once Finish n source old new took = inr took

-- it leaves at a row of its own
pub leaves : (delivery : Delivery) (reader : ReaderState) (n : ℕ) (before old new : RackTells) (going : SiteData) (cause : LeftCause) → Carries delivery reader.ring → cause.row < length (row_places delivery.plan)
    → GoesOnAt delivery reader.number n before old going → IsCauseAt going.job cause.row cause → Rose old.faults new.faults → IfSome new.missed (λ last. last ≡ Some (cause.call, cause.path))
    → LeavesAt going.job (map framed_row reader.ring.rows) (source_of reader) before.tells new.tells cause → old.faults ≤ new.faults → HasLeft delivery reader.number before new cause
leaves delivery reader n before old new going cause carries within at by rose missed left faults =
    let job : SiteJob = job_of delivery.plan delivery.out reader.number in
    let from : Source = delivery.source reader.number in
    let cause-at : IsCauseAt job cause.row cause = subst (λ (j : SiteJob). IsCauseAt j cause.row cause) at.job_is by in
    let left' : LeavesAt job delivery.rows from before.tells new.tells cause =
    subst (λ (s : Source). LeavesAt job delivery.rows s before.tells new.tells cause) (sym (carries.source_is reader.number))
    (subst (λ (rows : List (List ℕ)). LeavesAt job rows (source_of reader) before.tells new.tells cause) (rows_are delivery reader.ring carries)
    (subst (λ (j : SiteJob). LeavesAt j (map framed_row reader.ring.rows) (source_of reader) before.tells new.tells cause) at.job_is left)) in
    let fits : FitsLeft delivery.plan delivery.rows delivery.out reader.number cause (files_below job delivery.rows cause.row) = fits_left delivery.plan delivery.rows delivery.out reader.number cause.row cause carries.plan_is within cause-at in
    let files : new.tells.finished ≡ grown (take cause.plates (files_for delivery reader.number)) before.tells.finished =
    left'.finished ∙ ap (λ list. grown list before.tells.finished) fits.grown' in
    let kept : is_kept job cause.row ≡ true = is_kept-row job cause.row cause-at.index cause-at.y any cause-at.is in
    let took : Option (List (ℕ × Source)) = grown (taken_below job from cause.row) before.tells.taken in
    let part = taken_in_part delivery.plan delivery.out reader.number from cause.row before.tells.taken took new.tells.taken carries.plan_is within kept refl (left_once cause.call cause.row from took new.tells.taken left'.taken) in
    let fits-cause : FitsCause delivery reader.number before new cause =
    record {
      cause_fits = subst (λ (list : List Plate). FitsLeft delivery.plan delivery.rows delivery.out reader.number cause list) fits.grown' fits;
      finished = files;
      taken = taken_up_to delivery.plan delivery.out reader.number from cause.row cause before.tells.taken took new.tells.taken carries.plan_is within cause-at refl left'.taken;
      counted = rose_since before.faults old.faults new.faults at.faults rose;
      missed = missed;
      others = left'.others;
    } in
    record {
      fits = fits-cause;
      part = record { files = cause.plates; rows' = part.0; finished = files; taken = part.1; failed = inr (cause, fits-cause) };
      faults = (let since = at.faults in omega (arith, since));
    }

-- ---- a site whose rack runs out of memory

pub stops : (delivery : Delivery) (reader : ReaderState) (n m : ℕ) (before old new : RackTells) (going : SiteData) → Carries delivery reader.ring → m < length (row_places delivery.plan)
    → GoesOnAt delivery reader.number n before old going → StopsAt going.job (map framed_row reader.ring.rows) (source_of reader) m before.tells new.tells → new.missed ≡ old.missed → old.faults ≤ new.faults
    → HasStopped delivery reader.number before new
stops delivery reader n m before old new going carries within at stopped missed faults =
    let job : SiteJob = job_of delivery.plan delivery.out reader.number in
    let from : Source = delivery.source reader.number in
    let stopped' : StopsAt job delivery.rows from m before.tells new.tells =
    subst (λ (s : Source). StopsAt job delivery.rows s m before.tells new.tells) (sym (carries.source_is reader.number))
    (subst (λ (rows : List (List ℕ)). StopsAt job rows (source_of reader) m before.tells new.tells) (rows_are delivery reader.ring carries)
    (subst (λ (j : SiteJob). StopsAt j (map framed_row reader.ring.rows) (source_of reader) m before.tells new.tells) at.job_is stopped)) in
    let took : Option (List (ℕ × Source)) = grown (taken_below job from m) before.tells.taken in
    let part = taken_in_part delivery.plan delivery.out reader.number from m before.tells.taken took new.tells.taken carries.plan_is within stopped'.kept refl stopped'.taken in
    record {
      part = record {
        files = finished_count job m;
        rows' = part.0;
        finished = stopped'.finished ∙ ap (λ files. grown (take (finished_count job m) files) before.tells.finished) (files_are delivery.plan delivery.rows delivery.out reader.number);
        taken = part.1;
        failed = inl (missed ∙ at.missed);
      };
      missed = missed ∙ at.missed;
      faults = (let since = at.faults in omega (arith, since));
    }

-- ---- rows that are yet to be taken

-- a joined reader whose cursor didn't fall has no more rows to take than before
pub fewer : (old new : ReaderState) → new.ring ≡ old.ring → old.left ≡ false → old.cursor ≤ new.cursor → to_take new ≤ to_take old
fewer old new ring joined grows = by new.left old.left joined where
  by : (left left' : Bool) → left' ≡ false → (if left then 0 else new.ring.total - new.cursor) ≤ (if left' then 0 else old.ring.total - old.cursor)
  by left true e = absurd (let f : true ≡ false = e in cc)
  by true false e = omega arith
  by false false e = let same : new.ring.total ≡ old.ring.total = ap (λ (r : RingNumbers). r.total) ring in omega (arith, same, grows)

-- and fewer rows to take where its cursor rose
pub less : (old new : ReaderState) → new.ring ≡ old.ring → old.left ≡ false → old.cursor < new.cursor → new.cursor ≤ old.ring.total → to_take new < to_take old
less old new ring joined grows within = by new.left old.left joined where
  by : (left left' : Bool) → left' ≡ false → (if left then 0 else new.ring.total - new.cursor) < (if left' then 0 else old.ring.total - old.cursor)
  by left true e = absurd (let f : true ≡ false = e in cc)
  by true false e = omega (arith, grows, within)
  by false false e = let same : new.ring.total ≡ old.ring.total = ap (λ (r : RingNumbers). r.total) ring in omega (arith, same, grows, within)

-- ---- a turn

-- a reader that takes no row
pub idle : (told : Option RackTells) (seat : SeatData) → (seat.reader.left ≡ false → seat.reader.cursor < seat.reader.seen → ⊥) → Turned told told seat seat
idle told seat none = record {
  end = record {
    stays = refl;
    fewer = (let e : to_take seat.reader ≤ to_take seat.reader = omega arith in e);
    gets_on = λ joined more. absurd (none joined more);
  };
  seated = λ work before carries seated. seated;
}

-- a site that has left, or ran out of memory, takes no row
pub idle_out : (told : Option RackTells) (seat : SeatData) → SomeSeated told seat → is_out seat.role ≡ true → Turned told told seat seat
idle_out told seat some out = idle told seat (λ joined more. let both : false ≡ true = sym joined ∙ some.is.left ∙ out in cc)

-- what is unchanged of a reader's end in a turn
abbrev pub StaysBut : ReaderState → ReaderState → Type 0
StaysBut old new = new ≡ record old { cursor = new.cursor; left = new.left; seen = new.seen; loads = new.loads }

takes_on : (was is : ReaderState) → StaysBut was is → was.left ≡ false → was.cursor ≤ is.cursor → is.cursor ≤ was.ring.total → (was.cursor < was.seen → was.cursor < is.cursor) → TakesOn was is
takes_on was is stays joined grows within gets_on =
    let ring : is.ring ≡ was.ring = ap (λ (x : ReaderState). x.ring) stays in
    record {
      stays = stays;
      fewer = fewer was is ring joined grows;
      gets_on = λ e more. less was is ring joined (gets_on more) within;
    }

-- what a site is asked for, where it has a rack
going_at : (work : Work) (before : Option RackTells) (told : RackTells) (reader : ReaderState) (going : SiteData) → IsSeated work reader.number before (Some told) (record { reader = reader; role = Going going })
    → (first : RackTells) × (before ≡ Some first) × GoesOnAt work.delivery reader.number reader.cursor first told going
going_at work before told reader going seated = by before seated.is where
  by : (o : Option RackTells) → IsServed work reader.number reader.ring reader.cursor o (Some told) (Going going) → (first : RackTells) × (o ≡ Some first) × GoesOnAt work.delivery reader.number reader.cursor first told going
  by None is = absurd is
  by (Some first) is = (first, refl, is)

-- the site that may take its turn
pub some_going_at : (told : RackTells) (reader : ReaderState) (going : SiteData) (some : SomeSeated (Some told) (record { reader = reader; role = Going going }))
    → (first : RackTells) × GoesOnAt some.work.delivery reader.number reader.cursor first told going
some_going_at told reader going some = let at = going_at some.work some.before told reader going some.is in (at.0, at.2)

-- each state of a site after a turn, from what holds in each run for what its rack reported at first
turned_to : (old new : RackTells) (was is : ReaderState) (going : SiteData) (next : Role) → StaysBut was is → was.left ≡ false → is.left ≡ is_out next → is.cursor ≤ was.ring.total → TakesOn was is
    → ((work : Work) (first : RackTells) → Carries work.delivery was.ring → GoesOnAt work.delivery was.number was.cursor first old going → IsServed work was.number is.ring is.cursor (Some first) (Some new) next)
    → Turned (Some old) (Some new) (record { reader = was; role = Going going }) (record { reader = is; role = next })
turned_to old new was is going next stays joined left within takes serves = record {
  end = takes;
  seated = λ work before carries seated.
      let at = going_at work before old was going seated in
      record {
        home = ap (λ (x : ReaderState). x.held) stays ∙ seated.home;
        within = subst (λ (r : RingNumbers). is.cursor ≤ r.total) (sym (ap (λ (x : ReaderState). x.ring) stays)) within;
        left = left;
        is = subst (λ (o : Option RackTells). IsServed work was.number is.ring is.cursor o (Some new) next) (sym at.1) (serves work at.0 carries at.2);
      };
}

-- the site continues
pub turned_on : (old new : RackTells) (was is : ReaderState) (going next : SiteData) → StaysBut was is → is.left ≡ false → was.left ≡ false → was.cursor ≤ is.cursor → is.cursor ≤ was.ring.total → (was.cursor < was.seen → was.cursor < is.cursor)
    → GoesOnBy was going next old new → GoesOnTo going next is.cursor → new.missed ≡ old.missed → old.faults ≤ new.faults
    → Turned (Some old) (Some new) (record { reader = was; role = Going going }) (record { reader = is; role = Going next })
turned_on old new was is going next stays joined' joined grows within gets_on stands goes missed faults =
    turned_to old new was is going (Going next) stays joined joined' within (takes_on was is stays joined grows within gets_on)
    (λ work first carries at. record {
      job_is = goes.job ∙ at.job_is;
      next_is = goes.next;
      is = going_for work.delivery was first.tells new.tells next carries (stands first.tells (going_by work.delivery was first.tells old.tells going carries at.is));
      missed = missed ∙ at.missed;
      faults = (let since = at.faults in omega (arith, since, faults));
    })

-- the site leaves
pub turned_left : (old new : RackTells) (was is : ReaderState) (going : SiteData) (cause : LeftCause) → StaysBut was is → is.left ≡ true → was.left ≡ false → was.cursor < is.cursor → is.cursor ≤ was.ring.total
    → IsCauseAt going.job cause.row cause → cause.row + 1 ≡ is.cursor → Rose old.faults new.faults → IfSome new.missed (λ last. last ≡ Some (cause.call, cause.path))
    → LeavesBy was going old new cause → old.faults ≤ new.faults
    → Turned (Some old) (Some new) (record { reader = was; role = Going going }) (record { reader = is; role = Left cause })
turned_left old new was is going cause stays out joined grows within by row rose missed leaves' faults =
    turned_to old new was is going (Left cause) stays joined out within (takes_on was is stays joined (omega (arith, grows)) within (λ more. grows))
    (λ work first carries at.
    let total = total_is work.delivery was.ring carries in
    leaves work.delivery was was.cursor first old new going cause carries (omega (arith, total, row, within)) at by rose missed
    (leaves' first.tells (going_by work.delivery was first.tells old.tells going carries at.is)) faults)

-- the site runs out of memory
pub turned_out : (old new : RackTells) (was is : ReaderState) (going : SiteData) → StaysBut was is → is.left ≡ true → was.left ≡ false → was.cursor < is.cursor → is.cursor ≤ was.ring.total
    → ((n : ℕ) → n + 1 ≡ is.cursor → StopsBy was going old new n) → new.missed ≡ old.missed → old.faults ≤ new.faults
    → Turned (Some old) (Some new) (record { reader = was; role = Going going }) (record { reader = is; role = Stopped })
turned_out old new was is going stays out joined grows within stops' missed faults =
    let last : (is.cursor - 1) + 1 ≡ is.cursor = omega (arith, grows) in
    turned_to old new was is going Stopped stays joined out within (takes_on was is stays joined (omega (arith, grows)) within (λ more. grows))
    (λ work first carries at.
    let total = total_is work.delivery was.ring carries in
    stops work.delivery was was.cursor (is.cursor - 1) first old new going carries (omega (arith, total, last, within)) at
    (stops' (is.cursor - 1) last first.tells (going_by work.delivery was first.tells old.tells going carries at.is)) missed faults)

-- ---- a key reader

-- what its turn asks: the rows of the ring are those of its row plan, and frames of the plates' width
pub counting_at : (work : Work) (before told : Option RackTells) (reader : ReaderState) (key : KeyReaderData) → Carries work.delivery reader.ring → IsSeated work reader.number before told (record { reader = reader; role = Counting key })
    → (reader.ring.total ≡ length (places_in key.rows)) × AreRowsOf key.counts.width reader.ring × IsBounded key.counts reader.cursor
counting_at work before told reader key carries seated =
    let is = seated.is.1 in
    let width : key.counts.width ≡ plate_width work.delivery.plan = ap (λ (c : CountsData). c.width) is.counted.same in (
      total_is work.delivery reader.ring carries ∙ ap (λ (p : RowPlanData). length (places_in p)) (sym is.rows),
      subst (λ (n : ℕ). AreRowsOf n reader.ring) (sym width) (rows_of_ring work.delivery reader.ring carries),
      is.bounded,
    )

-- it counts rows
pub turned_counting : (was is : ReaderState) (old new : KeyReaderData) → was.left ≡ false → new.rows ≡ old.rows → CountsRows old.rows was.ring was.cursor is.cursor old.counts new.counts → IsBounded new.counts is.cursor
    → is ≡ record was { cursor = is.cursor; seen = is.seen; loads = is.loads } → was.cursor ≤ is.cursor → is.cursor ≤ was.ring.total → (was.cursor < was.seen → was.cursor < is.cursor)
    → Turned None None (record { reader = was; role = Counting old }) (record { reader = is; role = Counting new })
turned_counting was is old new joined rows counts bounded stays grows within gets_on =
    let ring : is.ring ≡ was.ring = ap (λ (x : ReaderState). x.ring) stays in
    let left : is.left ≡ was.left = ap (λ (x : ReaderState). x.left) stays in
    record {
      end = takes_on was is (stays ∙ ap {A = Bool} (λ l. record was { cursor = is.cursor; left = l; seen = is.seen; loads = is.loads }) (sym left)) joined grows within gets_on;
      seated = λ work before carries seated.
          let at = seated.is.1 in
          record {
            home = ap (λ (x : ReaderState). x.held) stays ∙ seated.home;
            within = subst (λ (r : RingNumbers). is.cursor ≤ r.total) (sym ring) within;
            left = left ∙ joined;
            is = (
              refl,
              record {
                rows = rows ∙ at.rows;
                bounded = bounded;
                counted = subst (λ (r : RingNumbers). CountsRows (rows_of work.delivery.plan) r 0 is.cursor (first_counts work.delivery.plan work.keys) new.counts) (sym ring)
                    (counted-both (rows_of work.delivery.plan) was.ring 0 was.cursor is.cursor (first_counts work.delivery.plan work.keys) old.counts new.counts (let e : 0 ≤ was.cursor = omega arith in e) grows at.counted
                    (subst (λ (p : RowPlanData). CountsRows p was.ring was.cursor is.cursor old.counts new.counts) at.rows counts));
              },
            );
          };
    }
