-- A row that a site takes from its reader and gives back.
use Rattle.std.proofs.Common.{◌≡◌, ◌≢◌, ℕ, ◌+◌, ◌≤◌, Bool, true, false, List, length, map, Option, Some, Ok, IfSome, refl, sym, ap, subst, ◌∙◌, arith}
use Rattle.std.specs.Prelude.{slice_get}
use Rattle.std.specs.Option.{option_map}
use Rattle.std.proofs.lemmas.List.{length-map}
use Rattle.std.proofs.lemmas.Option.{slice_get-map, slice_get_within, get_or_from_slice_get}
use Rattle.pr_base.specs.Count.{Rose}
use Rattle.pr_base.specs.Row.{row_size}
use Rattle.ring_rule.specs.declared.view.RingNumbers.{RingNumbers}
use Rattle.ring_lanes.specs.declared.source.Source.{Source}
use Rattle.ring_lanes.specs.Held.{HeldRow}
use Rattle.ring_lanes.specs.Reader.{ReaderState, Closes, IsOpened, SeesOnce, source_of}
use Rattle.ring_lanes.proofs.Overs.{closes-row}
use Rattle.tif_packbits.specs.Frame.{IsFrame, framed_row}
use Rattle.tif_packbits.proofs.Frames.{AreFrames-frame}
use Rattle.pr_rack.specs.Told.{RackTells, Tells}
use Rattle.site_agent.specs.declared.kept.Kept.{Kept}
use Rattle.site_agent.specs.declared.kept.Kept.TheVariants.{Done, Left, Memory}
use Rattle.site_agent.specs.declared.kept.LeftCause.{LeftCause}
use Rattle.site_agent.specs.Draw.{Draws, IsReady, stage}
use Rattle.site_agent.specs.Given.{is_kept}
use Rattle.site_agent.specs.Job.{SiteJob}
use Rattle.site_agent.specs.Kept.{GoesOn, IfLeft, IsCauseAt, KeepsRow, OnDone, OnEnd, OnMemory, TakenOnce}
use Rattle.site_agent.specs.Refused.{OthersStayFor, taken_at}
use Rattle.site_agent.specs.Site.{SiteData}
use Rattle.site_agent.specs.Stands.{AreAsLong, AreBegun, OthersHold, StandsAfter, files_below, grown, taken_below}
use Rattle.site_agent.specs.Turn.{AreRowsFor, IsGoingBy, LeavesAt, StopsAt}
use Rattle.site_agent.proofs.Going.{going_further}
use Rattle.site_agent.proofs.Others.{others-hold_at}

-- ---- the row

pub frame-taken : (job : SiteJob) (ring : RingNumbers) (n : ℕ) (bytes : List ℕ) → AreRowsFor job ring
    → slice_get ring.rows n ≡ Some bytes → IsFrame bytes
frame-taken job ring n bytes are there =
    subst IsFrame (get_or_from_slice_get ring.rows n bytes bytes there)
    (AreFrames-frame (row_size job.width) (map framed_row ring.rows) ring.rows n bytes are.frames (omega (arith, slice_get_within ring.rows n bytes there, length-map ring.rows framed_row)))

pub row-taken : (rows : List (List ℕ)) (n m : ℕ) (bytes : List ℕ) → n ≡ m → slice_get rows n ≡ Some bytes
    → slice_get (map framed_row rows) m ≡ Some (framed_row bytes)
row-taken rows n m bytes same there =
    ap (slice_get (map framed_row rows)) (sym same) ∙ slice_get-map framed_row rows n ∙ ap (λ o. option_map framed_row o) there

pub side-taken : (job : SiteJob) (ring : RingNumbers) (n : ℕ) (bytes : List ℕ) → AreRowsFor job ring
    → slice_get ring.rows n ≡ Some bytes → length (framed_row bytes) ≡ row_size job.width
side-taken job ring n bytes are there =
    let here : slice_get (map framed_row ring.rows) n ≡ Some (framed_row bytes) = row-taken ring.rows n n bytes refl there in
    ap length (sym (get_or_from_slice_get (map framed_row ring.rows) n (framed_row bytes) (framed_row bytes) here))
    ∙ are.frames.each n (framed_row bytes) (slice_get_within (map framed_row ring.rows) n (framed_row bytes) here)

-- ---- the effect of keeping it on the site and its rack

-- the clauses of `Site::keep`
pub record Keeps (site site' : SiteData) (held : HeldRow) (old new : RackTells) (kept : Kept) : Type 0 where
  pub keeps : OnDone kept (KeepsRow site site' held old.tells new.tells)
  pub goes_on : OnDone kept (GoesOn site site')
  pub begun_on : OnDone kept (AreBegun site'.job site'.next new.tells.begun)
  pub working_on : OnDone kept (IfSome new.tells.working (AreAsLong site'.job site'.next site'.counts))
  pub done_missed : OnDone kept (new.missed ≡ old.missed)
  pub passes : is_kept site.job site.next ≡ false → kept ≡ Done
  pub left : IfLeft kept (IsCauseAt site.job site.next)
  pub left_counted : IfLeft kept (λ _. Rose old.faults new.faults)
  pub left_missed : IfLeft kept (λ cause. IfSome new.missed (λ last. last ≡ Some (cause.call, cause.path)))
  pub left_taken : IfLeft kept (λ cause. new.tells.taken
      ≡ taken_at cause.call site.next held.source old.tells.taken)
  pub memory_missed : OnMemory kept (new.missed ≡ old.missed)
  pub memory_taken : OnMemory kept (TakenOnce site.next held.source old.tells.taken new.tells.taken)
  pub finished_stay : OnEnd kept (new.tells.finished ≡ old.tells.finished)
  pub others_stay : OnEnd kept (OthersStayFor site.job site.next old.tells new.tells)
  pub ended : OnEnd kept (site'.ended ≡ true)
  pub faults_stay : old.faults ≤ new.faults

going-on : (site site' : SiteData) (reader : ReaderState) (held : HeldRow) (old new before : Tells)
    → slice_get (map framed_row reader.ring.rows) site.next ≡ Some (framed_row held.bytes)
    → held.source ≡ source_of reader
    → KeepsRow site site' held old new → GoesOn site site' → IsGoingBy reader before old site
    → IsGoingBy reader before new site'
going-on site site' reader held old new before here from keeps goes going =
    let rows : List (List ℕ) = map framed_row reader.ring.rows in
    going_further rows (source_of reader) before old new site site' going goes
    (λ stands.
    subst (λ (s : Source). StandsAfter site.job rows s (site.next + 1) before new site'.counts) from
    (keeps rows before here (subst (λ (s : Source). StandsAfter site.job rows s site.next before old site.counts) (sym from) stands)))

leaving : (site : SiteData) (reader : ReaderState) (source : Source) (old new before : Tells)
    (cause : LeftCause) → source ≡ source_of reader → cause.row ≡ site.next → new.finished ≡ old.finished
    → new.taken ≡ taken_at cause.call site.next source old.taken → OthersStayFor site.job site.next old new
    → IsGoingBy reader before old site
    → LeavesAt site.job (map framed_row reader.ring.rows) (source_of reader) before new cause
leaving site reader source old new before cause from row finished taken stay going =
    let rows : List (List ℕ) = map framed_row reader.ring.rows in
    let src : Source = source_of reader in
    record {
      finished = finished ∙ going.stands.rack.finished ∙ ap (λ n. grown (files_below site.job rows n) before.finished) (sym row);
      taken =
          taken
          ∙ ap (λ s. taken_at cause.call site.next s old.taken) from
          ∙ ap (taken_at cause.call site.next src) going.stands.rack.taken
          ∙ ap (λ n. taken_at cause.call n src (grown (taken_below site.job src n) before.taken)) (sym row);
      others = subst (λ (n : ℕ). OthersHold site.job rows n new) (sym row) (others-hold_at site.job rows src site.next before old new site.counts going.stands stay);
    }

stopping : (site : SiteData) (reader : ReaderState) (source : Source) (old new before : Tells)
    → is_kept site.job site.next ≡ true → source ≡ source_of reader → reader.cursor ≡ site.next
    → new.finished ≡ old.finished
    → TakenOnce site.next source old.taken new.taken → OthersStayFor site.job site.next old new
    → IsGoingBy reader before old site
    → StopsAt site.job (map framed_row reader.ring.rows) (source_of reader) reader.cursor before new
stopping site reader source old new before kept from next finished taken stay going =
    let rows : List (List ℕ) = map framed_row reader.ring.rows in
    let src : Source = source_of reader in
    record {
      kept = ap (is_kept site.job) next ∙ kept;
      finished = finished ∙ going.stands.rack.finished ∙ ap (λ n. grown (files_below site.job rows n) before.finished) (sym next);
      taken =
          subst (λ (n : ℕ). TakenOnce n src (grown (taken_below site.job src n) before.taken) new.taken) (sym next)
          (subst (λ (t : Option (List (ℕ × Source))). TakenOnce site.next src t new.taken) going.stands.rack.taken
          (subst (λ (s : Source). TakenOnce site.next s old.taken new.taken) from taken));
      others = subst (λ (n : ℕ). OthersHold site.job rows n new) (sym next) (others-hold_at site.job rows src site.next before old new site.counts going.stands stay);
    }

-- for a row that is not the site's the result is Done
kept-there : (test : Bool) (kept : Kept) → (test ≡ false → kept ≡ Done) → kept ≢ Done → test ≡ true
kept-there true kept passes other = refl
kept-there false kept passes other = absurd (other (passes refl))

pub kept-draws : (site site' : SiteData) (reader opened closed : ReaderState) (held : HeldRow)
    (old new : RackTells) (kept : Kept)
    → IsReady (stage site reader old) → IsOpened reader opened held → SeesOnce reader opened
    → closed ≡ record opened { cursor = opened.cursor + 1; held = false } → Keeps site site' held old new kept
    → Draws (stage site reader old) (stage site' closed new) (Ok kept)
kept-draws site site' reader opened closed held old new Done ready is sees given-back keeps =
    let closes : Closes reader closed = closes-row reader opened closed held ready.home is sees given-back in
    let goes : GoesOn site site' = keeps.goes_on in
    let P : SiteJob → RingNumbers → Type 0 = λ job ring. AreRowsFor job ring in
    record {
      closes = closes;
      ready = record {
        going = goes.going;
        joined = ap (λ r. r.left) closes.reader ∙ ready.joined;
        home = ap (λ r. r.held) closes.reader ∙ ready.home;
        next = ap (λ r. r.cursor) closes.reader ∙ ap (λ n. n + 1) ready.next ∙ sym goes.next;
        rows = subst (λ (job : SiteJob). P job closed.ring) (sym goes.job) (subst (λ (ring : RingNumbers). P site.job ring) (sym (ap (λ r. r.ring) closes.reader)) ready.rows);
        begun = keeps.begun_on;
        working = keeps.working_on;
      };
      job = goes.job;
      stands = λ before going. going-on site site' reader held old.tells new.tells before (row-taken reader.ring.rows reader.cursor site.next held.bytes ready.next is.row.bytes) is.row.source keeps.keeps goes going;
      missed = keeps.done_missed;
      faults = keeps.faults_stay;
    }
kept-draws site site' reader opened closed held old new (Left cause) ready is sees given-back keeps =
    let at : IsCauseAt site.job site.next cause = keeps.left in
    record {
      closes = closes-row reader opened closed held ready.home is sees given-back;
      is = subst (λ (n : ℕ). IsCauseAt site.job n cause) (sym ready.next) at;
      stands = λ before going. leaving site reader held.source old.tells new.tells before cause is.row.source at.row keeps.finished_stay keeps.left_taken keeps.others_stay going;
      missed = keeps.left_missed;
      counted = keeps.left_counted;
      faults = keeps.faults_stay;
      ended = keeps.ended;
    }
kept-draws site site' reader opened closed held old new Memory ready is sees given-back keeps = record {
  closes = closes-row reader opened closed held ready.home is sees given-back;
  stands = λ before going. stopping site reader held.source old.tells new.tells before (kept-there (is_kept site.job site.next) Memory keeps.passes (λ done. (cc))) is.row.source ready.next keeps.finished_stay keeps.memory_taken keeps.others_stay going;
  missed = keeps.memory_missed;
  faults = keeps.faults_stay;
  ended = keeps.ended;
}
