-- A site's turn, row by row.
use Rattle.std.proofs.Common.{◌≡◌, ℕ, ◌+◌, ◌<◌, ◌≤◌, false, map, IfSome, sym, ap, subst, ◌∙◌, arith}
use Rattle.ring_lanes.specs.declared.answer.NotYet.{NotYet}
use Rattle.ring_lanes.specs.Reader.{ReaderState, source_of}
use Rattle.ring_lanes.proofs.Overs.{over-awaiting, over-on}
use Rattle.tif_packbits.specs.Frame.{framed_row}
use Rattle.pr_rack.specs.Told.{RackTells, Tells}
use Rattle.site_agent.specs.declared.kept.LeftCause.{LeftCause}
use Rattle.site_agent.specs.Draw.{Stage, Awaits, DrawsLast, DrawsNone, DrawsOn, Goes}
use Rattle.site_agent.specs.Job.{SiteJob}
use Rattle.site_agent.specs.Site.{SiteData}
use Rattle.site_agent.specs.Stands.{AreAsLong, AreBegun}
use Rattle.site_agent.specs.Turn.{AreRowsFor, IsGoingBy, LeavesAt, StopsAt}

going-there : (first now : Stage) (waits : ℕ) (before : Tells) → Goes first now waits
    → IsGoingBy first.reader before first.told.tells first.site
    → IsGoingBy now.reader before now.told.tells now.site
going-there first now waits before goes going =
    subst (λ (r : ReaderState). IsGoingBy r before now.told.tells now.site) (sym goes.over.reader) (goes.stands before going)

-- one more row was kept
pub goes-on : (first now next : Stage) (waits : ℕ) → now.reader.cursor < now.reader.ring.total
    → Goes first now waits → DrawsOn now next → Goes first next waits
goes-on first now next waits less goes draws =
    let stay : first.told.faults ≤ now.told.faults = goes.faults in
    let faults : now.told.faults ≤ next.told.faults = draws.faults in
    record {
      ready = draws.ready;
      over = over-on first.reader now.reader next.reader waits less goes.over draws.closes;
      job = draws.job ∙ goes.job;
      stands = λ before going.
          subst (λ (r : ReaderState). IsGoingBy r before next.told.tells next.site) goes.over.reader (draws.stands before (going-there first now waits before goes going));
      missed = draws.missed ∙ goes.missed;
      faults = omega arith;
    }

-- one more wait for the row
pub goes-awaiting : (first now next : Stage) (waits : ℕ) (answer : NotYet) → Goes first now waits
    → Awaits now next answer → Goes first next (waits + 1)
goes-awaiting first now next waits answer goes awaits =
    let same : next.reader ≡ record now.reader { seen = answer.head; loads = now.reader.loads + 1 } = awaits.not_yet.stays in
    let cursor : next.reader.cursor ≡ now.reader.cursor = ap (λ r. r.cursor) same in
    let stay : first.told.faults ≤ now.told.faults = goes.faults in
    let faults : next.told.faults ≡ now.told.faults = ap (λ (t : RackTells). t.faults) awaits.told in
    let site : now.site ≡ next.site = sym awaits.site in
    let told : now.told.tells ≡ next.told.tells = sym (ap (λ (t : RackTells). t.tells) awaits.told) in
    record {
      ready = record {
        going = subst (λ (s : SiteData). s.ended ≡ false) site goes.ready.going;
        joined = ap (λ r. r.left) same ∙ goes.ready.joined;
        home = ap (λ r. r.held) same ∙ goes.ready.home;
        next = cursor ∙ goes.ready.next ∙ ap (λ s. s.next) site;
        rows =
            subst (λ (s : SiteData). AreRowsFor s.job next.reader.ring) site
            (subst (λ (r : ReaderState). AreRowsFor now.site.job r.ring) (sym same) goes.ready.rows);
        begun =
            subst (λ (t : Tells). AreBegun next.site.job next.site.next t.begun) told
            (subst (λ (s : SiteData). AreBegun s.job s.next now.told.tells.begun) site goes.ready.begun);
        working =
            subst (λ (t : Tells). IfSome t.working (AreAsLong next.site.job next.site.next next.site.counts)) told
            (subst (λ (s : SiteData). IfSome now.told.tells.working (AreAsLong s.job s.next s.counts)) site goes.ready.working);
      };
      over = over-awaiting first.reader now.reader next.reader waits answer goes.over awaits.behind awaits.not_yet;
      job = ap (λ s. s.job) awaits.site ∙ goes.job;
      stands = λ before going.
          subst (λ (t : Tells). IsGoingBy first.reader before t next.site) told
          (subst (λ (s : SiteData). IsGoingBy first.reader before now.told.tells s) site (goes.stands before going));
      missed = ap (λ (t : RackTells). t.missed) awaits.told ∙ goes.missed;
      faults = omega arith;
    }

-- a call of the rack failed
pub goes-leaves : (first now next : Stage) (waits : ℕ) (cause : LeftCause) (before : Tells)
    → Goes first now waits → DrawsLast now next cause
    → IsGoingBy first.reader before first.told.tells first.site
    → LeavesAt first.site.job (map framed_row first.reader.ring.rows)
    (source_of first.reader) before next.told.tells cause
goes-leaves first now next waits cause before goes draws going =
    subst (λ (job : SiteJob). LeavesAt job (map framed_row first.reader.ring.rows) (source_of first.reader) before next.told.tells cause) goes.job
    (subst (λ (r : ReaderState). LeavesAt now.site.job (map framed_row r.ring.rows) (source_of r) before next.told.tells cause) goes.over.reader
    (draws.stands before (going-there first now waits before goes going)))

-- a call of the rack ran out of memory
pub goes-stops : (first now next : Stage) (waits n : ℕ) (before : Tells) → n + 1 ≡ next.reader.cursor
    → Goes first now waits → DrawsNone now next → IsGoingBy first.reader before first.told.tells first.site
    → StopsAt first.site.job (map framed_row first.reader.ring.rows)
    (source_of first.reader) n before next.told.tells
goes-stops first now next waits n before last goes draws going =
    let cursor : next.reader.cursor ≡ now.reader.cursor + 1 = ap (λ r. r.cursor) draws.closes.reader in
    let same : now.reader.cursor ≡ n = omega arith in
    subst (λ (m : ℕ). StopsAt first.site.job (map framed_row first.reader.ring.rows) (source_of first.reader) m before next.told.tells) same
    (subst (λ (job : SiteJob). StopsAt job (map framed_row first.reader.ring.rows) (source_of first.reader) now.reader.cursor before next.told.tells) goes.job
    (subst (λ (r : ReaderState). StopsAt now.site.job (map framed_row r.ring.rows) (source_of r) now.reader.cursor before next.told.tells) goes.over.reader
    (draws.stands before (going-there first now waits before goes going))))
