use Rattle.std.proofs.Common.{◌≡◌, ℕ, ◌+◌, ◌<◌, true, List, [], length, Some, IfSome, sym, ap, subst, ◌∙◌, arith}
use Rattle.std.specs.Prelude.{slice_index_or}
use Rattle.std.proofs.lemmas.Bool.{both_ways}
use Rattle.tif_plate.specs.Plate.{strip_count}
use Rattle.pr_rack.specs.Told.{told}
use Rattle.site_agent.specs.declared.kept.LeftCause.{LeftCause}
use Rattle.site_agent.specs.declared.plate_row.PlateRow.{PlateRow}
use Rattle.site_agent.specs.Given.{IsNoRow, finished_count, is_kept}
use Rattle.site_agent.specs.Job.{IsJob, SiteJob, sides_of}
use Rattle.site_agent.specs.Kept.{IsCauseAt, OnDone, kept_of}
use Rattle.site_agent.specs.Refused.{taken_at}
use Rattle.site_agent.specs.Site.{SiteData, IsCounting, IsPlateRow, job_with}
use Rattle.site_agent.specs.Stands.{AreAsLong, AreBegun, StandsAfter}
use Rattle.site_agent.specs.Tells.{after_row}
use Rattle.site_agent.proofs.Asking.{Asks, asks-kept, asks-passed}
use Rattle.site_agent.proofs.Counting.{any, counts-past}
use Rattle.site_agent.proofs.Others.{row-stays}
use Rattle.site_agent.proofs.Keeping.{done-refused, end-refused, left-refused, memory-only, memory-refused, row_kept-slot, strips-of, taken-once}
use Rattle.site_agent.proofs.Standing.{row_passed}
use Rattle.site_agent.proofs.Steps.{is_kept-row, same-plate}
use Rattle.site_agent.proofs.site.Site.keep.Given.{Over}
use Rattle.site_agent.proofs.site.Site.keep.Goals.{After-place, In-Ok, After-refused}
use Rattle.site_agent.proofs.site.Site.keep.Goals as goal

-- ---- what is known of the row

abbrev IsKeeping : (g : Over) → After-place g → Type 0
IsKeeping g c = IsCounting (job_with c.self.inside.plates.items c.self.inside.sides c.self.inside.total) c.self.inside.next c.self.inside.finished c.self.inside.slots.items

counting : (g : Over) (c : After-place g) → IsKeeping g c
counting g c = c.self.invariant (ap (λ s. s.ended) c.self.view_is ∙ c.requires.going)

is_job : (g : Over) (c : After-place g) → IsJob c.args.self.now.job
is_job g c = subst (λ (s : SiteData). IsJob s.job) c.self.view_is (counting g c).is

-- a row that has a place is one of the site's
kept : (g : Over) (c : After-place g) (place : PlateRow)
    → IsPlateRow c.args.self.now.job c.args.self.now.next place
    → is_kept c.args.self.now.job c.args.self.now.next ≡ true
kept g c place there = is_kept-row c.args.self.now.job c.args.self.now.next place.plate place.y any there.row

-- its slot has a count for each strip
size : (g : Over) (c : After-place g) (place : PlateRow)
    → IsPlateRow c.args.self.now.job c.args.self.now.next place
    → length (slice_index_or c.args.self.now.counts place.slot [])
    ≡ strip_count c.args.self.now.job.width c.args.self.now.job.height
size g c place there =
    let inside : place.slot < 5 = subst (λ (s : ℕ). s < 5) (there.slot any) ((is_job g c).each place.plate any there.row.within).slot in
    let five : length c.self.inside.slots.items ≡ 5 = (counting g c).slots in
    subst (λ (s : SiteData). length (slice_index_or s.counts place.slot []) ≡ strip_count s.job.width s.job.height) c.self.view_is
    (strips-of (job_with c.self.inside.plates.items c.self.inside.sides c.self.inside.total) c.self.inside.next c.self.inside.finished c.self.inside.slots.items place.slot (counting g c) inside (omega arith))

pub invariant_of-self : goal.invariant_of-self
invariant_of-self g c =
    λ open'. counts-past (job_with c.self.inside.plates.items c.self.inside.sides c.self.inside.total) c.self.inside.next c.self.inside.finished c.self.inside.slots.items (c.self.invariant open')
    (subst (λ (s : SiteData). IsNoRow s.job s.next) (sym c.self.view_is) c.in_default.ensures.none)
    (subst (λ (s : SiteData). s.next < s.job.total) (sym c.self.view_is) c.requires.within)

pub returns-in_default-clause-keeps : goal.returns-in_default-clause-keeps
returns-in_default-clause-keeps g c =
    let at = (goal.at.returns-in_default-clause-keeps g c).After-place in
    let job : SiteJob = c.args.self.now.job in
    let n : ℕ = c.args.self.now.next in
    λ rows before here stands.
    subst (λ (s : SiteData). StandsAfter job rows c.args.held.now.source (n + 1) before (told g.R.Rack c.args.rack.now).tells s.counts) (sym c.self.view_is)
    (row_passed job rows c.args.held.now.source n before (told g.R.Rack c.args.rack.now).tells c.args.self.now.counts (is_job g at) c.in_default.ensures.none stands)

-- ---- the rack took the row

-- what the rack reports is what it reported, with the row
taken : (g : Over) (c : In-Ok g)
    → (told g.R.Rack c.give.new.rack).tells
    ≡ after_row (sides_of c.args.self.now.job)
    (slice_index_or c.args.self.now.job.plates c.in-Some.place.plate any) c.in-Some.place.y c.args.self.now.next c.args.held.now.bytes c.args.held.now.source (slice_index_or c.give.new.self.counts c.in-Some.place.slot []) (told g.R.Rack c.args.rack.now).tells
taken g c =
    c.in-Ok.ensures.rack any
    ∙ ap (λ m. after_row (sides_of c.args.self.now.job) (slice_index_or c.args.self.now.job.plates c.in-Some.place.plate any) c.in-Some.place.y m c.args.held.now.bytes c.args.held.now.source
    (slice_index_or c.give.new.self.counts c.in-Some.place.slot []) (told g.R.Rack c.args.rack.now).tells) c.requires.next

asks : (g : Over) (c : In-Ok g) → IsJob c.args.self.now.job
    → length (slice_index_or c.args.self.now.counts c.in-Some.place.slot [])
    ≡ strip_count c.args.self.now.job.width c.args.self.now.job.height
    → Asks c.args.self.now.job (c.args.self.now.next + 1) c.give.new.self.counts
    (told g.R.Rack c.give.new.rack).tells
asks g c is long =
    let place : PlateRow = c.in-Some.place in
    let there : IsPlateRow c.args.self.now.job c.args.self.now.next place = c.in-Some.ensures.found in
    asks-kept c.args.self.now.job c.args.held.now.source c.args.self.now.next place.plate place.y place.slot (told g.R.Rack c.args.rack.now).tells (told g.R.Rack c.give.new.rack).tells
    c.args.self.now.counts c.give.new.self.counts any c.args.held.now.bytes is there.row (there.slot any) (record { begun = c.requires.begun; working = c.requires.working })
    (g.met.R.Rack.begun_told c.args.rack.now) long c.in-Ok.ensures.own c.in-Ok.ensures.others (taken g c)

pub returns-in-Ok-clause-keeps : goal.returns-in-Ok-clause-keeps
returns-in-Ok-clause-keeps g c =
    let at = (goal.at.returns-in-Ok-clause-keeps g c).After-place in
    let place : PlateRow = c.in-Some.place in
    let there : IsPlateRow c.args.self.now.job c.args.self.now.next place = c.in-Some.ensures.found in
    λ rows before here stands.
    row_kept-slot c.args.self.now.job rows c.args.held.now.source c.args.self.now.next place.plate place.y place.slot before (told g.R.Rack c.args.rack.now).tells (told g.R.Rack c.give.new.rack).tells
    c.args.self.now.counts c.give.new.self.counts any c.args.held.now.bytes (is_job g at) there.row (there.slot any) stands (g.met.R.Rack.finished_told c.args.rack.now) c.requires.frame here
    (size g at place there) c.in-Ok.ensures.own c.in-Ok.ensures.others (taken g (goal.at.returns-in-Ok-clause-keeps g c).In-Ok)

pub returns-in-Ok-clause-leaves_alone : goal.returns-in-Ok-clause-leaves_alone
returns-in-Ok-clause-leaves_alone g c =
    λ no'. absurd (both_ways (is_kept c.args.self.now.job c.args.self.now.next) no' (kept g (goal.at.returns-in-Ok-clause-leaves_alone g c).After-place c.in-Some.place c.in-Some.ensures.found))

-- ---- the rack refused a call

-- why the site leaves, if it does
abbrev cause : (g : Over) → After-refused g → LeftCause
cause g c = record {
  plates = c.self.inside.finished;
  row = c.number.result;
  call = c.in-Err.refusal.call;
  path = (slice_index_or c.give.new.self.job.plates c.in-Some.place.plate any).path;
}

answered : (g : Over) (c : After-refused g) → c.refused.result ≡ kept_of c.in-Err.refusal.fault (cause g c)
answered g c = c.refused.ensures.answer any

-- the row isn't done
not_done : (g : Over) (c : After-refused g) (P : Type 0) → OnDone c.refused.result P
not_done g c P = done-refused c.refused.result c.in-Err.refusal.fault (cause g c) P (answered g c)

same_path : (g : Over) (c : After-refused g)
    → (slice_index_or c.give.new.self.job.plates c.in-Some.place.plate any).path
    ≡ (slice_index_or c.args.self.now.job.plates c.in-Some.place.plate any).path
same_path g c = ap (λ j. (slice_index_or j.plates c.in-Some.place.plate any).path) c.in-Err.ensures.job

pub returns-in-Err-clause-keeps : goal.returns-in-Err-clause-keeps
returns-in-Err-clause-keeps g c = not_done g (goal.at.returns-in-Err-clause-keeps g c).After-refused _

pub returns-in-Err-clause-goes_on : goal.returns-in-Err-clause-goes_on
returns-in-Err-clause-goes_on g c = not_done g (goal.at.returns-in-Err-clause-goes_on g c).After-refused _

pub returns-in-Err-clause-passes : goal.returns-in-Err-clause-passes
returns-in-Err-clause-passes g c =
    λ no'. absurd (both_ways (is_kept c.args.self.now.job c.args.self.now.next) no' (kept g (goal.at.returns-in-Err-clause-passes g c).After-place c.in-Some.place c.in-Some.ensures.found))

pub returns-in-Err-clause-leaves_alone : goal.returns-in-Err-clause-leaves_alone
returns-in-Err-clause-leaves_alone g c =
    λ no'. absurd (both_ways (is_kept c.args.self.now.job c.args.self.now.next) no' (kept g (goal.at.returns-in-Err-clause-leaves_alone g c).After-place c.in-Some.place c.in-Some.ensures.found))

pub returns-in-Err-clause-left : goal.returns-in-Err-clause-left
returns-in-Err-clause-left g c =
    let at = (goal.at.returns-in-Err-clause-left g c).After-refused in
    let job : SiteJob = c.args.self.now.job in
    let place : PlateRow = c.in-Some.place in
    let there : IsPlateRow job c.args.self.now.next place = c.in-Some.ensures.found in
    let stopped = c.in-Err.ensures.stopped any in
    let finished : c.self.inside.finished ≡ finished_count job c.args.self.now.next =
    (counting g (goal.at.returns-in-Err-clause-left g c).After-place).finished ∙ ap (λ s. finished_count s.job s.next) c.self.view_is in
    left-refused c.refused.result c.in-Err.refusal.fault (cause g at) (IsCauseAt job c.args.self.now.next) (answered g at)
    (λ failed. record {
      index = place.plate;
      y = place.y;
      is = there.row;
      path = λ e. same_path g at ∙ ap (λ p. p.path) (same-plate job place.plate any e there.row.within);
      row = c.number.ensures ∙ c.requires.next;
      plates = finished;
      begins = stopped.begins;
      ends = stopped.ends;
    })

pub returns-in-Err-clause-left_counted : goal.returns-in-Err-clause-left_counted
returns-in-Err-clause-left_counted g c =
    let at = (goal.at.returns-in-Err-clause-left_counted g c).After-refused in
    left-refused c.refused.result c.in-Err.refusal.fault (cause g at) _ (answered g at) (λ failed. (c.in-Err.ensures.stopped any).counted failed)

pub returns-in-Err-clause-left_missed : goal.returns-in-Err-clause-left_missed
returns-in-Err-clause-left_missed g c =
    let at = (goal.at.returns-in-Err-clause-left_missed g c).After-refused in
    left-refused c.refused.result c.in-Err.refusal.fault (cause g at) (λ (cause' : LeftCause). IfSome (g.R.Rack.missed c.give.new.rack) (λ last. last ≡ Some (cause'.call, cause'.path))) (answered g at)
    (λ failed. subst (λ (p : List ℕ). IfSome (g.R.Rack.missed c.give.new.rack) (λ last. last ≡ Some (c.in-Err.refusal.call, p))) (sym (same_path g at)) ((c.in-Err.ensures.stopped any).missed failed))

pub returns-in-Err-clause-left_taken : goal.returns-in-Err-clause-left_taken
returns-in-Err-clause-left_taken g c =
    let at = (goal.at.returns-in-Err-clause-left_taken g c).After-refused in
    let before = g.R.Rack.taken c.args.rack.now in
    left-refused c.refused.result c.in-Err.refusal.fault (cause g at) (λ (cause' : LeftCause). g.R.Rack.taken c.give.new.rack ≡ taken_at cause'.call c.args.self.now.next c.args.held.now.source before) (answered g at)
    (λ failed. (c.in-Err.ensures.stopped any).taken ∙ ap (λ m. taken_at c.in-Err.refusal.call m c.args.held.now.source before) c.requires.next)

pub returns-in-Err-clause-memory_missed : goal.returns-in-Err-clause-memory_missed
returns-in-Err-clause-memory_missed g c =
    let at = (goal.at.returns-in-Err-clause-memory_missed g c).After-refused in
    memory-only c.refused.result c.in-Err.refusal.fault (cause g at) (g.R.Rack.missed c.give.new.rack ≡ g.R.Rack.missed c.args.rack.now) (answered g at) (λ memory. (c.in-Err.ensures.stopped any).unmissed memory)

pub returns-in-Err-clause-memory_taken : goal.returns-in-Err-clause-memory_taken
returns-in-Err-clause-memory_taken g c =
    let at = (goal.at.returns-in-Err-clause-memory_taken g c).After-refused in
    let before = g.R.Rack.taken c.args.rack.now in
    let call = c.in-Err.refusal.call in
    memory-refused c.refused.result c.in-Err.refusal.fault (cause g at) _ (answered g at)
    (taken-once call c.args.self.now.next c.args.held.now.source before (g.R.Rack.taken c.give.new.rack)
    ((c.in-Err.ensures.stopped any).taken ∙ ap (λ m. taken_at call m c.args.held.now.source before) c.requires.next))

pub returns-in-Err-clause-finished_stay : goal.returns-in-Err-clause-finished_stay
returns-in-Err-clause-finished_stay g c =
    let at = (goal.at.returns-in-Err-clause-finished_stay g c).After-refused in
    end-refused c.refused.result c.in-Err.refusal.fault (cause g at) _ (answered g at) (c.in-Err.ensures.stopped any).finished

pub returns-in-Err-clause-others_stay : goal.returns-in-Err-clause-others_stay
returns-in-Err-clause-others_stay g c =
    let at = (goal.at.returns-in-Err-clause-others_stay g c).After-refused in
    let is = is_job g (goal.at.returns-in-Err-clause-others_stay g c).After-place in
    let place : PlateRow = c.in-Some.place in
    let there : IsPlateRow c.args.self.now.job c.args.self.now.next place = c.in-Some.ensures.found in
    end-refused c.refused.result c.in-Err.refusal.fault (cause g at) _ (answered g at)
    (row-stays c.args.self.now.job c.args.self.now.next place.plate place.y any (told g.R.Rack c.args.rack.now).tells (told g.R.Rack c.give.new.rack).tells is there.row (λ e. c.in-Err.ensures.others_stay e))

-- ---- what the site requires of its rack for the next row

pub returns-in_default-clause-begun_on : goal.returns-in_default-clause-begun_on
returns-in_default-clause-begun_on g c =
    let asks : Asks c.args.self.now.job (c.args.self.now.next + 1) c.args.self.now.counts (told g.R.Rack c.args.rack.now).tells = asks-passed c.args.self.now.job c.args.self.now.next c.args.self.now.counts (told g.R.Rack c.args.rack.now).tells c.in_default.ensures.none (record { begun = c.requires.begun; working = c.requires.working }) in
    subst (λ (s : SiteData). AreBegun s.job (s.next + 1) (g.R.Rack.begun c.args.rack.now)) (sym c.self.view_is) asks.begun

pub returns-in_default-clause-working_on : goal.returns-in_default-clause-working_on
returns-in_default-clause-working_on g c =
    let asks : Asks c.args.self.now.job (c.args.self.now.next + 1) c.args.self.now.counts (told g.R.Rack c.args.rack.now).tells = asks-passed c.args.self.now.job c.args.self.now.next c.args.self.now.counts (told g.R.Rack c.args.rack.now).tells c.in_default.ensures.none (record { begun = c.requires.begun; working = c.requires.working }) in
    subst (λ (s : SiteData). IfSome (g.R.Rack.working c.args.rack.now) (AreAsLong s.job (s.next + 1) s.counts)) (sym c.self.view_is) asks.working

pub returns-in-Ok-clause-begun_on : goal.returns-in-Ok-clause-begun_on
returns-in-Ok-clause-begun_on g c =
    let at = goal.at.returns-in-Ok-clause-begun_on g c in
    let next = asks g at.In-Ok (is_job g at.After-place) (size g at.After-place c.in-Some.place c.in-Some.ensures.found) in
    subst (λ (j : SiteJob). AreBegun j c.give.new.self.next (g.R.Rack.begun c.give.new.rack)) (sym c.in-Ok.ensures.goes_on.job)
    (subst (λ (m : ℕ). AreBegun c.args.self.now.job m (g.R.Rack.begun c.give.new.rack)) (sym c.in-Ok.ensures.goes_on.next) next.begun)

pub returns-in-Ok-clause-working_on : goal.returns-in-Ok-clause-working_on
returns-in-Ok-clause-working_on g c =
    let at = goal.at.returns-in-Ok-clause-working_on g c in
    let next = asks g at.In-Ok (is_job g at.After-place) (size g at.After-place c.in-Some.place c.in-Some.ensures.found) in
    subst (λ (j : SiteJob). IfSome (g.R.Rack.working c.give.new.rack) (AreAsLong j c.give.new.self.next c.give.new.self.counts)) (sym c.in-Ok.ensures.goes_on.job)
    (subst (λ (m : ℕ). IfSome (g.R.Rack.working c.give.new.rack) (AreAsLong c.args.self.now.job m c.give.new.self.counts)) (sym c.in-Ok.ensures.goes_on.next) next.working)

pub returns-in-Err-clause-begun_on : goal.returns-in-Err-clause-begun_on
returns-in-Err-clause-begun_on g c = not_done g (goal.at.returns-in-Err-clause-begun_on g c).After-refused _

pub returns-in-Err-clause-working_on : goal.returns-in-Err-clause-working_on
returns-in-Err-clause-working_on g c = not_done g (goal.at.returns-in-Err-clause-working_on g c).After-refused _

pub returns-in-Err-clause-done_missed : goal.returns-in-Err-clause-done_missed
returns-in-Err-clause-done_missed g c = not_done g (goal.at.returns-in-Err-clause-done_missed g c).After-refused _
