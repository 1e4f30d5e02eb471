use Rattle.std.proofs.Common.{◌≡◌, ℕ, ◌+◌, ◌-◌, ◌/◌, ◌<◌, ◌≤◌, List, [], length, sum, Some, nat_lt, refl, sym, ap, subst, ◌∙◌, arith}
use Rattle.std.specs.Prelude.{slice_get, slice_index_or, slice_set, IfSome}
use Rattle.tif_packbits.specs.Frame.{packed_in}
use Rattle.tif_plate.specs.Plate.{rows_each}
use Rattle.tif_plate.specs.Tail.{strips_end}
use Rattle.tif_plate.specs.declared.sides.Sides.{Sides}
use Rattle.plate_bytes.specs.Strips.{StripState, counted}
use Rattle.pr_rack.specs.Told.{Tells, told}
use Rattle.site_agent.specs.declared.plate.SitePlate.{SitePlate}
use Rattle.site_agent.specs.Job.{SiteJob, sides_of}
use Rattle.site_agent.specs.Site.{SiteData, IsCounting, IsPlateRow, counts_of, job_with}
use Rattle.site_agent.specs.Stands.{AreAsLong, AreBegun, IsAsLong}
use Rattle.site_agent.specs.Tells.{after_row}
use Rattle.site_agent.proofs.Steps.{same-plate}
use Rattle.site_agent.proofs.Counting.{HasCounted, Turn, any, begun-there, counts-at, counts-on, counts-other, counts-own, finished-less, first-alone, has-counted, in-rack, packed-few, placing, slot-within, stands-there, strip_of, sum-with, turning, with_row}
use Rattle.site_agent.proofs.site.Site.give.Given.{Over}
use Rattle.site_agent.proofs.site.Site.give.Goals.{After-count}
use Rattle.site_agent.proofs.site.Site.give.Goals as goal

-- ---- what is known once the slot has counted the row

abbrev job_in : (g : Over) → After-count g → SiteJob
job_in g c = job_with c.self.inside.plates.items c.self.inside.sides c.self.inside.total

counting : (g : Over) (c : After-count g)
    → IsCounting (job_in g c) c.self.inside.next c.self.inside.finished c.self.inside.slots.items
counting g c = c.self.invariant (ap (λ s. s.ended) c.self.view_is ∙ c.requires.going)

there : (g : Over) (c : After-count g) → IsPlateRow (job_in g c) c.self.inside.next c.args.place
there g c = placing (job_in g c) c.self.inside.next (counts_of c.self.inside.slots.items) c.self.inside.ended c.args.self.now c.args.place c.self.view_is c.requires.place

turn : (g : Over) (c : After-count g)
    → Turn (job_in g c) c.self.inside.next c.self.inside.finished c.self.inside.slots.items c.args.place
    c.args.held.now.bytes c.index_mut-slot.result.now
turn g c =
    turning (job_in g c) c.self.inside.next c.self.inside.finished c.self.inside.slots.items c.self.inside.ended c.args.self.now c.args.place c.args.held.now.bytes c.index_mut-slot.result.now
    c.self.view_is c.self.invariant c.requires.going c.requires.place c.requires.frame c.requires.row c.index_mut-slot.ensures.value

-- the slot has counted the row, also after its room was used
has : (g : Over) (c : After-count g) (next : StripState) → next ≡ record c.count.new.self { room = next.room }
    → HasCounted (job_in g c) c.args.place c.args.held.now.bytes c.index_mut-slot.result.now next
has g c next same =
    has-counted (job_in g c) c.self.inside.next c.self.inside.finished c.self.inside.slots.items c.args.place c.args.held.now.bytes c.index_mut-slot.result.now c.count.new.self next any
    (length c.framed.result.now) next.room (turn g c) (ap length (c.framed.ensures.held ∙ ap packed_in c.bytes.ensures)) c.count.ensures same

-- the slot is one of the site's
within : (g : Over) (c : After-count g) → c.args.place.slot < length c.self.inside.slots.items
within g c = slot-within (job_in g c) c.self.inside.next c.self.inside.finished c.self.inside.slots.items c.args.place (counting g c) (there g c) any

-- ---- the goals

pub index_mut-slot-requires : goal.index_mut-slot-requires
index_mut-slot-requires g c =
    let job : SiteJob = job_with c.self.inside.plates.items c.self.inside.sides c.self.inside.total in
    let is : IsCounting job c.self.inside.next c.self.inside.finished c.self.inside.slots.items = c.self.invariant (ap (λ s. s.ended) c.self.view_is ∙ c.requires.going) in
    let at : IsPlateRow job c.self.inside.next c.args.place = placing job c.self.inside.next (counts_of c.self.inside.slots.items) c.self.inside.ended c.args.self.now c.args.place c.self.view_is c.requires.place in
    let inside = slot-within job c.self.inside.next c.self.inside.finished c.self.inside.slots.items c.args.place is at any in
    omega (arith, inside)

pub count-requires : goal.count-requires
count-requires g c =
    let job : SiteJob = job_with c.self.inside.plates.items c.self.inside.sides c.self.inside.total in
    let frame : List ℕ = c.args.held.now.bytes in
    let packed : c.framed.result.now ≡ packed_in frame = c.framed.ensures.held ∙ ap packed_in c.bytes.ensures in
    let is : IsCounting job c.self.inside.next c.self.inside.finished c.self.inside.slots.items = c.self.invariant (ap (λ s. s.ended) c.self.view_is ∙ c.requires.going) in
    let few : length (packed_in frame) ≤ 8256 = packed-few c.args.self.now.job.width frame (subst (λ (s : SiteData). s.job.width ≤ 65535) c.self.view_is is.is.width.1) c.requires.frame c.requires.row in
    omega (arith, few, ap length packed)

pub deliver-requires-clause-y : goal.deliver-requires-clause-y
deliver-requires-clause-y g c =
    let at = (goal.at.deliver-requires-clause-y g c).After-count in
    let P : Sides → Type 0 = λ s. c.args.place.y < s.height in
    subst P (sym (has g at c.count.new.self refl).sides) (turn g at).place'.row.below

pub deliver-requires-clause-begun : goal.deliver-requires-clause-begun
deliver-requires-clause-begun g c =
    let at = (goal.at.deliver-requires-clause-begun g c).After-count in
    let plate : SitePlate = c.index-plate.result.now in
    let P : ℕ → Type 0 = λ s. slice_get (g.R.Rack.begun c.args.rack.now) s ≡ Some (nat_lt 0 c.args.place.y) in
    let same : plate.slot ≡ c.args.place.slot = ap (λ p. p.slot) c.index-plate.ensures ∙ (there g at).slot plate in
    let Q : SiteData → Type 0 = λ s. AreBegun s.job s.next (g.R.Rack.begun c.args.rack.now) in
    subst P (sym same) (begun-there (job_in g at) c.self.inside.next c.args.place (g.R.Rack.begun c.args.rack.now) plate (counting g at).is (there g at) (subst Q (sym c.self.view_is) c.requires.begun)
    (in-rack (job_in g at) c.self.inside.next c.self.inside.finished c.self.inside.slots.items c.args.place (counting g at) (there g at) plate))

pub deliver-requires-clause-fits : goal.deliver-requires-clause-fits
deliver-requires-clause-fits g c =
    let at = (goal.at.deliver-requires-clause-fits g c).After-count in
    let all = sum-with (job_in g at) c.self.inside.next c.self.inside.finished c.self.inside.slots.items c.args.place c.args.held.now.bytes c.index_mut-slot.result.now any (turn g at) in
    omega (arith, all, ap sum (has g at c.count.new.self refl).counts)

pub deliver-requires-clause-first : goal.deliver-requires-clause-first
deliver-requires-clause-first g c =
    let at = (goal.at.deliver-requires-clause-first g c).After-count in
    λ none. ap sum (has g at c.count.new.self refl).counts
    ∙ first-alone (job_in g at) c.self.inside.next c.self.inside.finished c.self.inside.slots.items c.args.place c.args.held.now.bytes c.index_mut-slot.result.now any (turn g at) none

pub deliver-requires-clause-stands : goal.deliver-requires-clause-stands
deliver-requires-clause-stands g c =
    let at = (goal.at.deliver-requires-clause-stands g c).After-count in
    let frame : List ℕ = c.args.held.now.bytes in
    let slot : StripState = c.index_mut-slot.result.now in
    let plate : SitePlate = c.index-plate.result.now in
    let Q : SiteData → Type 0 = λ s. IfSome (g.R.Rack.working c.args.rack.now) (AreAsLong s.job s.next s.counts) in
    let P : SitePlate → Type 0 = λ p. IfSome (g.R.Rack.working c.args.rack.now) (IsAsLong p (strips_end (with_row (job_in g at) c.args.place frame slot) - length (packed_in frame))) in
    let R : List ℕ → Type 0 = λ list. IfSome (g.R.Rack.working c.args.rack.now) (IsAsLong plate (strips_end list - length (packed_in frame))) in
    λ some. subst R (sym (has g at c.count.new.self refl).counts) (subst P (sym c.index-plate.ensures)
    (stands-there (job_in g at) c.self.inside.next c.self.inside.finished c.self.inside.slots.items c.args.place frame slot plate (g.R.Rack.working c.args.rack.now) (turn g at)
    (subst Q (sym c.self.view_is) c.requires.working) some))

pub finished_with-self-inside-requires-clause-fits : goal.finished_with-self-inside-requires-clause-fits
finished_with-self-inside-requires-clause-fits g c =
    let at = (goal.at.finished_with-self-inside-requires-clause-fits g c).After-count in
    let less = finished-less (job_in g at) c.self.inside.next c.self.inside.finished c.self.inside.slots.items c.args.place (counting g at) (there g at) in
    let few = (counting g at).is.few in
    omega (arith, less, few)

pub invariant_of-self-2 : goal.invariant_of-self-2
invariant_of-self-2 g c =
    let at = (goal.at.invariant_of-self-2 g c).After-count in
    let n : ℕ = c.self.inside.next in
    let slots : List StripState = c.self.inside.slots.items in
    let last : StripState = c.deliver.new.strips in
    let Q : ℕ → Type 0 = λ f. IsCounting (job_in g at) (n + 1) f (slice_set slots c.args.place.slot last) in
    let less : n < c.self.inside.total = subst (λ (s : SiteData). s.next < s.job.total) (sym c.self.view_is) c.requires.within in
    λ going. subst Q (sym c.finished_with-self-inside.ensures)
    (counts-on (job_in g at) n c.self.inside.finished slots c.args.place c.args.held.now.bytes c.index_mut-slot.result.now last any (turn g at) less (has g at last c.in_ok-deliver.ensures.strips))

pub returns-clause-rack : goal.returns-clause-rack
returns-clause-rack g c =
    let at = (goal.at.returns-clause-rack g c).After-count in
    let slots : List StripState = c.self.inside.slots.items in
    let frame : List ℕ = c.args.held.now.bytes in
    let first : StripState = c.count.new.self in
    let last : StripState = c.deliver.new.strips in
    let plate : SitePlate = c.index-plate.result.now in
    let old : Tells = (told g.R.Rack c.args.rack.now).tells in
    let own : slice_index_or (counts_of (slice_set slots c.args.place.slot last)) c.args.place.slot [] ≡ first.counts =
    counts-own slots c.args.place.slot last (within g at) ∙ ap {A = StripState} (λ s. s.counts) c.in_ok-deliver.ensures.strips in
    λ d. c.in_ok-deliver.ensures.ok
    ∙ ap (λ sides. after_row sides plate c.args.place.y c.args.held.now.number frame c.args.held.now.source first.counts old) (has g at first refl).sides
    ∙ ap (λ p. after_row (sides_of (job_in g at)) p c.args.place.y c.args.held.now.number frame c.args.held.now.source first.counts old) (c.index-plate.ensures ∙ same-plate (job_in g at) c.args.place.plate plate d (there g at).row.within)
    ∙ ap (λ list. after_row (sides_of (job_in g at)) (slice_index_or (job_in g at).plates c.args.place.plate d) c.args.place.y c.args.held.now.number frame c.args.held.now.source list old) (sym own)
    ∙ ap (λ s. after_row (sides_of s.job) (slice_index_or s.job.plates c.args.place.plate d) c.args.place.y c.args.held.now.number frame c.args.held.now.source
    (slice_index_or (counts_of (slice_set slots c.args.place.slot last)) c.args.place.slot []) old) c.self.view_is

pub returns-clause-own : goal.returns-clause-own
returns-clause-own g c =
    let at = (goal.at.returns-clause-own g c).After-count in
    let slots : List StripState = c.self.inside.slots.items in
    let frame : List ℕ = c.args.held.now.bytes in
    let last : StripState = c.deliver.new.strips in
    counts-own slots c.args.place.slot last (within g at)
    ∙ (has g at last c.in_ok-deliver.ensures.strips).counts
    ∙ ap (counted c.args.place.y (strip_of (job_in g at) c.args.place) (length (packed_in frame))) (sym (counts-at slots c.args.place.slot c.index_mut-slot.result.now (within g at) (turn g at).slot))
    ∙ ap (λ s. counted c.args.place.y (c.args.place.y / rows_each s.job.width) (length (packed_in frame)) (slice_index_or s.counts c.args.place.slot [])) c.self.view_is

pub returns-clause-others : goal.returns-clause-others
returns-clause-others g c =
    let five : length c.self.inside.slots.items ≡ 5 = (counting g (goal.at.returns-clause-others g c).After-count).slots in
    λ s less apart. counts-other c.self.inside.slots.items c.args.place.slot s c.deliver.new.strips (omega arith) apart ∙ ap (λ st. slice_index_or st.counts s []) c.self.view_is
