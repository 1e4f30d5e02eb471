-- The invariant of a side's pages, step by step.
use Rattle.std.proofs.Common.{◌≡◌, ℕ, ◌+◌, ◌-◌, ◌<◌, ◌≤◌, Bool, List, length, ap, sym, ◌∙◌, subst, arith}
use Rattle.pr_base.specs.declared.ink.Ink.{Ink}
use Rattle.page_layers.specs.Inks.{HasWidth, Planes, plane_of}
use Rattle.page_layers.specs.Page.{Page}
use Rattle.plan_json.specs.Data.{PlanData}
use Rattle.plan_json.specs.Plan.{IsPlan}
use Rattle.plan_rows.specs.Groups.{page_colour, page_spot}
use Rattle.press_job.specs.Job.{JobData}
use Rattle.press_job.specs.Layers.{layers_of, planned_layers}
use Rattle.press_job.specs.Planes.{ShowsInks}
use Rattle.press_job.specs.Printing.{printed_row}
use Rattle.press_job.proofs.PlaneLemmas.{at_inks, plane_is, plane_width, shows_printed}
use Rattle.press_feed.specs.SidePages.{IsSide}
use Rattle.press_feed.specs.Sides.{page_before}

-- ---- to the top of a page

pub IsSide-begin : (job : JobData) (rows new : Page) (old page shown : ℕ) (tones : PlanData) (planes : Planes)
    → IsSide job rows old shown tones planes → new ≡ record rows { layers = layers_of job.plan job.files page; next = 0 }
    → IsSide job new page 0 tones planes
IsSide-begin job rows new old page shown tones planes is new_is =
    let room : new.room ≡ rows.room = ap (λ (p : Page). p.room) new_is in
    record {
      plan_is = is.plan_is;
      rows_are = new_is ∙ ap {A = Page} (λ p. record p { layers = layers_of job.plan job.files page; next = 0 }) is.rows_are ∙ ap (λ n. page_before job.plan job.files n page 0) (sym room);
      room = λ other. rw room (is.room other);
      within = omega arith;
      tones_are = is.tones_are;
      wide = is.wide;
      shows = λ none. absurd (omega arith);
    }

-- ---- one more row

-- the row before its next one is the current one, if there is one
pub before_next : (job : JobData) (rows : Page) (page shown : ℕ) (tones : PlanData) (planes : Planes) (colour spot : Bool)
    → IsSide job rows page shown tones planes → colour ≡ page_colour job.plan page → spot ≡ page_spot job.plan page
    → 0 < rows.next → ShowsInks tones colour spot rows.layers rows.width (rows.next - 1) planes
before_next job rows page shown tones planes colour spot is colour_is spot_is =
    subst {A = Page} (λ p. 0 < p.next → ShowsInks tones colour spot p.layers p.width (p.next - 1) planes) (sym is.rows_are)
    (λ above. at_inks job.plan tones (page_colour job.plan page) colour (page_spot job.plan page) spot (layers_of job.plan job.files page) job.plan.page_width (shown - 1) planes
    (sym is.tones_are) (sym colour_is) (sym spot_is) (shows_printed job.plan job.files page (shown - 1) planes (is.shows above)))

-- row y is painted, and the rows above were skipped
pub IsSide-painted : (job : JobData) (rows passed new : Page) (page shown y : ℕ) (tones : PlanData) (planes row : Planes) (colour spot : Bool)
    → IsSide job rows page shown tones planes → y < job.plan.page_height → colour ≡ page_colour job.plan page → spot ≡ page_spot job.plan page
    → passed ≡ record rows { next = y } → new ≡ record passed { next = passed.next + 1 } → ShowsInks tones colour spot passed.layers passed.width passed.next row
    → HasWidth row passed.width → IsSide job new page (y + 1) tones row
IsSide-painted job rows passed new page shown y tones planes row colour spot is within colour_is spot_is passed_is new_is shows wide =
    let there : passed ≡ page_before job.plan job.files rows.room page y = passed_is ∙ ap {A = Page} (λ p. record p { next = y }) is.rows_are in
    let room : new.room ≡ rows.room = ap (λ (p : Page). p.room) new_is ∙ ap (λ (p : Page). p.room) passed_is in
    let width : HasWidth row job.plan.page_width = subst {A = Page} (λ p. HasWidth row p.width) there wide in
    let inks : ShowsInks job.plan (page_colour job.plan page) (page_spot job.plan page) (layers_of job.plan job.files page) job.plan.page_width y row =
    at_inks tones job.plan colour (page_colour job.plan page) spot (page_spot job.plan page) (layers_of job.plan job.files page) job.plan.page_width y row is.tones_are colour_is spot_is
    (subst {A = Page} (λ p. ShowsInks tones colour spot p.layers p.width p.next row) there shows) in
    let back : y + 1 - 1 ≡ y = omega arith in
    record {
      plan_is = is.plan_is;
      rows_are = new_is ∙ ap {A = Page} (λ p. record p { next = p.next + 1 }) there ∙ ap (λ n. page_before job.plan job.files n page (y + 1)) (sym room);
      room = λ other. rw room (is.room other);
      within = omega arith;
      tones_are = is.tones_are;
      wide = width;
      shows = λ _ ink. plane_is job.plan job.files page y row ink width inks ∙ ap (printed_row job.plan job.files page ink) (sym back);
    }

pub IsSide-show : (job : JobData) (rows new : Page) (page shown : ℕ) (tones : PlanData) (planes row : Planes) (colour spot : Bool)
    → IsSide job rows page shown tones planes → shown < job.plan.page_height → colour ≡ page_colour job.plan page → spot ≡ page_spot job.plan page
    → new ≡ record rows { next = rows.next + 1 } → ShowsInks tones colour spot rows.layers rows.width rows.next row → HasWidth row rows.width
    → IsSide job new page (shown + 1) tones row
IsSide-show job rows new page shown tones planes row colour spot is within colour_is spot_is new_is shows wide =
    let here : rows ≡ record rows { next = shown } = ap (λ n. record rows { next = n }) (ap (λ (p : Page). p.next) is.rows_are) in
    IsSide-painted job rows rows new page shown shown tones planes row colour spot is within colour_is spot_is here new_is shows wide

-- ---- drawing a row

-- the values of an ink of the row made last
pub values_are : (job : JobData) (rows : Page) (page shown y : ℕ) (tones : PlanData) (planes : Planes) (ink : Ink) (values : List ℕ) → IsSide job rows page shown tones planes
    → shown ≡ y + 1 → values ≡ plane_of planes ink → (values ≡ printed_row job.plan job.files page ink y) × (length values ≡ job.plan.page_width)
values_are job rows page shown y tones planes ink values is shown_is own =
    let back : shown - 1 ≡ y = omega arith in (
      own ∙ is.shows (omega arith) ink ∙ ap (printed_row job.plan job.files page ink) back,
      ap {A = List ℕ} length own ∙ plane_width planes job.plan.page_width ink is.wide,
    )

-- ---- a new side

pub IsSide-open : (job : JobData) (rows : Page) (tones : PlanData) (planes : Planes) → IsPlan job.plan → rows ≡ page_before job.plan job.files rows.room 0 0
    → ((page : ℕ) → length (planned_layers job.plan page) ≤ rows.room) → tones ≡ job.plan
    → HasWidth planes job.plan.page_width → IsSide job rows 0 0 tones planes
IsSide-open job rows tones planes is rows_are room tones_are wide = record {
  plan_is = is;
  rows_are = rows_are;
  room = room;
  within = omega arith;
  tones_are = tones_are;
  wide = wide;
  shows = λ none. absurd (omega arith);
}
