-- The rows of a page that are held, step by step.
use Rattle.std.proofs.Common.{All, ◌≡◌, ℕ, ◌+◌, ◌-◌, ◌<◌, ◌≤◌, Bool, List, length, get_or, set, refl, ap, sym, ◌∙◌, subst, inl, inr, arith}
use Rattle.std.proofs.lemmas.Bool.{cases_eq}
use Rattle.std.proofs.lemmas.Grind.{get_or-set_at}
use Rattle.std.proofs.lemmas.List.{get_or-set_other, length-set}
use Rattle.std.proofs.lemmas.List.Elements.{All-set}
use Rattle.page_layers.specs.Inks.{HasWidth, Planes}
use Rattle.page_layers.specs.Layer.{ink_at}
use Rattle.page_layers.specs.Page.{Page}
use Rattle.plan_json.specs.Data.{PlanData}
use Rattle.plan_rows.specs.Groups.{page_colour, page_spot}
use Rattle.press_job.specs.Job.{JobData}
use Rattle.press_job.specs.Layers.{layers_of}
use Rattle.press_job.specs.Planes.{ShowsInks}
use Rattle.press_job.specs.Printing.{printed_ink}
use Rattle.press_job.proofs.PlaneLemmas.{at_inks, plane_is, shows_printed}
use Rattle.press_feed.specs.HeldRows.{AreHeldRows, ShowsPlanes}
use Rattle.press_feed.specs.Sides.{page_before}

-- ---- one more row

-- at a place of its own, or at that of the row above
held_more : (job : JobData) (page_rows new : Page) (page first count place : ℕ) (tones : PlanData) (rows all : List Planes) (places : List ℕ) → AreHeldRows job page_rows page first count tones rows places
    → count < 8 → first + count < job.plan.page_height → new ≡ record page_rows { next = page_rows.next + 1 } → length all ≡ 8 → All (λ planes. HasWidth planes job.plan.page_width) all → place ≤ count
    → ((k : ℕ) (d : Planes) → k < count → get_or all (get_or places k 0) d ≡ get_or rows (get_or places k 0) d) → ((d : Planes) → ShowsPlanes job page (first + count) (get_or all place d))
    → AreHeldRows job new page first (count + 1) tones all (set places count place)
held_more job page_rows new page first count place tones rows all places are fits below new_is eight wide low others shows =
    let room : new.room ≡ page_rows.room = ap (λ (p : Page). p.room) new_is in
    let next : first + count + 1 ≡ first + (count + 1) = omega arith in
    let long = are.eight_places in
    record {
      plan_is = are.plan_is;
      rows_are = new_is ∙ ap {A = Page} (λ p. record p { next = p.next + 1 }) are.rows_are ∙ ap (λ n. page_before job.plan job.files n page (first + count + 1)) (sym room)
          ∙ ap (page_before job.plan job.files new.room page) next;
      room = λ other. rw room (are.room other);
      within = omega arith;
      tones_are = are.tones_are;
      few = omega arith;
      eight = eight;
      wide = wide;
      eight_places = length-set places count place ∙ are.eight_places;
      places_are = λ k less. elim (cases_eq k count) [
        | inl same ↦ (let here = get_or-set_at places count k place 0 same (omega arith) in omega arith)
        | inr other ↦ (let there = get_or-set_other places count k place 0 other in let before = are.places_are k less in omega arith)
      ];
      shows = λ k d less. elim (cases_eq k count) [
        | inl same ↦
            subst {A = ℕ} (λ p. ShowsPlanes job page (first + k) (get_or all p d)) (sym (get_or-set_at places count k place 0 same (omega arith)))
            (subst {A = ℕ} (λ n. ShowsPlanes job page (first + n) (get_or all place d)) (sym same) (shows d))
        | inr other ↦
            (let before : k < count = omega arith in
            subst {A = ℕ} (λ p. ShowsPlanes job page (first + k) (get_or all p d)) (sym (get_or-set_other places count k place 0 other))
            (subst {A = Planes} (ShowsPlanes job page (first + k)) (sym (others k d before)) (are.shows k d before)))
      ];
    }

pub held_painted : (job : JobData) (page_rows new : Page) (page first count : ℕ) (tones : PlanData) (rows : List Planes) (places : List ℕ) (row : Planes) (colour spot : Bool)
    → AreHeldRows job page_rows page first count tones rows places → count < 8 → first + count < job.plan.page_height → colour ≡ page_colour job.plan page → spot ≡ page_spot job.plan page
    → new ≡ record page_rows { next = page_rows.next + 1 } → ShowsInks tones colour spot page_rows.layers page_rows.width page_rows.next row → HasWidth row page_rows.width
    → AreHeldRows job new page first (count + 1) tones (set rows count row) (set places count count)
held_painted job page_rows new page first count tones rows places row colour spot are fits below colour_is spot_is new_is inks wide =
    let long = are.eight in
    let width : HasWidth row job.plan.page_width = subst {A = Page} (λ p. HasWidth row p.width) are.rows_are wide in
    let shown : ShowsInks job.plan (page_colour job.plan page) (page_spot job.plan page) (layers_of job.plan job.files page) job.plan.page_width (first + count) row =
    at_inks tones job.plan colour (page_colour job.plan page) spot (page_spot job.plan page) (layers_of job.plan job.files page) job.plan.page_width (first + count) row are.tones_are colour_is spot_is
    (subst {A = Page} (λ p. ShowsInks tones colour spot p.layers p.width p.next row) are.rows_are inks) in
    let own : ShowsPlanes job page (first + count) row = record { each = λ ink. plane_is job.plan job.files page (first + count) row ink width shown } in
    held_more job page_rows new page first count count tones rows (set rows count row) places are fits below new_is (length-set rows count row ∙ are.eight)
    (All-set (λ planes. HasWidth planes job.plan.page_width) rows count row width are.wide) (omega arith)
    (λ k d before. (let low = are.places_are k (omega arith) in get_or-set_other rows count (get_or places k 0) row d (λ same. absurd (omega arith))))
    (λ d. subst {A = Planes} (ShowsPlanes job page (first + count)) (sym (get_or-set_at rows count count row d refl (omega arith))) own)

-- a row that shows the same of the page's layers has the same values
repeated : (job : JobData) (page y z : ℕ) (planes : Planes) → ShowsPlanes job page y planes → HasWidth planes job.plan.page_width
    → ((x : ℕ) → x < job.plan.page_width → ink_at (layers_of job.plan job.files page) x z ≡ ink_at (layers_of job.plan job.files page) x y) → ShowsPlanes job page z planes
repeated job page y z planes shows wide same =
    let inks = shows_printed job.plan job.files page y planes shows.each in
    record {
      each = λ ink. plane_is job.plan job.files page z planes ink wide (record {
        each = λ other x less. inks.each other x less ∙ ap (λ values. printed_ink job.plan (page_colour job.plan page) (page_spot job.plan page) values other) (sym (same x less));
      });
    }

pub held_repeated : (job : JobData) (page_rows new : Page) (page first count : ℕ) (tones : PlanData) (rows : List Planes) (places : List ℕ)
    → AreHeldRows job page_rows page first count tones rows places → 0 < count → count < 8 → first + count < job.plan.page_height → new ≡ record page_rows { next = page_rows.next + 1 }
    → ((x : ℕ) → x < page_rows.width → ink_at page_rows.layers x page_rows.next ≡ ink_at page_rows.layers x (page_rows.next - 1))
    → AreHeldRows job new page first (count + 1) tones rows (set places count (get_or places (count - 1) 0))
held_repeated job page_rows new page first count tones rows places are some fits below new_is equal =
    let low = are.places_are (count - 1) (omega arith) in
    let long = are.eight in
    let layers = layers_of job.plan job.files page in
    let above : first + count - 1 ≡ first + (count - 1) = omega arith in
    let same : (x : ℕ) → x < job.plan.page_width → ink_at layers x (first + count) ≡ ink_at layers x (first + count - 1) =
    subst {A = Page} (λ p. (x : ℕ) → x < p.width → ink_at p.layers x p.next ≡ ink_at p.layers x (p.next - 1)) are.rows_are equal in
    held_more job page_rows new page first count (get_or places (count - 1) 0) tones rows rows places are fits below new_is are.eight are.wide (omega arith)
    (λ k d before. refl)
    (λ d. repeated job page (first + (count - 1)) (first + count) (get_or rows (get_or places (count - 1) 0) d) (are.shows (count - 1) d (omega arith))
    (are.wide (get_or places (count - 1) 0) d (omega arith)) (λ x less. same x less ∙ ap (ink_at layers x) above))

-- ---- a row held
