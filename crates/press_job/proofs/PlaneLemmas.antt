-- Planes that show a row of a page hold the rows that are printed.
use Rattle.std.proofs.Common.{◌≡◌, ℕ, ◌<◌, Bool, List, length, get_or, ap, ◌∙◌, subst, arith}
use Rattle.std.proofs.lemmas.List.FromFn.{fill_by_all, get_or-map-range_with_len}
use Rattle.pr_base.specs.declared.ink.Ink.{Ink}
use Rattle.pr_base.specs.declared.ink.Ink.TheVariants.{C, M, Y, K, S}
use Rattle.page_layers.specs.Inks.{HasWidth, Planes, plane_of}
use Rattle.page_layers.specs.declared.layer.Layer.{Layer}
use Rattle.plan_json.specs.Data.{PlanData}
use Rattle.plan_rows.specs.Groups.{page_colour, page_spot}
use Rattle.press_job.specs.Layers.{layers_of}
use Rattle.press_job.specs.Planes.{ShowsInks}
use Rattle.press_job.specs.Printing.{printed_at, printed_row}

-- the value at column x of a row
pub get_or-printed_row : (plan : PlanData) (files : List (List ℕ)) (page : ℕ) (ink : Ink) (x y : ℕ)
    → x < plan.page_width
    → get_or (printed_row plan files page ink y) x 0 ≡ printed_at plan files page ink x y
get_or-printed_row plan files page ink x y within = get_or-map-range_with_len (λ x. printed_at plan files page ink x y) 0 plan.page_width x x 0 within (omega arith)

-- all planes have the same width
pub plane_width : (planes : Planes) (width : ℕ) (ink : Ink) → HasWidth planes width
    → length (plane_of planes ink) ≡ width
plane_width planes width C wide = wide.cyan
plane_width planes width M wide = wide.magenta
plane_width planes width Y wide = wide.yellow
plane_width planes width K wide = wide.black
plane_width planes width S wide = wide.spot

-- planes that show the inks of a row are the rows that are printed
pub plane_is : (plan : PlanData) (files : List (List ℕ)) (page y : ℕ) (planes : Planes) (ink : Ink)
    → HasWidth planes plan.page_width
    → ShowsInks plan (page_colour plan page) (page_spot plan page)
    (layers_of plan files page) plan.page_width y planes
    → plane_of planes ink ≡ printed_row plan files page ink y
unfolding printed_at
plane_is plan files page y planes ink wide shows =
    fill_by_all (λ x. printed_at plan files page ink x y) (plane_of planes ink) plan.page_width 0 (plane_width planes plan.page_width ink wide) (λ x less. shows.each ink x less)

-- and the converse
pub shows_printed : (plan : PlanData) (files : List (List ℕ)) (page y : ℕ) (planes : Planes)
    → ((ink : Ink) → plane_of planes ink ≡ printed_row plan files page ink y)
    → ShowsInks plan (page_colour plan page) (page_spot plan page)
    (layers_of plan files page) plan.page_width y planes
unfolding printed_at
shows_printed plan files page y planes are = record {
  each = λ ink x less. ap (λ row. get_or row x 0) (are ink) ∙ get_or-printed_row plan files page ink x y less;
}

-- the inks that are shown, with equal plans and inks substituted
pub at_inks : (plan other : PlanData) (colour colour' spot spot' : Bool) (layers : List Layer) (width y : ℕ)
    (planes : Planes) → plan ≡ other → colour ≡ colour' → spot ≡ spot'
    → ShowsInks plan colour spot layers width y planes → ShowsInks other colour' spot' layers width y planes
at_inks plan other colour colour' spot spot' layers width y planes plans colours spots shows =
    subst {A = PlanData} (λ p. ShowsInks p colour' spot' layers width y planes) plans
    (subst {A = Bool} (λ c. ShowsInks plan c spot' layers width y planes) colours (subst {A = Bool} (λ s. ShowsInks plan colour s layers width y planes) spots shows))
