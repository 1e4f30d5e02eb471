-- The values of a row of a page in five inks.
use Rattle.std.specs.Prelude.{◌≡◌, ℕ, ◌<◌, ◌≤◌, Bool, if◌then◌else◌, List, length, replicate, slice_index}
use Rattle.pr_base.specs.declared.ink.Ink.{Ink}
use Rattle.page_layers.specs.declared.layer.Layer.{Layer}
use Rattle.page_layers.specs.Inks.{HasWidth, Planes, plane_of}
use Rattle.page_layers.specs.Layer.{ink_at}
use Rattle.plan_json.specs.Data.{PlanData}
use Rattle.press_job.specs.declared.plane.Plane.{Plane}
use Rattle.press_job.specs.declared.plane.Source.{Source}
use Rattle.press_job.specs.declared.plane.Source.TheVariants.{Painted, Own, Blank}
use Rattle.press_job.specs.Printing.{printed_ink, toned}

-- the values at a source: those of the painted row, of the plane, or of the blank row
abbrev pub values_at : Source → List ℕ → List ℕ → List ℕ → List ℕ
values_at Painted row own blank = row
values_at Own row own blank = own
values_at Blank row own blank = blank

-- the values of a plane
abbrev pub shown_in : List ℕ → List ℕ → Plane → List ℕ
shown_in row blank plane = values_at plane.source row plane.values.items blank

-- the values of five planes
abbrev pub shown_planes : Planes → List ℕ → Plane → Plane → Plane → Plane → Plane → Planes
shown_planes inks blank cyan magenta yellow black spot = record {
  cyan = shown_in inks.cyan blank cyan;
  magenta = shown_in inks.magenta blank magenta;
  yellow = shown_in inks.yellow blank yellow;
  black = shown_in inks.black blank black;
  spot = shown_in inks.spot blank spot;
}

-- the values of an ink after its curve, on a page that prints it or not; each is a byte
pub record IsToned (plan : PlanData) (ink : Ink) (prints : Bool) (row shown : List ℕ) : Type 0 where
  pub values : (x : ℕ) → x < length row
      → slice_index shown x ≡ (if prints then toned plan ink (slice_index row x) else 0)
  pub bytes : (x : ℕ) → x < length row → slice_index shown x ≤ 255

-- the planes hold row y of a page of these layers that prints C, M and Y if `colour`, and S if `spot`
pub record ShowsInks (plan : PlanData) (colour spot : Bool) (layers : List Layer) (width y : ℕ)
    (planes : Planes) : Type 0 where
  pub each : (ink : Ink) (x : ℕ) → x < width
      → slice_index (plane_of planes ink) x ≡ printed_ink plan colour spot (ink_at layers x y) ink

-- five planes, the row of the page's layers and a row without ink have the same width
pub record HaveWidth (inks : Planes) (blank : List ℕ) (cyan magenta yellow black spot : Plane)
    : Type 0 where
  pub inks_wide : HasWidth inks (length inks.cyan)
  pub blank_is : blank ≡ replicate (length inks.cyan) 0
  pub cyan_wide : length cyan.values.items ≡ length inks.cyan
  pub magenta_wide : length magenta.values.items ≡ length inks.cyan
  pub yellow_wide : length yellow.values.items ≡ length inks.cyan
  pub black_wide : length black.values.items ≡ length inks.cyan
  pub spot_wide : length spot.values.items ≡ length inks.cyan

-- a plane with other values of its own, as many as before
pub record IsSameKind (old new : Plane) : Type 0 where
  pub source_is : new.source ≡ old.source
  pub width : length new.values.items ≡ length old.values.items
