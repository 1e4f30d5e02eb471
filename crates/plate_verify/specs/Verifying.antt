-- Verifying plates one after the other: the state of the shelf, and the result.
use Rattle.std.specs.Prelude.{◌≡◌, ℕ, ◌≤◌, if◌then◌else◌, List, [], ◌∷◌, ◌++◌, slice_get, Option, Some, None}
use Rattle.std.specs.Prelude.{IfSome, Result, Ok, Err}
use Rattle.std.specs.List.{filter_map, flat_map}
use Rattle.pr_base.specs.declared.ink.Ink.{Ink}
use Rattle.pr_base.specs.Count.{Rose}
use Rattle.pr_ports.specs.declared.shelf.Shelf as shelf
use Rattle.plan_json.specs.Data.{PlanData, plate_width, plate_height}
use Rattle.plan_rows.specs.declared.group.Group.{Group}
use Rattle.plan_rows.specs.Inks.{inks_of, has_site}
use Rattle.plan_rows.specs.Paths.{path_of}
use Rattle.plan_rows.specs.Plates.{PlateOf, plate_rows}
use Rattle.plate_bytes.specs.Made.{PlateState, whole}
use Rattle.plate_verify.specs.declared.checked.Checked.{Checked}
use Rattle.plate_verify.specs.declared.checked.Checked.TheVariants.{Same, Differs, Long}
use Rattle.plate_verify.specs.declared.checked.VerifyFault.{VerifyFault}
use Rattle.plate_verify.specs.declared.checked.VerifyFault.TheVariants.{Shelf, Memory}
use Rattle.plate_verify.specs.Order.{SitePlate, plate_sites, plates_in_order}
use Rattle.plate_verify.specs.Wrong.{Found, AllRight, OtherAt, TooMany, wrong_at, first_wrong}

-- the state of the plates that a result reports
abbrev pub told : Checked → Found
told (Same plates) = AllRight plates
told (Differs path at row) = OtherAt path at row
told (Long path) = TooMany path

-- P if a plate is reported as too long
abbrev pub IfLong : Checked → Type 0 → Type 0
IfLong (Same plates) P = Unit {0}
IfLong (Differs path at row) P = Unit {0}
IfLong (Long path) P = P

-- P unless a plate is reported as too long
abbrev pub UnlessLong : Checked → Type 0 → Type 0
UnlessLong (Same plates) P = P
UnlessLong (Differs path at row) P = P
UnlessLong (Long path) P = Unit {0}

-- what contracts see of a shelf
pub record ShelfTold : Type 0 where
  pub held : Option (List (List ℕ × List ℕ))
  pub missed : Option (Option (List ℕ))
  pub faults : ℕ
  pub longs : ℕ

abbrev pub shelf_told : {H : Type 0} → shelf.Ghosts H → H → ShelfTold
shelf_told g h = record { held = g.held h; missed = g.missed h; faults = g.faults h; longs = g.longs h }

-- the contents of the shelf are unchanged, and no count decreases
pub record Stays (old new : ShelfTold) : Type 0 where
  pub held : new.held ≡ old.held
  pub faults : old.faults ≤ new.faults
  pub longs : old.longs ≤ new.longs

-- the same, and no load failed
pub record IsQuiet (old new : ShelfTold) : Type 0 where
  pub stays : Stays old new
  pub missed : new.missed ≡ old.missed
  pub faults : new.faults ≡ old.faults

-- all of these plates match, where the contents of the shelf are known
abbrev pub NoneWrong : PlanData → List (List ℕ) → List ℕ → Option (List (List ℕ × List ℕ))
    → List SitePlate → Type 0
NoneWrong plan rows out held plates = IfSome held (λ files. filter_map
    (wrong_at plan rows out files) plates ≡ [])

-- the path of a plate of a site
abbrev pub path_at : PlanData → List ℕ → SitePlate → List ℕ
path_at plan out (site, plate) = path_of plan out site plate.0 plate.1

-- all match, and no file was counted as too long
pub record AreRight (plan : PlanData) (rows : List (List ℕ)) (out : List ℕ) (plates : List SitePlate)
    (old new : ShelfTold) : Type 0 where
  pub quiet : IsQuiet old new
  pub longs : new.longs ≡ old.longs
  pub right : NoneWrong plan rows out old.held plates

-- the first plate that does not match is reported
pub record FindsWrong (plan : PlanData) (rows : List (List ℕ)) (out : List ℕ)
    (plates : List SitePlate) (old new : ShelfTold) (found : Checked) : Type 0 where
  pub quiet : IsQuiet old new
  pub first : IfSome old.held (λ files. slice_get (filter_map
      (wrong_at plan rows out files) plates) 0 ≡ Some (told found))
  pub long : IfLong found (Rose old.longs new.longs)
  pub short : UnlessLong found (new.longs ≡ old.longs)

-- the load of one plate failed, and those before it match
pub record FailsAt (plan : PlanData) (rows : List (List ℕ)) (out : List ℕ) (plates : List SitePlate)
    (old new : ShelfTold) (path : List ℕ) : Type 0 where
  pub stays : Stays old new
  pub longs : new.longs ≡ old.longs
  pub counted : Rose old.faults new.faults
  pub missed : IfSome new.missed (λ last. last ≡ Some path)
  pub before : List SitePlate
  pub at : SitePlate
  pub behind : List SitePlate
  pub are : plates ≡ before ++ at ∷ behind
  pub named : path ≡ path_at plan out at
  pub right : NoneWrong plan rows out old.held before

-- the outcome of verifying these plates in order
abbrev pub Verified : PlanData → List (List ℕ) → List ℕ → List SitePlate → ShelfTold → ShelfTold
    → Result (Option Checked) VerifyFault → Type 0
Verified plan rows out plates old new (Ok None) = AreRight plan rows out plates old new
Verified plan rows out plates old new (Ok (Some found)) = FindsWrong plan rows out plates old new found
Verified plan rows out plates old new (Err (Shelf path)) = FailsAt plan rows out plates old new path
Verified plan rows out plates old new (Err Memory) = IsQuiet old new × (new.longs ≡ old.longs)

-- a plate was made from its rows
abbrev pub IsMade : PlanData → List (List ℕ) → PlateOf → PlateState → Type 0
IsMade plan rows plate made = made ≡ whole (plate_width plan) (plate_height plan) plan.dpi
    (plate_rows plan rows plate)

-- the plate at a site, if the site has it
abbrev pub plates_at : PlateOf → ℕ → List SitePlate
plates_at plate site = if has_site plate.0 site then (site, plate) ∷ [] else []

-- the plates of a group at all its sites, ink by ink
abbrev pub group_sites : PlanData → Group → List SitePlate
group_sites plan group = flat_map (λ ink. plate_sites plan (group, ink)) (inks_of group)

-- the first of these plates were made from the rows of a group's plates, in the order of its inks
pub record AreMade (plan : PlanData) (rows : List (List ℕ)) (group : Group)
    (made : List PlateState) : Type 0 where
  pub each : (i : ℕ) (ink : Ink) (plate : PlateState) → slice_get (inks_of group) i ≡ Some ink
      → slice_get made i ≡ Some plate → IsMade plan rows (group, ink) plate

-- the outcome of verifying all plates
pub record AllVerified (plan : PlanData) (rows : List (List ℕ)) (out : List ℕ) (old new : ShelfTold)
    (checked : Checked) : Type 0 where
  pub quiet : IsQuiet old new
  pub first : IfSome old.held (λ files. first_wrong plan rows out files ≡ told checked)
  pub long : IfLong checked (Rose old.longs new.longs)
  pub short : UnlessLong checked (new.longs ≡ old.longs)

abbrev pub AfterAll : PlanData → List (List ℕ) → List ℕ → ShelfTold → ShelfTold
    → Result Checked VerifyFault → Type 0
AfterAll plan rows out old new (Ok checked) = AllVerified plan rows out old new checked
AfterAll plan rows out old new (Err (Shelf path)) = FailsAt plan rows out (plates_in_order plan) old new path
AfterAll plan rows out old new (Err Memory) = IsQuiet old new × (new.longs ≡ old.longs)
