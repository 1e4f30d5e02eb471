-- All plates of an edition, group by group.
use Rattle.std.specs.Prelude.{◌≡◌, ℕ, ◌+◌, ◌*◌, ◌≤◌, All, List, length, map, drop, Option, Some, None, Result}
use Rattle.std.specs.Prelude.{Ok, Err}
use Rattle.pr_base.specs.Row.{row_size}
use Rattle.tif_packbits.specs.Frame.{frame_of, frame_size}
use Rattle.plan_json.specs.Data.{PlanData, plate_width, plate_height}
use Rattle.plan_rows.specs.declared.group.Group.{Group}
use Rattle.plan_rows.specs.Inks.{ink_count}
use Rattle.plan_rows.specs.Rows.{row_total, rows_of}
use Rattle.plan_rows.specs.Sides.{plate_sides}
use Rattle.plate_bytes.specs.Made.{PlateState}
use Rattle.plate_verify.specs.declared.checked.VerifyFault.{VerifyFault}
use Rattle.plate_verify.specs.declared.checked.VerifyFault.TheVariants.{Shelf, Memory}
use Rattle.plate_verify.specs.declared.checked.Checked.{Checked}
use Rattle.plate_verify.specs.declared.checked.Checked.TheVariants.{Same}
use Rattle.plate_verify.specs.Order.{plates_in_order}
use Rattle.plate_verify.specs.Making.{HaveSides}

-- plates in memory for the plates of a plan; the frames of these rows, from this number on, are the next of a
-- feed
pub record FedFrom (plan : PlanData) (rows : List (List ℕ)) (number : ℕ) (plates : List PlateState)
    (left : List (List ℕ)) (len : ℕ) : Type 0 where
  pub have : HaveSides (plate_sides plan) plates
  pub five : 5 ≤ length plates
  pub feeds : left ≡ map frame_of (drop number rows)
  pub each : All (λ row. length row ≡ row_size (plate_width plan)) rows
  pub small : row_size (plate_width plan) ≤ 8192
  pub frame : len ≡ frame_size (row_size (plate_width plan))

-- the rows of a group are the next
pub record FedGroup (plan : PlanData) (rows : List (List ℕ)) (group : Group)
    (plates : List PlateState) (left : List (List ℕ)) (len : ℕ) : Type 0 where
  pub fed : FedFrom plan rows group.first plates left len
  pub enough : group.first + plate_height plan * ink_count group ≤ length rows

pub record CanMakeGroup (plan : PlanData) (group : Group) (plates : List PlateState) (left : List
    (List ℕ)) (len : ℕ) : Type 0 where
  pub rows : List (List ℕ)
  pub fed : FedGroup plan rows group plates left len

-- P of the path of a failed load
abbrev pub IfShelf : {T : Type 0} → Result T VerifyFault → (List ℕ → Type 0) → Type 0
IfShelf (Ok value) P = Unit {0}
IfShelf (Err (Shelf path)) P = P path
IfShelf (Err Memory) P = Unit {0}

-- the frames of all rows of a plan are still to come
pub record CanBeVerified (plan : PlanData) (plates : List PlateState) (left : List (List ℕ))
    (len : ℕ) : Type 0 where
  pub rows : List (List ℕ)
  pub fed : FedFrom plan rows 0 plates left len
  pub all : length rows ≡ row_total (rows_of plan)

-- the result, given the first plate that does not match, or none
abbrev pub answer_of : PlanData → Result (Option Checked) VerifyFault → Result Checked VerifyFault
answer_of plan (Ok None) = Ok (Same (length (plates_in_order plan)))
answer_of plan (Ok (Some found)) = Ok found
answer_of plan (Err fault) = Err fault
