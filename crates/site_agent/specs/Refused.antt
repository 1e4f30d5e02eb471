-- What a site knows when its rack refused a call.
use Rattle.std.specs.Prelude.{◌≡◌, ℕ, ◌+◌, ◌≤◌, List, Option, Some, Result, IfErr, IfSome, OnErr, OnOk}
use Rattle.std.specs.Prelude.{slice_index_or}
use Rattle.ring_lanes.specs.Held.{HeldRow}
use Rattle.ring_lanes.specs.declared.source.Source.{Source}
use Rattle.pr_rack.specs.declared.rack.RackCall.{RackCall}
use Rattle.pr_rack.specs.declared.rack.RackCall.TheVariants.{Begin, Row, Finish}
use Rattle.pr_rack.specs.declared.rack.RackFault.TheVariants.{Failed, Memory}
use Rattle.pr_base.specs.Count.{Rose}
use Rattle.pr_rack.specs.Rack.{OthersBegun, OthersStand, with_row}
use Rattle.pr_rack.specs.Told.{RackTells, Tells}
use Rattle.site_agent.specs.declared.calls.Refusal.{Refusal}
use Rattle.site_agent.specs.declared.plate_row.PlateRow.{PlateRow}
use Rattle.site_agent.specs.declared.plate.SitePlate.{SitePlate}
use Rattle.site_agent.specs.Given.{IsRowOf}
use Rattle.site_agent.specs.Job.{SiteJob}

-- this call for the plate at this path was refused
pub record IsRefused (call' : RackCall) (path : List ℕ) (old new : RackTells) (refusal : Refusal)
    : Type 0 where
  pub call : refusal.call ≡ call'
  pub finished : new.tells.finished ≡ old.tells.finished
  pub taken : new.tells.taken ≡ old.tells.taken
  pub counted : refusal.fault ≡ Failed → Rose old.faults new.faults
  pub missed : refusal.fault ≡ Failed → IfSome new.missed (λ last. last ≡ Some (call', path))
  -- no call failed
  pub unmissed : refusal.fault ≡ Memory → new.missed ≡ old.missed

-- the slots but this one are as before: which of them are begun, and their contents
pub record OthersStay (slot : ℕ) (old new : Tells) : Type 0 where
  pub begun : OthersBegun slot old.begun new.begun
  pub working : OthersStand slot old.working new.working

-- the rack did this call for the plate at this path, in this slot, or refused it
pub record AnswersCall {T : Type 0} (call : RackCall) (path : List ℕ) (slot : ℕ) (old new : RackTells)
    (result : Result T Refusal) : Type 0 where
  pub err : IfErr result (IsRefused call path old new)
  pub others_stay : OnErr result (OthersStay slot old.tells new.tells)
  pub missed_stay : OnOk result (new.missed ≡ old.missed)
  pub faults_stay : old.faults ≤ new.faults

-- the rows taken after this call for the row with this number was refused: with the row only if the call was
-- to finish its plate
abbrev pub taken_at : RackCall → ℕ → Source → Option (List (ℕ × Source)) → Option (List (ℕ × Source))
taken_at Begin number source taken = taken
taken_at Row number source taken = taken
taken_at Finish number source taken = with_row number source taken

-- row y of a plate, with this number, was not completed
pub record IsStopped (height y number : ℕ) (source : Source) (path : List ℕ) (old new : RackTells)
    (refusal : Refusal) : Type 0 where
  pub begins : refusal.call ≡ Begin → y ≡ 0
  pub ends : refusal.call ≡ Finish → y + 1 ≡ height
  pub finished : new.tells.finished ≡ old.tells.finished
  pub taken : new.tells.taken ≡ taken_at refusal.call number source old.tells.taken
  pub counted : refusal.fault ≡ Failed → Rose old.faults new.faults
  pub missed : refusal.fault ≡ Failed → IfSome new.missed (λ last. last ≡ Some (refusal.call, path))
  pub unmissed : refusal.fault ≡ Memory → new.missed ≡ old.missed

-- the same for this row, at its place in a job
abbrev pub IsStoppedAt : SiteJob → PlateRow → HeldRow → RackTells → RackTells → Refusal → Type 0
IsStoppedAt job place held old new refusal = (d : SitePlate) → IsStopped job.height place.y held.number
    held.source (slice_index_or job.plates place.plate d).path old new refusal

-- the same for the slot of the plate at this place in a job
abbrev pub OthersStayAt : SiteJob → PlateRow → Tells → Tells → Type 0
OthersStayAt job place old new = (d : SitePlate)
    → OthersStay (slice_index_or job.plates place.plate d).slot old new

-- the same for the slot of row n's plate
abbrev pub OthersStayFor : SiteJob → ℕ → Tells → Tells → Type 0
OthersStayFor job n old new = (k y : ℕ) (d : SitePlate) → IsRowOf job n k y
    → OthersStay (slice_index_or job.plates k d).slot old new
