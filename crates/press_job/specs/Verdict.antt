-- The verdict on a plan's files, which depends only on the plan and the contents of a shelf.
use Rattle.std.specs.Prelude.{◌≡◌, ℕ, ◌-◌, ◌<◌, min, nat_lt, if◌then◌else◌, List, [], ◌∷◌, ◌++◌, length, map}
use Rattle.std.specs.Prelude.{sum_by, slice_index_or, Option, Some, None, IfSome, Result, Ok, Err, option_map}
use Rattle.std.specs.Prelude.{unwrap_or}
use Rattle.std.specs.List.{range_with_len}
use Rattle.std.specs.Option.{option_or}
use Rattle.pr_base.specs.declared.fault.TagFault.{TagFault}
use Rattle.pr_base.specs.declared.fault.FileFault.{FileFault}
use Rattle.pr_base.specs.declared.fault.FaultKind.{FaultKind}
use Rattle.pr_base.specs.declared.fault.FaultKind.TheVariants.{TooLong}
use Rattle.pr_ports.specs.Shelf.{held_at}
use Rattle.plan_json.specs.Data.{PlanData}
use Rattle.press_job.specs.declared.refusal.Refusal.{Refusal}
use Rattle.press_job.specs.declared.refusal.Refusal.TheVariants.{File, Shelf, Memory}
use Rattle.pr_base.specs.First.{first_some}
use Rattle.press_job.specs.declared.fit.Misfit.{Misfit}
use Rattle.press_job.specs.Tests.{fault_of_file, fault_of_layers}

-- the name of the file with this index
abbrev pub name_of : PlanData → ℕ → List ℕ
name_of plan file = slice_index_or plan.files file []

-- the path of a file of the plan: FILES/NAME, where 47 is `/`
abbrev pub path_of : PlanData → List ℕ → ℕ → List ℕ
path_of plan folder file = folder ++ 47 ∷ name_of plan file

-- the largest size of a file in bytes after files of this many bytes
abbrev pub limit_behind : ℕ → ℕ
limit_behind loaded = min 536870912 (3221225472 - loaded)

-- the contents at the path of a file; no bytes if nothing is held there
abbrev pub held_bytes : PlanData → List ℕ → List (List ℕ × List ℕ) → ℕ → List ℕ
held_bytes plan folder held file = unwrap_or (held_at held (path_of plan folder file)) []

-- the first `count` files of a plan, from the shelf's contents
unfoldable pub first_files : PlanData → List ℕ → List (List ℕ × List ℕ) → ℕ → List (List ℕ)
first_files plan folder held count = map (held_bytes plan folder held) (range_with_len 0 count)

-- all of them
abbrev pub files_in : PlanData → List ℕ → List (List ℕ × List ℕ) → List (List ℕ)
files_in plan folder held = first_files plan folder held (length plan.files)

-- a fault of the file with this index
abbrev pub named_fault : PlanData → ℕ → ℕ → FaultKind → FileFault
named_fault plan file tag kind = record { file = name_of plan file; tag = tag; kind = kind }

-- the refusal of a file for its images
abbrev pub refusal_of : PlanData → ℕ → TagFault → Refusal
refusal_of plan file fault = File (named_fault plan file fault.tag fault.kind)

-- the verdict on a file and the contents at its path: the file is held, is not too long, and passes the tests
-- of its uses
abbrev pub verdict_on : PlanData → List ℕ → ℕ → ℕ → Option (List ℕ) → Option Refusal
verdict_on plan folder limit file None = Some (Shelf (path_of plan folder file))
verdict_on plan folder limit file (Some bytes) =
    if nat_lt limit (length bytes) then Some (File (named_fault plan file 0 TooLong))
    else option_map (refusal_of plan file) (fault_of_file plan file bytes)

-- the same for a file after those before it
unfoldable pub verdict_at : PlanData → List ℕ → List (List ℕ × List ℕ) → ℕ → Option Refusal
verdict_at plan folder held file =
    let loaded = sum_by length (first_files plan folder held file) in
    verdict_on plan folder (limit_behind loaded) file (held_at held (path_of plan folder file))

-- the verdict on the first `count` files
unfoldable pub verdict_before : PlanData → List ℕ → List (List ℕ × List ℕ) → ℕ → Option Refusal
verdict_before plan folder held count = first_some (verdict_at plan folder held) (range_with_len 0 count)

-- the refusal of a layer
abbrev pub misfit_refusal : PlanData → Misfit → Refusal
misfit_refusal plan misfit = File (named_fault plan misfit.file misfit.tag misfit.kind)

-- the verdict on a plan's files: on each in order, and then on the layers; none if all pass
abbrev pub verdict_on_files : PlanData → List ℕ → List (List ℕ × List ℕ) → Option Refusal
verdict_on_files plan folder held =
    option_or (verdict_before plan folder held (length plan.files))
    (option_map (misfit_refusal plan) (fault_of_layers plan (files_in plan folder held)))

-- ---- the results of loads

-- these are the first files of a plan as they are held, and all pass
pub record AreFirst (plan : PlanData) (folder : List ℕ) (held : List (List ℕ × List ℕ)) (files : List
    (List ℕ)) : Type 0 where
  pub files_are : files ≡ first_files plan folder held (length files)
  pub pass : verdict_before plan folder held (length files) ≡ None

-- P of the shelf's files where they are known, otherwise of some files
abbrev pub OfFiles : Option (List (List ℕ × List ℕ)) → (List (List ℕ × List ℕ) → Type 0) → Type 0
OfFiles None P = (held : List (List ℕ × List ℕ)) × P held
OfFiles (Some held) P = P held

-- these are a plan's files as they are held, and all pass
pub record AreSound (plan : PlanData) (folder : List ℕ) (files : List (List ℕ)) (held : List
    (List ℕ × List ℕ)) : Type 0 where
  pub files_are : files ≡ files_in plan folder held
  pub pass : verdict_on_files plan folder held ≡ None

-- this fault of a file is the first one found
abbrev pub IsFirstFault : PlanData → List ℕ → FileFault → List (List ℕ × List ℕ) → Type 0
IsFirstFault plan folder fault held = verdict_on_files plan folder held ≡ Some (File fault)

-- a load failed at this path: that of a file before which all files pass, where they are known
pub record IsMissing (plan : PlanData) (folder : List ℕ) (held : Option (List (List ℕ × List ℕ)))
    (path : List ℕ) : Type 0 where
  pub file : ℕ
  pub within : file < length plan.files
  pub is_path : path ≡ path_of plan folder file
  pub before : IfSome held (λ files. verdict_before plan folder files file ≡ None)

-- P of the fault of a refused file
abbrev pub IfFile : {T : Type 0} → Result T Refusal → (FileFault → Type 0) → Type 0
IfFile (Ok value) P = Unit {0}
IfFile (Err (File fault)) P = P fault
IfFile (Err (Shelf path)) P = Unit {0}
IfFile (Err Memory) P = Unit {0}

-- P of the path of a failed load
abbrev pub IfShelf : {T : Type 0} → Result T Refusal → (List ℕ → Type 0) → Type 0
IfShelf (Ok value) P = Unit {0}
IfShelf (Err (File fault)) P = Unit {0}
IfShelf (Err (Shelf path)) P = P path
IfShelf (Err Memory) P = Unit {0}

-- ---- private calls

-- the contents found at the path of a file, equal to what is held there where known, have this fault
pub record WasFound (plan : PlanData) (folder : List ℕ) (held : Option (List (List ℕ × List ℕ)))
    (limit file : ℕ) (fault : FileFault) : Type 0 where
  pub found : Option (List ℕ)
  pub is_held : IfSome held (λ files. held_at files (path_of plan folder file) ≡ found)
  pub refused : verdict_on plan folder limit file found ≡ Some (File fault)
