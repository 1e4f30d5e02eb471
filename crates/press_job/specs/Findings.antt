-- What the tests of a plan's files found: one record for each file and use.
use Rattle.std.specs.Prelude.{◌≡◌, ℕ, ◌<◌, All, List, length, slice_index_or, Some}
use Rattle.std.specs.Option.{ForSome}
use Rattle.tif_image.specs.Found.{FoundData, IsFound}
use Rattle.tif_image.specs.declared.usage.BilevelUse.TheVariants.{Line, Mask}
use Rattle.tif_image.specs.declared.usage.Usage.{Usage}
use Rattle.tif_image.specs.declared.usage.Usage.TheVariants.{Contone, Bilevel}
use Rattle.plan_parts.specs.Data.{LayerData}
use Rattle.plan_json.specs.Data.{PlanData}
use Rattle.press_job.specs.declared.findings.Findings.{Findings}
use Rattle.press_job.specs.Layers.{bytes_at}
use Rattle.press_job.specs.Tests.{use_of}

-- what was found for a use
abbrev pub found_of : Findings → Usage → FoundData
found_of findings Contone = findings.contone
found_of findings (Bilevel Line) = findings.line
found_of findings (Bilevel Mask) = findings.mask

-- the same findings, with those of one use
abbrev pub with_found : Findings → Usage → FoundData → Findings
with_found findings Contone found = record findings { contone = found }
with_found findings (Bilevel Line) found = record findings { line = found }
with_found findings (Bilevel Mask) found = record findings { mask = found }

-- these findings have a record of a file for each use by a layer
pub record IsRecorded (file : ℕ) (bytes : List ℕ) (findings : Findings) (layer : LayerData) : Type 0 where
  pub image : layer.file ≡ file → IsFound (use_of layer) bytes (found_of findings (use_of layer))
  pub mask : layer.mask ≡ Some file → IsFound (Bilevel Mask) bytes (found_of findings (Bilevel Mask))

-- and for each use by a plan
abbrev pub HasRecords : PlanData → ℕ → List ℕ → Findings → Type 0
HasRecords plan file bytes findings =
    All (λ page. All (IsRecorded file bytes findings) page.layers) plan.pages

-- the bytes of files, and what the tests of each found
pub record FilesData : Type 0 where
  pub bytes : List (List ℕ)
  pub found : List Findings

-- the files have the record of this one for this use
pub record HasFound (files : FilesData) (file : ℕ) (usage : Usage) : Type 0 where
  pub within : file < length files.found
  pub is : (other : Findings)
      → IsFound usage (bytes_at files.bytes file) (found_of (slice_index_or files.found file other) usage)

-- the files have the records of a layer's image and mask
pub record HasLayer (files : FilesData) (layer : LayerData) : Type 0 where
  pub image : HasFound files layer.file (use_of layer)
  pub mask : ForSome layer.mask (λ mask. HasFound files mask (Bilevel Mask))

-- and those of all layers of a plan
pub record HaveLayers (plan : PlanData) (files : FilesData) : Type 0 where
  pub each : All (λ page. All (HasLayer files) page.layers) plan.pages
