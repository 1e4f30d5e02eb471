-- A file under test, and what its tests found so far.
use Rattle.std.specs.Prelude.{◌≡◌, ℕ, Bool, true, Option, Some, None}
use Rattle.pr_base.specs.declared.fault.TagFault.{TagFault}
use Rattle.tif_image.specs.Found.{FoundData, IsFound}
use Rattle.tif_image.specs.declared.usage.BilevelUse.TheVariants.{Line, Mask}
use Rattle.tif_image.specs.declared.usage.Usage.{Usage}
use Rattle.tif_image.specs.declared.usage.Usage.TheVariants.{Contone, Bilevel}
use Rattle.plan_parts.specs.Data.{LayerData}
use Rattle.press_job.specs.declared.file_test.FileTest.{FileTest}
use Rattle.press_job.specs.Findings.{found_of, with_found}
use Rattle.press_job.specs.Tests.{mention_fault, use_of}

-- whether the file has passed the tests for a use
abbrev pub has_passed : FileTest → Usage → Bool
has_passed test Contone = test.contone
has_passed test (Bilevel Line) = test.line
has_passed test (Bilevel Mask) = test.mask

-- the same test after the file has passed for one more use
abbrev pub with_use : FileTest → Usage → FoundData → FileTest
with_use test Contone found =
    record test { contone = true; found = with_found test.found Contone found }
with_use test (Bilevel Line) found =
    record test { line = true; found = with_found test.found (Bilevel Line) found }
with_use test (Bilevel Mask) found =
    record test { mask = true; found = with_found test.found (Bilevel Mask) found }

-- for each use that the file has passed there is its record
pub record IsTested (test : FileTest) : Type 0 where
  pub each : (usage : Usage) → has_passed test usage ≡ true
      → IsFound usage test.bytes.now (found_of test.found usage)

-- a later state of the test of the same file, which keeps the uses that have passed
pub record GoesOn (old new : FileTest) : Type 0 where
  pub file : new.file ≡ old.file
  pub bytes : new.bytes.now ≡ old.bytes.now
  pub kept : (usage : Usage) → has_passed old usage ≡ true → has_passed new usage ≡ true
  pub tested : IsTested new

-- the fault of the file for a use by a mention; none if no file or another one is mentioned
abbrev pub fault_at_mention : FileTest → Option ℕ → Usage → Option TagFault
fault_at_mention test None usage = None
fault_at_mention test (Some file) usage = mention_fault test.file test.bytes.now (file, usage)

-- the file has passed for each of its uses by a layer
pub record PassesIn (test : FileTest) (layer : LayerData) : Type 0 where
  pub image : layer.file ≡ test.file → has_passed test (use_of layer) ≡ true
  pub mask : layer.mask ≡ Some test.file → has_passed test (Bilevel Mask) ≡ true
