-- The command `one`: the black plate of one file.
use Rattle.std.specs.Prelude.{◌≡◌, ◌⊎◌, ℕ, if◌then◌else◌, nat_lt, List, length, Option, Some, None, Result}
use Rattle.std.specs.Prelude.{Ok, Err}
use Rattle.pr_base.specs.declared.fault.TagFault.{TagFault}
use Rattle.pr_base.specs.declared.fault.FileFault.{FileFault}
use Rattle.pr_base.specs.declared.fault.FaultKind.TheVariants.{TooLong}
use Rattle.pr_base.specs.Count.{Rose}
use Rattle.pr_ports.specs.Shelf.{IsLongerAt, held_at}
use Rattle.pr_ports.specs.Sink.{GrewByPrefix, Grew}
use Rattle.tif_strips.specs.declared.shape.Shape.{Shape}
use Rattle.tif_image.specs.Image.{contone_shape}
use Rattle.cmd_base.specs.declared.refusal.Whose.TheVariants.{New}
use Rattle.cmd_base.specs.declared.refusal.Refusal.{Refusal}
use Rattle.cmd_base.specs.declared.refusal.Refusal.TheVariants.{Words, LongPlan, Plan, File, Shelf}
use Rattle.cmd_one.specs.declared.plate.PlateFault.{PlateFault}
use Rattle.cmd_one.specs.declared.plate.PlateFault.TheVariants as plate
use Rattle.cmd_base.specs.Job.{IsLoaded, HasMissed}
use Rattle.cmd_one.specs.One.{black_plate}
use Rattle.cmd_base.specs.Seen.{ShelfSeen, SinkSeen, IsSilent, PutFailed}
use Rattle.cmd_base.specs.Task.{Rules}

-- the most bytes that are read of a file: 512 MiB
abbrev pub file_limit : ℕ
file_limit = 536870912

-- the fault of a longer file
abbrev pub too_long : TagFault
too_long = record { tag = 0; kind = TooLong }

-- a fault of the file with this name
abbrev pub named : List ℕ → TagFault → FileFault
named file fault = record { file = file; tag = fault.tag; kind = fault.kind }

-- the verdict on a file, given the result of checking its image
abbrev pub judged : List ℕ → Result Shape TagFault → Option Refusal
judged file (Ok shape) = None
judged file (Err fault) = Some (File New (named file fault))

-- the verdict on the bytes at a file's path: whether present, not too long, and a contone image
abbrev pub verdict_on : List ℕ → Option (List ℕ) → Option Refusal
verdict_on file None = Some (Shelf file)
verdict_on file (Some bytes) =
    if nat_lt file_limit (length bytes) then Some (File New (named file too_long))
    else judged file (contone_shape bytes)

-- why a file is refused: the shelf counted it as too long, or the bytes that it returned are not a contone
-- image
abbrev pub HasFault : ShelfSeen → List ℕ → TagFault → Type 0
HasFault shelf file fault =
    ((fault ≡ too_long) × IsLongerAt shelf.held file file_limit × Rose shelf.longs shelf.longs')
    ⊎ ((bytes : List ℕ) × IsLoaded shelf.held file_limit file bytes × (contone_shape bytes ≡ Err fault))

-- the shelf shows the cause of this refusal
abbrev pub OneMeets : List ℕ → ShelfSeen → Refusal → Type 0
OneMeets file shelf Words = ⊥
OneMeets file shelf (LongPlan whose) = ⊥
OneMeets file shelf (Plan whose fault) = ⊥
OneMeets file shelf (File whose fault) =
    (whose ≡ New) × ((tags : TagFault) × (fault ≡ named file tags) × HasFault shelf file tags)
OneMeets file shelf (Shelf path) = (path ≡ file) × HasMissed shelf path

-- these bytes were loaded from the file, and are a contone image of this shape
pub record IsImage (shelf : ShelfSeen) (file bytes : List ℕ) (shape : Shape) : Type 0 where
  pub loaded : IsLoaded shelf.held file_limit file bytes
  pub passed : contone_shape bytes ≡ Ok shape

-- the text is the black plate of the file, and the status is 0
pub record PrintsPlate (file : List ℕ) (shelf : ShelfSeen) (text : List ℕ) (status : ℕ) : Type 0 where
  pub bytes : List ℕ
  pub shape : Shape
  pub image : IsImage shelf file bytes shape
  pub is : text ≡ black_plate shape bytes
  pub zero : status ≡ 0

abbrev pub one_rules : List ℕ → Rules
one_rules file = record {
  verdict = λ files. verdict_on file (held_at files file);
  Meets = OneMeets file;
  Ends = λ files status. status ≡ 0;
}

-- ---- private calls

-- what printing a plate of these bytes appends to the output, for each result
abbrev pub Printed : List ℕ → SinkSeen → Result (Unit {0}) PlateFault → Type 0
Printed bytes out (Ok done) =
    (shape : Shape) × (contone_shape bytes ≡ Ok shape) × Grew out.given out.given' (black_plate shape bytes)
Printed bytes out (Err (plate.Refused fault)) = (contone_shape bytes ≡ Err fault) × IsSilent out
Printed bytes out (Err plate.Memory) =
    (shape : Shape) × (contone_shape bytes ≡ Ok shape)
    × GrewByPrefix out.given out.given' (black_plate shape bytes)
Printed bytes out (Err plate.Printing) =
    (shape : Shape) × (contone_shape bytes ≡ Ok shape)
    × GrewByPrefix out.given out.given' (black_plate shape bytes) × PutFailed out

-- no write to the output failed, unless the result is that it did
abbrev pub PlateWrites : SinkSeen → Result (Unit {0}) PlateFault → Type 0
PlateWrites out (Ok done) = out.faults' ≡ out.faults
PlateWrites out (Err (plate.Refused fault)) = out.faults' ≡ out.faults
PlateWrites out (Err plate.Memory) = out.faults' ≡ out.faults
PlateWrites out (Err plate.Printing) = Unit {0}
