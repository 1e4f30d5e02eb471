-- One strip of a file.
use Rattle.std.specs.Prelude.{ℕ, ◌+◌, nat_lt, if◌then◌else◌, Bool, List, length, take, drop, Option, Some}
use Rattle.std.specs.Prelude.{None}
use Rattle.pr_base.specs.declared.fault.TagFault.{TagFault}
use Rattle.pr_base.specs.declared.fault.FaultKind.TheVariants.{StripPlace, Short}
use Rattle.tif_dir.specs.Directory.{fault_at}
use Rattle.tif_dir.specs.Names.{strip_offsets}
use Rattle.tif_strips.specs.declared.shape.Shape.{Shape}
use Rattle.tif_strips.specs.declared.strip.Strip.{Strip}
use Rattle.tif_strips.specs.Strips.{needed_length, samples_in, strip_offset, strip_size}

-- strip i of an image
abbrev pub strip_of : Shape → List ℕ → ℕ → Strip
strip_of shape bytes i =
    record {
      offset = strip_offset shape bytes i;
      size = strip_size shape bytes i;
      needed = needed_length shape i;
    }

-- the bytes of a strip, if they are within the file
abbrev pub bytes_at : List ℕ → Strip → Option (List ℕ)
bytes_at bytes strip =
    if nat_lt (length bytes) (strip.offset + strip.size) then None
    else Some (take strip.size (drop strip.offset bytes))

-- the fault of these stored bytes, from which needed bytes of samples are required
abbrev pub fault_in : Bool → ℕ → Option (List ℕ) → Option TagFault
fault_in packed needed None = Some (fault_at strip_offsets StripPlace)
fault_in packed needed (Some stored) =
    if nat_lt (length (samples_in packed stored)) needed then Some (fault_at strip_offsets Short) else None

-- the fault of a strip: it must be within the file and have the samples that it needs
abbrev pub fault_of : Bool → List ℕ → Strip → Option TagFault
fault_of packed bytes strip = fault_in packed strip.needed (bytes_at bytes strip)
