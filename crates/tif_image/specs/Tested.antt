-- The results of tests that leave records.
use Rattle.std.specs.Prelude.{◌≡◌, Option, Some, None, Result, Ok, Err}
use Rattle.pr_base.specs.declared.fault.TagFault.{TagFault}
use Rattle.tif_image.specs.declared.test_fault.TestFault.{TestFault}
use Rattle.tif_image.specs.declared.test_fault.TestFault.TheVariants.{Failed, Memory}

-- all pass and there is no fault, or this is the first; nothing is said where memory ran out
abbrev pub Tells : {T : Type 0} → Result T TestFault → Option TagFault → Type 0
Tells (Ok value) first = first ≡ None
Tells (Err (Failed fault)) first = first ≡ Some fault
Tells (Err Memory) first = Unit {0}
