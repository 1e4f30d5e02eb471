-- What the reading code returns, compared with the definition: the same, unless memory ran out.
use Rattle.std.specs.Prelude.{◌≡◌, Result, Ok, Err}
use Rattle.plan_parts.specs.declared.fault.PlanFault.{PlanFault}
use Rattle.plan_parts.specs.declared.fault.PlanFault.TheVariants.{Missing, Kind, Range, Unknown, Repeat}
use Rattle.plan_parts.specs.declared.fault.PlanFault.TheVariants.{Memory, NotJson}
use Rattle.plan_parts.specs.Reading.{Read}

abbrev pub Fails : {B : Type 0} → PlanFault → Read B → Type 0
Fails Memory read = Unit {0}
Fails NotJson read = read ≡ Err NotJson
Fails (Missing path) read = read ≡ Err (Missing path)
Fails (Kind path) read = read ≡ Err (Kind path)
Fails (Range path) read = read ≡ Err (Range path)
Fails (Unknown path) read = read ≡ Err (Unknown path)
Fails (Repeat path) read = read ≡ Err (Repeat path)

-- the result, seen through `view`, is what the definition reads
abbrev pub Gives : {A B : Type 0} → (A → B) → Result A PlanFault → Read B → Type 0
Gives view (Ok x) read = read ≡ Ok (view x)
Gives view (Err fault) read = Fails fault read

-- how contracts see the result of a reader
pub record View (A : Type 0) : Type 1 where
  pub Seen : Type 0
  pub seen : A → Seen

-- the result itself
abbrev pub itself : {A : Type 0} → View A
itself {A} = record { Seen = A; seen = λ x. x }
