-- How the bytes given to a sink grow.
use Rattle.std.specs.Prelude.{◌≡◌, ℕ, Bool, true, false, List, ◌++◌, take, Option, Some, IfSome, Result, Ok}
use Rattle.std.specs.Prelude.{Err}
use Rattle.pr_ports.specs.declared.sink.SinkFault.{SinkFault}
use Rattle.pr_ports.specs.declared.sink.SinkFault.TheVariants.{Failed, Memory}

-- where known, the bytes given grew by exactly these
abbrev pub Grew : Option (List ℕ) → Option (List ℕ) → List ℕ → Type 0
Grew old new bytes = IfSome old (λ given. new ≡ Some (given ++ bytes))

-- where known, the bytes given grew by a prefix of these
abbrev pub GrewByPrefix : Option (List ℕ) → Option (List ℕ) → List ℕ → Type 0
GrewByPrefix old new bytes = (n : ℕ) × Grew old new (take n bytes)

-- whether the call returned Failed
abbrev pub has_failed : {T : Type 0} → Result T SinkFault → Bool
has_failed (Ok value) = false
has_failed (Err Failed) = true
has_failed (Err Memory) = false

-- the model of a sink over a writer
pub record WriterState : Type 0 where
  -- the contents of the writer, where known
  pub given : Option (List ℕ)
  pub faults : ℕ
