use Rattle.page_tone.specs.Limit.{IsWritten}
use Rattle.page_tone.proofs.block.fill.Given as goal

-- the columns so far have the value
abbrev pub invariant-loop-x : goal.invariant-loop-x
invariant-loop-x l = IsWritten (λ _. l.value) l.from l.x l.initial.into l.into
