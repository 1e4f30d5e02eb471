use Rattle.std.proofs.Common.{slice_index}
use Rattle.page_tone.specs.Limit.{IsWritten}
use Rattle.page_tone.proofs.curve.Curve.apply_each.Given as goal

-- the values so far are looked up
abbrev pub invariant-loop-x : goal.invariant-loop-x
invariant-loop-x l = IsWritten (λ x. slice_index l.self (slice_index l.values x)) l.from l.x l.initial.into l.into
