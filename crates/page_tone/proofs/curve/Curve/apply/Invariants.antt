use Rattle.std.proofs.Common.{◌*◌, slice_index}
use Rattle.page_tone.specs.Limit.{IsWritten}
use Rattle.page_tone.proofs.curve.Curve.apply.Given as goal

-- the blocks so far are looked up
abbrev pub invariant-loop-block : goal.invariant-loop-block
invariant-loop-block l = IsWritten (λ x. slice_index l.self (slice_index l.values x)) 0 (64 * l.block) l.initial.into l.into
