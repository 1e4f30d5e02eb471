-- Reading past the end gives 0.
use Rattle.std.proofs.Common.{pos, length, inl, inr, arith}
use Rattle.std.proofs.lemmas.Bool.{cases_lt}
use Rattle.std.proofs.lemmas.List.{get_or_past}
use Rattle.scr_diffuse.proofs.row.clear.Goals as goal

pub returns : goal.returns
returns c = λ k. elim (cases_lt k (length c.loop-error.errors)) [
  | inl inside ↦ c.loop-error.invariant k (omega arith)
  | inr outside ↦ get_or_past c.loop-error.errors k (pos 0) outside
]
