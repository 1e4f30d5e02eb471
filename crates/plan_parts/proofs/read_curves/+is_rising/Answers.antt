use Rattle.std.proofs.Common.{◌≡◌, ◌<◌, ℕ, true, List, [], ◌∷◌, length, refl, arith}
use Rattle.plan_parts.specs.Printing as spec
use Rattle.plan_parts.proofs.read_curves.+is_rising.Goals as goal

short : (points : List (ℕ × ℕ)) → length points < 2 → true ≡ spec.is_rising points
short [] h = refl
short (p ∷ []) h = refl
short (p ∷ q ∷ points) h = absurd (omega arith)

pub returns-in_default : goal.returns-in_default
returns-in_default t c = short c.args.points.now c.in_default.len_below
