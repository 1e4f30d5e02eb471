-- The number of strips, computed as in the code.
use Rattle.std.proofs.Common.{◌≡◌, ℕ, ◌+◌, ◌-◌, ◌/◌, ◌<◌, arith}
use Rattle.std.specs.Int.{div_ceil}
use Rattle.std.proofs.lemmas.Grind.{div_ceil_times}
use Rattle.std.proofs.Math.Nat.{div-eq_of_lt-le}

-- x / y, rounded up
pub rounded_up : (x y : ℕ) → 0 < y → (x + (y - 1)) / y ≡ div_ceil x y
rounded_up x y some = let h = div_ceil_times x y some in div-eq_of_lt-le y (omega arith) (omega arith)
