-- The number v of a pixel: a shift is the division that rounds down, its result stays small, and whether a
-- pixel prints follows from its whole sum.
use Rattle.std.proofs.Common.{◌≡◌, ℤ, pos, negsuc, ◌+ℤ◌, ◌-ℤ◌, ◌*ℤ◌, ◌≤ℤ◌, neg_ℤ, cond, true, false, to_z, of_z, w32, refl, ap, subst, ◌∙◌, sym, arith}
use Rattle.std.specs.Int.{int_div_euclid}
use Rattle.std.specs.Int.Signed.{le_z, shr_z}
use Rattle.std.proofs.lemmas.Int.{ints, to_z-of_z}
use Rattle.std.proofs.lemmas.Bool.Decides.{nat_tests}
use Rattle.scr_diffuse.specs.Diffusion.{error_of, prints}
use Rattle.scr_diffuse.specs.Passes.{IsNumber, IsSum, floor_16}

pub shifted : (z : ℤ) → shr_z z 16 ≡ int_div_euclid z (pos 16)
shifted (pos a) = refl
shifted (negsuc a) = refl

-- a sixteenth is within a sixteenth of the bounds
sixteenth-small : (z : ℤ) → neg_ℤ (pos 61440) ≤ℤ z → z ≤ℤ pos 61440 → IsNumber (shr_z z 16)
sixteenth-small (pos a) low high = record { low = omega (arith, ints); high = omega (arith, ints) }
sixteenth-small (negsuc a) low high = record { low = omega (arith, ints); high = omega (arith, ints) }

pub number_small : (z : ℤ) → IsSum z → IsNumber (floor_16 z)
number_small z sum = subst IsNumber (shifted z) (sixteenth-small z sum.low sum.high)

-- a computed number that was shifted, as the number itself
kept : (z : ℤ) → IsSum z → to_z w32 (of_z w32 (shr_z z 16)) ≡ shr_z z 16
kept z sum = let small : IsNumber (shr_z z 16) = sixteenth-small z sum.low sum.high in to_z-of_z w32 (shr_z z 16) (omega (arith, ints))

pub shifted_is : (computed z : ℤ) → computed ≡ z → IsSum z
    → to_z w32 (of_z w32 (shr_z computed 16)) ≡ floor_16 z
shifted_is computed z same sum = rw same (kept z sum ∙ shifted z)

pub shifted-small : (computed z : ℤ) → computed ≡ z → IsSum z
    → IsNumber (to_z w32 (of_z w32 (shr_z computed 16)))
shifted-small computed z same sum = rw (same, kept z sum) (sixteenth-small z sum.low sum.high)

-- whether a pixel prints, from its whole sum
pub dot_is : (z : ℤ) → le_z (pos 2048) z ≡ prints (floor_16 z)
dot_is (pos a) = grind (arith, nat_tests)
dot_is (negsuc a) = refl

pub with_dot : (z : ℤ) → le_z (pos 2048) z ≡ true → floor_16 z -ℤ pos 255 ≡ error_of (floor_16 z)
with_dot z on = sym (ap (λ b. cond b (floor_16 z -ℤ pos 255) (floor_16 z)) (sym (dot_is z) ∙ on))

pub no_dot : (z : ℤ) → le_z (pos 2048) z ≡ false → floor_16 z ≡ error_of (floor_16 z)
no_dot z off = sym (ap (λ b. cond b (floor_16 z -ℤ pos 255) (floor_16 z)) (sym (dot_is z) ∙ off))

-- seven times a dot is subtracted
pub less_dot_is : (less sum number error : ℤ) → less ≡ sum -ℤ pos 1785 → number -ℤ pos 255 ≡ error
    → less +ℤ (pos 7 *ℤ number) ≡ sum +ℤ (pos 7 *ℤ error)
less_dot_is less sum number error taken left = omega (arith, ints)
