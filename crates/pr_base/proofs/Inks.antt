-- The inks and their slots.
use Rattle.std.proofs.Common.{◌≡◌, ℕ, ◌<◌, get_or, refl, sym, ap, ◌∙◌, arith}
use Rattle.pr_base.specs.declared.ink.Ink.{Ink}
use Rattle.pr_base.specs.declared.ink.Ink.TheVariants.{C, M, Y, K, S}
use Rattle.pr_base.specs.Ink.{all_inks, slot_of}

-- each ink is at its slot in the list
pub ink_at_slot : (ink e : Ink) → get_or all_inks (slot_of ink) e ≡ ink
ink_at_slot C e = refl
ink_at_slot M e = refl
ink_at_slot Y e = refl
ink_at_slot K e = refl
ink_at_slot S e = refl

pub slot_below : (ink : Ink) → slot_of ink < 5
slot_below C = omega arith
slot_below M = omega arith
slot_below Y = omega arith
slot_below K = omega arith
slot_below S = omega arith

-- inks with equal slots are equal
pub slot_tells : (ink other : Ink) → slot_of ink ≡ slot_of other → ink ≡ other
slot_tells ink other same = sym (ink_at_slot ink ink) ∙ ap {A = ℕ} (λ n. get_or all_inks n ink) same ∙ ink_at_slot other ink
