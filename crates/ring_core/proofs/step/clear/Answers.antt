use Rattle.std.proofs.Common.{◌≡◌, ℕ, ◌<◌, Bool, length, get_or, false, map, ◌∙◌, sym, arith, List}
use Rattle.std.proofs.lemmas.List.{ext_get_or, get_or-map, length-map}
use Rattle.ring_core.proofs.step.clear.Goals as goal

all_false : (xs ys : List Bool) → length xs ≡ length ys
    → ((k : ℕ) → k < length xs → get_or xs k false ≡ false) → xs ≡ map (λ (b : Bool). false) ys
all_false xs ys n h = ext_get_or false xs (map (λ (b : Bool). false) ys) (n ∙ sym (length-map ys (λ (b : Bool). false))) (λ k l. h k l ∙ sym (get_or-map (λ (b : Bool). false) ys k false false (omega arith)))

pub returns : goal.returns
returns c = all_false _ _ c.loop-flag.auto.flags (λ k h. c.loop-flag.invariant k (omega arith))
