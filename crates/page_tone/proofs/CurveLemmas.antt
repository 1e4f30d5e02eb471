-- The first two neighbours that have a value between them.
use Rattle.std.proofs.Common.{◌≡◌, ℕ, zero, suc, ◌-◌, ◌<◌, ◌≤◌, Bool, true, false, ◌&&◌, nat_le, List, [], ◌∷◌, length, slice_index_or, refl, ap, sym, ◌∙◌, arith}
use Rattle.std.proofs.lemmas.Bool.{le-leb, lt-leb}
use Rattle.page_tone.specs.Curve.{place, curve_value, line_value}

none_and_false : (b : Bool) → (b && false) ≡ false
none_and_false true = refl
none_and_false false = refl

found : (points : List (ℕ × ℕ)) (i v : ℕ) → suc i < length points → place points i ≤ v → v ≤ place points (suc i) → ((k : ℕ) → 1 ≤ k → k ≤ i → place points k < v) → curve_value points v ≡ line_value (slice_index_or points i (0, 0)) (slice_index_or points (suc i) (0, 0)) v
found [] i v within left right passed = absurd (omega arith)
found (p ∷ []) i v within left right passed = absurd (omega arith)
found (p ∷ q ∷ points) zero v within left right passed = rw (le-leb p.0 v left, le-leb v q.0 right) refl
found (p ∷ q ∷ points) (suc i) v within left right passed =
    let before : q.0 < v = passed 1 (omega arith) (omega arith) in
    rw (lt-leb v q.0 before, none_and_false (nat_le p.0 v))
    (found (q ∷ points) i v (omega arith) left right (λ k above below. passed (suc k) (omega arith) (omega arith)))

reached : (points : List (ℕ × ℕ)) (i v : ℕ) → place points 0 ≡ 0 → ((k : ℕ) → 1 ≤ k → k < suc i → place points k < v) → place points i ≤ v
reached points zero v first passed = omega (arith, first)
reached points (suc i) v first passed = omega (arith, passed (suc i) (omega arith) (omega arith))

-- when the first point is at 0, it is enough to test the points after it
pub found_before : (points : List (ℕ × ℕ)) (right v : ℕ) → 1 ≤ right → right < length points → place points 0 ≡ 0 → v ≤ place points right → ((k : ℕ) → 1 ≤ k → k < right → place points k < v) → curve_value points v ≡ line_value (slice_index_or points (right - 1) (0, 0)) (slice_index_or points right (0, 0)) v
found_before points zero v above within first after passed = absurd (omega arith)
found_before points (suc i) v above within first after passed =
    let back : suc i - 1 ≡ i = omega arith in
    found points i v within (reached points i v first passed) after (λ k from upto. passed k from (omega arith))
    ∙ ap (λ j. line_value (slice_index_or points j (0, 0)) (slice_index_or points (suc i) (0, 0)) v) (sym back)
