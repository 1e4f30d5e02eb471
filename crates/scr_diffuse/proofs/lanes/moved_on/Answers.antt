-- Each lane holds the number of the lane before it.
use Rattle.std.proofs.Common.{◌≡◌, ◌∙◌, ℕ, ◌+◌, ◌<◌, ℤ, FitsSigned, List, [], ◌∷◌, ◌++◌, length, map, get_or, refl, ap, to_z, of_z, w16, arith}
use Rattle.std.proofs.lemmas.Int.{to_z-of_z}
use Rattle.std.proofs.lemmas.List.{get_or_append_left, get_or-append-add}
use Rattle.scr_diffuse.specs.Passes.{number_at}
use Rattle.scr_diffuse.proofs.LaneLemmas.{bits_at, bits_length, each_of_eight}
use Rattle.scr_diffuse.proofs.lanes.moved_on.Goals as goal

-- place j of two joined vectors, as it is taken out
abbrev lane : List ℤ → List ℤ → ℕ → ℤ
lane a b j = to_z w16 (get_or (map (of_z w16) a ++ map (of_z w16) b) j 0)

abbrev moved : List ℤ → List ℤ → List ℤ
moved a b = lane a b 7 ∷ lane a b 8 ∷ lane a b 9 ∷ lane a b 10 ∷ lane a b 11 ∷ lane a b 12 ∷ lane a b 13 ∷ lane a b 14 ∷ []

moved_at : (a b : List ℤ) (k : ℕ) → k < 7 → number_at (moved a b) (k + 1) ≡ lane a b (8 + k)
moved_at a b k within =
    each_of_eight (λ k. k < 7 → number_at (moved a b) (k + 1) ≡ lane a b (8 + k))
    (λ w. refl) (λ w. refl) (λ w. refl) (λ w. refl) (λ w. refl) (λ w. refl) (λ w. refl) (λ w. absurd (omega arith)) k (omega arith) within

-- the last lane of the first vector, and a lane of the second
last_lane : (a b : List ℤ) → length a ≡ 8 → FitsSigned w16 (number_at a 7) → lane a b 7 ≡ number_at a 7
last_lane a b eight fits =
    ap (to_z w16) (get_or_append_left (map (of_z w16) a) (map (of_z w16) b) 0 7 (omega (arith, bits_length a eight)) ∙ bits_at a 7 eight (omega arith))
    ∙ to_z-of_z w16 (number_at a 7) fits

next_lane : (a b : List ℤ) (k : ℕ) → length a ≡ 8 → length b ≡ 8 → k < 8 → FitsSigned w16 (number_at b k)
    → lane a b (8 + k) ≡ number_at b k
next_lane a b k first eight within fits =
    let place : 8 + k ≡ length (map (of_z w16) a) + k = omega (arith, bits_length a first) in
    ap (lane a b) place
    ∙ ap (to_z w16) (get_or-append-add (map (of_z w16) a) (map (of_z w16) b) k 0 ∙ bits_at b k eight within)
    ∙ to_z-of_z w16 (number_at b k) fits

pub returns-clause-first : goal.returns-clause-first
returns-clause-first c = λ fits. last_lane c.args.before c.args.a c.requires.before fits

pub returns-clause-others : goal.returns-clause-others
returns-clause-others c = λ k within fits.
    moved_at c.args.before c.args.a k within ∙ next_lane c.args.before c.args.a k c.requires.before c.requires.moved (omega arith) fits
