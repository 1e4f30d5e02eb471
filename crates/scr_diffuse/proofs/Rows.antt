-- The definition, computed on a small page of 4 by 2 values of 128.
use Rattle.std.proofs.Common.{◌≡◌, ℕ, pos, List, [], ◌∷◌, map, refl}
use Rattle.std.specs.List.{range_with_len}
use Rattle.scr_diffuse.specs.Diffusion.{v_at, error_at, error_above, error_left}

abbrev page : List (List ℕ)
page = (128 ∷ 128 ∷ 128 ∷ 128 ∷ []) ∷ (128 ∷ 128 ∷ 128 ∷ 128 ∷ []) ∷ []

first_row : map (λ x. v_at page x 0) (range_with_len 0 4) ≡ pos 128 ∷ pos 72 ∷ pos 159 ∷ pos 86 ∷ []
unfolding v_at error_above error_left
first_row = refl

second_row : map (λ x. v_at page x 1) (range_with_len 0 4) ≡ pos 101 ∷ pos 168 ∷ pos 80 ∷ pos 183 ∷ []
unfolding v_at error_above error_left
second_row = refl

-- outside the page
outside : map (λ x. error_at page x 2) (range_with_len 0 2) ≡ pos 0 ∷ pos 0 ∷ []
unfolding error_above error_left
outside = refl
