-- The table of thresholds equals the recursion over quarters, for each side that is built.
use Rattle.std.proofs.Common.{◌≡◌, ℕ, ◌<◌, ◌≤◌, List, [], take, map, get_or, refl, ap, sym, ◌∙◌, arith, subst, inl, inr}
use Rattle.std.specs.List.{range_with_len}
use Rattle.std.proofs.lemmas.List.{get_or-take, get_or-map, length-take}
use Rattle.std.proofs.lemmas.List.FromFn.{get_or-map-range_with_len}
use Rattle.scr_tile.specs.Tile.{IsBayerSide, index_in, threshold_at}
use Rattle.scr_tile.specs.declared.bayer_table.TheConstants.{THRESHOLDS}

-- the first n numbers of the first n rows of the table
abbrev pub corner : ℕ → List (List ℕ)
corner n = map (λ row. take n row) (take n THRESHOLDS)

-- the thresholds of the tile of side n, computed by the recursion
abbrev pub computed : ℕ → List (List ℕ)
computed n = map (λ y. map (λ x. threshold_at n x y) (range_with_len 0 n)) (range_with_len 0 n)

-- the table is the recursion at each side
corners : (corner 2 ≡ computed 2) × (corner 4 ≡ computed 4) × (corner 8 ≡ computed 8) × (corner 16 ≡ computed 16)
unfolding index_in
corners = (refl, refl, refl, refl)

-- a number of a corner that equals the computed one
corner_at : (n x y : ℕ) → corner n ≡ computed n → n ≤ 16 → x < n → y < n → get_or (take n (get_or THRESHOLDS y [])) x 0 ≡ threshold_at n x y
corner_at n x y same small column row =
    ap (λ r. get_or (take n r) x 0) (sym (get_or-take n THRESHOLDS y [] row))
    ∙ ap (λ r. get_or r x 0) (sym (get_or-map (λ r. take n r) (take n THRESHOLDS) y [] [] (omega (arith, length-take n THRESHOLDS))))
    ∙ ap (λ rows. get_or (get_or rows y []) x 0) same
    ∙ ap (λ r. get_or r x 0) (get_or-map-range_with_len (λ j. map (λ i. threshold_at n i j) (range_with_len 0 n)) 0 n y y [] row (omega arith))
    ∙ get_or-map-range_with_len (λ i. threshold_at n i y) 0 n x x 0 column (omega arith)

pub table_at : (n x y : ℕ) → IsBayerSide n → x < n → y < n → get_or (take n (get_or THRESHOLDS y [])) x 0 ≡ threshold_at n x y
table_at n x y (inl e) column row = corner_at n x y (let P : ℕ → Type 0 = λ m. corner m ≡ computed m in subst P (sym e) corners.0) (omega arith) column row
table_at n x y (inr (inl e)) column row = corner_at n x y (let P : ℕ → Type 0 = λ m. corner m ≡ computed m in subst P (sym e) corners.1) (omega arith) column row
table_at n x y (inr (inr (inl e))) column row = corner_at n x y (let P : ℕ → Type 0 = λ m. corner m ≡ computed m in subst P (sym e) corners.2) (omega arith) column row
table_at n x y (inr (inr (inr e))) column row = corner_at n x y (let P : ℕ → Type 0 = λ m. corner m ≡ computed m in subst P (sym e) corners.3) (omega arith) column row
