-- The first elements of a list, written through a vector select.
use Rattle.std.proofs.Common.{◌≡◌, ℕ, ◌-◌, ◌<◌, ◌≤◌, ⊎_elim, Bool, true, false, nat_lt, cond, List, ◌++◌, length, take, drop, map, get_or, sym, ap, ◌∙◌, arith, zero-add}
use Rattle.std.specs.List.{range_with_len}
use Rattle.std.proofs.lemmas.Bool.{cases_lt}
use Rattle.std.proofs.lemmas.Bool.Decides.{nat_tests}
use Rattle.std.proofs.lemmas.List.{ext_get_or, get_or-take, get_or-drop, get_or_append_left, get_or-append_right, length-append, length-take-le, length-drop}
use Rattle.std.proofs.lemmas.List.FromFn.{get_or-map-range_with_len, length-map-range_with_len}
use Rattle.std.proofs.lemmas.Simd.{length-put_chunk, get_or-put_chunk_at, get_or-put_chunk_above, length-sel_l, get_or-sel_l}
use lib.Lanes.{put_chunk, sel_l, top}

-- whether lane i is one of the first n
abbrev pub is_first : ℕ → ℕ → Bool
is_first n i = top 7 (cond (nat_lt i n) 255 0)

pub first_lanes : (from into : List ℕ) (n : ℕ) → n ≤ 16 → 16 ≤ length from → 16 ≤ length into → put_chunk 0 into (sel_l (map (is_first n) (range_with_len 0 16)) (take 16 from) (take 16 into)) ≡ take n from ++ drop n into
first_lanes from into n few long room =
    let tests : List Bool = map (is_first n) (range_with_len 0 16) in
    let count : length tests ≡ 16 = length-map-range_with_len (is_first n) 0 16 in
    let from_len : length (take 16 from) ≡ 16 = length-take-le 16 from long in
    let into_len : length (take 16 into) ≡ 16 = length-take-le 16 into room in
    let lanes : List ℕ = sel_l tests (take 16 from) (take 16 into) in
    let lanes_len : length lanes ≡ 16 = length-sel_l tests (take 16 from) (take 16 into) (count ∙ sym from_len) (count ∙ sym into_len) ∙ count in
    let all : _ = length-put_chunk 0 into lanes in
    let front : length (take n from) ≡ n = length-take-le n from (omega arith) in
    let back : _ = length-drop n into in
    let both : _ = length-append (take n from) (drop n into) in
    let wanted_front : (i : ℕ) → i < n → get_or (take n from ++ drop n into) i 0 ≡ get_or from i 0 =
    λ i less. get_or_append_left (take n from) (drop n into) 0 i (omega arith) ∙ get_or-take n from i 0 less in
    let wanted_back : (i : ℕ) → n ≤ i → get_or (take n from ++ drop n into) i 0 ≡ get_or into i 0 =
    λ i past. get_or-append_right (take n from) (drop n into) n i 0 front past ∙ get_or-drop n into (i - n) 0 ∙ ap (λ k. get_or into k 0) (omega arith) in
    let given : (i : ℕ) → i < 16 → get_or (put_chunk 0 into lanes) i 0 ≡ cond (is_first n i) (get_or from i 0) (get_or into i 0) =
    λ i below.
    ap (λ k. get_or (put_chunk 0 into lanes) k 0) (sym (zero-add i)) ∙ get_or-put_chunk_at 0 into lanes i 0 (omega arith) (omega arith)
    ∙ get_or-sel_l tests (take 16 from) (take 16 into) i 0 (omega arith) (omega arith) (omega arith)
    ∙ ap (λ b. cond b (get_or (take 16 from) i 0) (get_or (take 16 into) i 0)) (get_or-map-range_with_len (is_first n) 0 16 i i false below (omega arith))
    ∙ ap (λ x. cond (is_first n i) x (get_or (take 16 into) i 0)) (get_or-take 16 from i 0 below)
    ∙ ap (cond (is_first n i) (get_or from i 0)) (get_or-take 16 into i 0 below) in
    ext_get_or 0 (put_chunk 0 into lanes) (take n from ++ drop n into) (omega arith)
    (λ i within.
    ⊎_elim
    (λ (less : i < n).
    let is : nat_lt i n ≡ true = grind (arith, nat_tests) in
    given i (omega arith) ∙ ap (λ b. cond (top 7 (cond b 255 0)) (get_or from i 0) (get_or into i 0)) is ∙ sym (wanted_front i less))
    (λ (past : n ≤ i).
    let none : nat_lt i n ≡ false = grind (arith, nat_tests) in
    ⊎_elim
    (λ (below : i < 16). given i below ∙ ap (λ b. cond (top 7 (cond b 255 0)) (get_or from i 0) (get_or into i 0)) none ∙ sym (wanted_back i past))
    (λ (above : 16 ≤ i). get_or-put_chunk_above 0 into lanes i 0 (omega arith) ∙ sym (wanted_back i past))
    (cases_lt i 16))
    (cases_lt i n))
