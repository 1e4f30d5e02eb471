-- The samples ahead in each plane after some of them were consumed.
use Rattle.std.proofs.Common.{◌≡◌, ℕ, ◌+◌, ◌-◌, ◌<◌, ◌≤◌, List, [], ◌∷◌, length, map, drop, get_or, refl, ap, ◌∙◌, arith}
use Rattle.std.proofs.lemmas.List.{drop-drop, get_or-map, length-drop, length-map}

-- one plane
pub get_or-later : (n plane : ℕ) (aheads later : List (List ℕ)) → later ≡ map (drop n) aheads
    → plane < length aheads → get_or later plane [] ≡ drop n (get_or aheads plane [])
get_or-later n plane aheads later is below = ap (λ lists. get_or lists plane []) is ∙ get_or-map (drop n) aheads plane [] [] below

-- the number of planes is unchanged
pub length-later : (n : ℕ) (aheads later : List (List ℕ)) → later ≡ map (drop n) aheads
    → length later ≡ length aheads
length-later n aheads later is = ap length is ∙ length-map aheads (drop n)

-- enough samples are ahead in each plane
pub enough-later : (n rest most : ℕ) (aheads later : List (List ℕ)) → later ≡ map (drop n) aheads
    → n + rest ≤ most → ((plane : ℕ) → plane < length aheads → most ≤ length (get_or aheads plane []))
    → (plane : ℕ) → plane < length later → rest ≤ length (get_or later plane [])
enough-later n rest most aheads later is within enough plane below =
    let known : plane < length aheads = omega (arith, length-later n aheads later is) in
    rw (get_or-later n plane aheads later is known) (omega (arith, length-drop n (get_or aheads plane []), enough plane known))

-- `a` samples consumed, then `b` more
pub map-drop-drop : (a b : ℕ) (lists : List (List ℕ))
    → map (drop b) (map (drop a) lists) ≡ map (drop (a + b)) lists
map-drop-drop a b [] = refl
map-drop-drop a b (list ∷ rest) =
    ap (λ front. front ∷ map (drop b) (map (drop a) rest)) (drop-drop b a list) ∙ ap (λ back. drop (a + b) list ∷ back) (map-drop-drop a b rest)

-- the samples before a part of a row, the part, and the samples after it
pub three-later : (from count row : ℕ) (aheads before behind later : List (List ℕ))
    → before ≡ map (drop from) aheads → behind ≡ map (drop count) before
    → later ≡ map (drop (row - from - count)) behind → from + count ≤ row
    → later ≡ map (drop row) aheads
three-later from count row aheads before behind later first second third within =
    let all : from + count + (row - from - count) ≡ row = omega arith in
    third ∙ ap (map (drop (row - from - count))) (second ∙ ap (map (drop count)) first ∙ map-drop-drop from count aheads)
    ∙ map-drop-drop (from + count) (row - from - count) aheads ∙ ap (λ n. map (drop n) aheads) all
