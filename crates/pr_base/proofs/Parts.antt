-- A list in which one part is overwritten, and a list loaded whole into the lanes of a vector.
use Rattle.std.proofs.Common.{◌≡◌, ℕ, ◌+◌, ◌-◌, ◌<◌, ◌≤◌, List, ◌++◌, length, take, drop, get_or, ap, ◌∙◌, arith}
use Rattle.std.proofs.lemmas.List.{get_or_append_left, get_or-append_right, get_or-drop, get_or-take, length-append, length-drop, length-take}
use borrow.Rule.Slice.PartMut.{put_mid}

-- ---- overwriting a part

-- elements before the part are unchanged
pub part_below : (a k : ℕ) (xs ys : List ℕ) (i : ℕ) → a + k ≤ length xs → i < a → get_or (put_mid a k xs ys) i 0 ≡ get_or xs i 0
part_below a k xs ys i room below =
    get_or_append_left (take a xs) (ys ++ drop k (drop a xs)) 0 i (omega (arith, length-take a xs)) ∙ get_or-take a xs i 0 below

-- elements of the part are the new ones
pub part_here : (a k : ℕ) (xs ys : List ℕ) (i : ℕ) → a + k ≤ length xs → length ys ≡ k → a ≤ i → i < a + k → get_or (put_mid a k xs ys) i 0 ≡ get_or ys (i - a) 0
part_here a k xs ys i room whole from within =
    get_or-append_right (take a xs) (ys ++ drop k (drop a xs)) a i 0 (omega (arith, length-take a xs)) from
    ∙ get_or_append_left ys (drop k (drop a xs)) 0 (i - a) (omega arith)

-- elements after the part are unchanged
pub part_above : (a k : ℕ) (xs ys : List ℕ) (i : ℕ) → a + k ≤ length xs → length ys ≡ k → a + k ≤ i → get_or (put_mid a k xs ys) i 0 ≡ get_or xs i 0
part_above a k xs ys i room whole above =
    let back : a + (k + (i - a - k)) ≡ i = omega arith in
    get_or-append_right (take a xs) (ys ++ drop k (drop a xs)) a i 0 (omega (arith, length-take a xs)) (omega arith)
    ∙ get_or-append_right ys (drop k (drop a xs)) k (i - a) 0 whole (omega arith)
    ∙ get_or-drop k (drop a xs) (i - a - k) 0 ∙ get_or-drop a xs (k + (i - a - k)) 0 ∙ ap (λ m. get_or xs m 0) back

-- the length is unchanged
pub part_long : (a k : ℕ) (xs ys : List ℕ) → a + k ≤ length xs → length ys ≡ k → length (put_mid a k xs ys) ≡ length xs
part_long a k xs ys room whole =
    omega (arith, length-append (take a xs) (ys ++ drop k (drop a xs)), length-append ys (drop k (drop a xs)), length-take a xs, length-drop k (drop a xs), length-drop a xs)

-- ---- vector lanes

-- element x of n elements loaded at once and concatenated with themselves
pub loaded : (n : ℕ) (xs : List ℕ) (x : ℕ) → length xs ≡ n → x < n → get_or (take n xs ++ take n xs) x 0 ≡ get_or xs x 0
loaded n xs x whole within = get_or_append_left (take n xs) (take n xs) 0 x (omega (arith, length-take n xs)) ∙ get_or-take n xs x 0 within
