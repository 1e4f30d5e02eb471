-- Vectors of eight numbers, lane by lane.
use Rattle.std.proofs.Common.{◌≡◌, ℕ, zero, suc, ◌+◌, ◌-◌, ◌*◌, ◌/◌, ◌%◌, ◌^◌, ◌<◌, Bool, true, false, cond, ℤ, pos, negsuc, neg_ℤ, ◌+ℤ◌, ◌-ℤ◌, ◌*ℤ◌, ◌≤ℤ◌, FitsSigned, to_z, of_z, List, length, map, replicate, get_or, eqb, subst, refl, ap, sym, ◌∙◌, arith, w16}
use Rattle.std.specs.Int.Signed.{le_z, shr_z}
use lib.Signed.{lt_z}
use Rattle.std.proofs.lemmas.Bool.Decides.{nat_tests}
use Rattle.std.proofs.lemmas.Int.{ints, to_z-of_z, int_wrap_fits, wrapping_add_onto, wrapping_mul_onto, wrapping_sub_onto}
use Rattle.std.proofs.lemmas.List.{get_or-map, get_or-replicate, length-map}
use Rattle.std.proofs.lemmas.Simd.{bit_mask_l, get_or-sel_l, get_or-zip2, length-sel_l, length-zip2, mask_l-lt, mask_l-mod}
use lib.Lanes.{zip2, top, sel_l, mask_l}
use Rattle.scr_diffuse.specs.Block.{bit_of}
use Rattle.scr_diffuse.specs.Diffusion.{error_of, prints}
use Rattle.scr_diffuse.specs.Passes.{IsNumber, floor_16, number_at}
use Rattle.pr_base.proofs.Blocks.{one_if, top_of_word}
use Rattle.scr_diffuse.proofs.NumberLemmas.{dot_is, number_small, shifted}

-- numbers computed from pairs of bit patterns
pub made_length : (op : ℕ → ℕ → ℕ) (xs ys : List ℕ) → length xs ≡ 8 → length ys ≡ 8
    → length (map (to_z w16) (zip2 op xs ys)) ≡ 8
made_length op xs ys a b = length-map (zip2 op xs ys) (to_z w16) ∙ length-zip2 op xs ys (a ∙ sym b) ∙ a

pub made_at : (op : ℕ → ℕ → ℕ) (xs ys : List ℕ) (k : ℕ) → length xs ≡ 8 → length ys ≡ 8 → k < 8
    → number_at (map (to_z w16) (zip2 op xs ys)) k ≡ to_z w16 (op (get_or xs k 0) (get_or ys k 0))
made_at op xs ys k a b within =
    get_or-map (to_z w16) (zip2 op xs ys) k 0 (pos 0) (omega (arith, length-zip2 op xs ys (a ∙ sym b)))
    ∙ ap (to_z w16) (get_or-zip2 op xs ys k 0 0 0 (omega arith) (omega arith))

-- the bit patterns of a list of numbers
pub bits_length : (a : List ℤ) → length a ≡ 8 → length (map (of_z w16) a) ≡ 8
bits_length a eight = length-map a (of_z w16) ∙ eight

pub bits_at : (a : List ℤ) (k : ℕ) → length a ≡ 8 → k < 8
    → get_or (map (of_z w16) a) k 0 ≡ of_z w16 (number_at a k)
bits_at a k eight within = get_or-map (of_z w16) a k (pos 0) 0 (omega arith)

-- a list that is put into lanes and taken out again
pub kept_at : (a : List ℤ) (k : ℕ) → length a ≡ 8 → k < 8 → FitsSigned w16 (number_at a k)
    → number_at (map (to_z w16) (map (of_z w16) a)) k ≡ number_at a k
kept_at a k eight within fits =
    get_or-map (to_z w16) (map (of_z w16) a) k 0 (pos 0) (omega (arith, bits_length a eight))
    ∙ ap (to_z w16) (bits_at a k eight within) ∙ to_z-of_z w16 (number_at a k) fits

bits_fit : (x : ℤ) → FitsSigned w16 x → of_z w16 x < 2 ^ 16
bits_fit x fits = omega (arith, ints)

pub added : (x y : ℤ) → FitsSigned w16 x → FitsSigned w16 y → FitsSigned w16 (x +ℤ y)
    → to_z w16 ((of_z w16 x + of_z w16 y) % 2 ^ 16) ≡ x +ℤ y
added x y fx fy fits =
    wrapping_add_onto w16 (of_z w16 x) y (bits_fit x fx) fy ∙ int_wrap_fits w16 (to_z w16 (of_z w16 x) +ℤ y) (rw (to_z-of_z w16 x fx) fits)
    ∙ ap (λ z. z +ℤ y) (to_z-of_z w16 x fx)

pub multiplied : (x y : ℤ) → FitsSigned w16 x → FitsSigned w16 y → FitsSigned w16 (x *ℤ y)
    → to_z w16 ((of_z w16 x * of_z w16 y) % 2 ^ 16) ≡ x *ℤ y
multiplied x y fx fy fits =
    wrapping_mul_onto w16 (of_z w16 x) y (bits_fit x fx) fy ∙ int_wrap_fits w16 (to_z w16 (of_z w16 x) *ℤ y) (rw (to_z-of_z w16 x fx) fits)
    ∙ ap (λ z. z *ℤ y) (to_z-of_z w16 x fx)

subtracted : (x y : ℤ) → FitsSigned w16 x → FitsSigned w16 y → FitsSigned w16 (x -ℤ y)
    → to_z w16 ((of_z w16 x + (2 ^ 16 - of_z w16 y)) % 2 ^ 16) ≡ x -ℤ y
subtracted x y fx fy fits =
    wrapping_sub_onto w16 (of_z w16 x) y (bits_fit x fx) fy ∙ int_wrap_fits w16 (to_z w16 (of_z w16 x) -ℤ y) (rw (to_z-of_z w16 x fx) fits)
    ∙ ap (λ z. z -ℤ y) (to_z-of_z w16 x fx)

lessened : (x : ℤ) (on : Bool) → IsNumber x
    → to_z w16 ((of_z w16 x + (2 ^ 16 - cond on 255 0)) % 2 ^ 16) ≡ cond on (x -ℤ pos 255) x
lessened x true number = subtracted x (pos 255) (omega (arith, ints)) (omega (arith, ints)) (omega (arith, ints))
lessened x false number = subtracted x (pos 0) (omega (arith, ints)) (omega (arith, ints)) (omega (arith, ints)) ∙ omega (arith, ints)

abbrev compared : ℕ → ℕ → ℕ
compared m n = cond (le_z (to_z w16 m) (to_z w16 n)) 65535 0

-- whether the pixel of each lane's whole sum prints
abbrev pub tests : List ℤ → List Bool
tests a = map (top 15) (zip2 compared (replicate 8 2048) (map (of_z w16) a))

masks_length : (a : List ℤ) → length a ≡ 8 → length (zip2 compared (replicate 8 2048) (map (of_z w16) a)) ≡ 8
masks_length a eight = length-zip2 compared (replicate 8 2048) (map (of_z w16) a) (sym (bits_length a eight))

pub tests_length : (a : List ℤ) → length a ≡ 8 → length (tests a) ≡ 8
tests_length a eight = length-map (zip2 compared (replicate 8 2048) (map (of_z w16) a)) (top 15) ∙ masks_length a eight

pub tests_at : (a : List ℤ) (k : ℕ) → length a ≡ 8 → k < 8 → FitsSigned w16 (number_at a k)
    → get_or (tests a) k false ≡ prints (floor_16 (number_at a k))
tests_at a k eight within fits =
    get_or-map (top 15) (zip2 compared (replicate 8 2048) (map (of_z w16) a)) k 0 false (omega (arith, masks_length a eight))
    ∙ ap (top 15) (get_or-zip2 compared (replicate 8 2048) (map (of_z w16) a) k 0 0 0 within (omega (arith, bits_length a eight)))
    ∙ ap (λ m. top 15 (compared m (get_or (map (of_z w16) a) k 0))) (get_or-replicate 8 k 2048 0 within)
    ∙ ap (λ n. top 15 (compared 2048 n)) (bits_at a k eight within)
    ∙ top_of_word _ ∙ ap (le_z (pos 2048)) (to_z-of_z w16 (number_at a k) fits) ∙ dot_is (number_at a k)

pub chosen_length : (a : List ℤ) → length a ≡ 8
    → length {A = ℕ} (sel_l (tests a) (replicate 8 255) (replicate 8 0)) ≡ 8
chosen_length a eight = length-sel_l {X = ℕ} (tests a) (replicate 8 255) (replicate 8 0) (tests_length a eight) (tests_length a eight) ∙ tests_length a eight

pub chosen_at : (a : List ℤ) (k : ℕ) → length a ≡ 8 → k < 8 → FitsSigned w16 (number_at a k)
    → get_or {A = ℕ} (sel_l (tests a) (replicate 8 255) (replicate 8 0)) k 0
    ≡ cond (prints (floor_16 (number_at a k))) 255 0
chosen_at a k eight within fits =
    get_or-sel_l {X = ℕ} (tests a) (replicate 8 255) (replicate 8 0) k 0 (omega (arith, tests_length a eight)) within within
    ∙ ap (λ b. cond b (get_or (replicate 8 255) k 0) (get_or (replicate 8 0) k 0)) (tests_at a k eight within fits)
    ∙ ap (λ n. cond (prints (floor_16 (number_at a k))) n (get_or (replicate 8 0) k 0)) (get_or-replicate 8 k 255 0 within)
    ∙ ap (λ n. cond (prints (floor_16 (number_at a k))) 255 n) (get_or-replicate 8 k 0 0 within)

-- the sixteenths of the lanes
abbrev pub shares : List ℤ → List ℕ
shares a = zip2 (λ m n. of_z w16 (shr_z (to_z w16 m) (2 ^ n))) (map (of_z w16) a) (replicate 8 4)

pub shares_length : (a : List ℤ) → length a ≡ 8 → length (shares a) ≡ 8
shares_length a eight = length-zip2 (λ m n. of_z w16 (shr_z (to_z w16 m) (2 ^ n))) (map (of_z w16) a) (replicate 8 4) (bits_length a eight) ∙ bits_length a eight

shares_at : (a : List ℤ) (k : ℕ) → length a ≡ 8 → k < 8 → FitsSigned w16 (number_at a k)
    → get_or (shares a) k 0 ≡ of_z w16 (floor_16 (number_at a k))
shares_at a k eight within fits =
    get_or-zip2 (λ m n. of_z w16 (shr_z (to_z w16 m) (2 ^ n))) (map (of_z w16) a) (replicate 8 4) k 0 0 0 (omega (arith, bits_length a eight)) within
    ∙ ap (λ m. of_z w16 (shr_z (to_z w16 m) (2 ^ get_or (replicate 8 4) k 0))) (bits_at a k eight within)
    ∙ ap (λ n. of_z w16 (shr_z (to_z w16 (of_z w16 (number_at a k))) (2 ^ n))) (get_or-replicate 8 k 4 0 within)
    ∙ ap (λ z. of_z w16 (shr_z z 16)) (to_z-of_z w16 (number_at a k) fits) ∙ ap (of_z w16) (shifted (number_at a k))

floor_small : (z : ℤ) → FitsSigned w16 z → IsNumber (floor_16 z)
floor_small z fits = number_small z (record { low = omega (arith, ints); high = omega (arith, ints) })

pub lessened_at : (a : List ℤ) (k : ℕ) → length a ≡ 8 → k < 8 → FitsSigned w16 (number_at a k)
    → to_z w16 ((get_or (shares a) k 0 + (2 ^ 16 - get_or
    (sel_l (tests a) (replicate 8 255) (replicate 8 0)) k 0)) % 2 ^ 16) ≡ error_of (floor_16 (number_at a k))
lessened_at a k eight within fits =
    ap (λ m. to_z w16 ((m + (2 ^ 16 - get_or (sel_l (tests a) (replicate 8 255) (replicate 8 0)) k 0)) % 2 ^ 16)) (shares_at a k eight within fits)
    ∙ ap (λ n. to_z w16 ((of_z w16 (floor_16 (number_at a k)) + (2 ^ 16 - n)) % 2 ^ 16)) (chosen_at a k eight within fits)
    ∙ lessened (floor_16 (number_at a k)) (prints (floor_16 (number_at a k))) (floor_small (number_at a k) fits)

-- ---- the maximum of a number and a bound that is below it

abbrev below : ℕ → ℕ → ℕ
below m n = cond (lt_z (to_z w16 m) (to_z w16 n)) 65535 0

abbrev pub below_bound : List ℤ → List Bool
below_bound a = map (top 15) (zip2 below (map (of_z w16) a) (replicate 8 63536))

below_bound_length : (a : List ℤ) → length a ≡ 8 → length (below_bound a) ≡ 8
below_bound_length a eight = length-map (zip2 below (map (of_z w16) a) (replicate 8 63536)) (top 15) ∙ length-zip2 below (map (of_z w16) a) (replicate 8 63536) (bits_length a eight) ∙ bits_length a eight

not_below : (x : ℤ) → neg_ℤ (pos 2000) ≤ℤ x → lt_z x (negsuc 1999) ≡ false
not_below (pos n) most = refl
not_below (negsuc n) most = grind (arith, ints, nat_tests)

below_bound_at : (a : List ℤ) (k : ℕ) → length a ≡ 8 → k < 8 → FitsSigned w16 (number_at a k)
    → neg_ℤ (pos 2000) ≤ℤ number_at a k → get_or (below_bound a) k false ≡ false
below_bound_at a k eight within fits most =
    get_or-map (top 15) (zip2 below (map (of_z w16) a) (replicate 8 63536)) k 0 false (omega (arith, bits_length a eight, length-zip2 below (map (of_z w16) a) (replicate 8 63536) (bits_length a eight)))
    ∙ ap (top 15) (get_or-zip2 below (map (of_z w16) a) (replicate 8 63536) k 0 0 0 (omega (arith, bits_length a eight)) within)
    ∙ ap (λ n. top 15 (below (get_or (map (of_z w16) a) k 0) n)) (get_or-replicate 8 k 63536 0 within)
    ∙ ap (λ m. top 15 (below m 63536)) (bits_at a k eight within)
    ∙ top_of_word _ ∙ ap (λ x. lt_z x (negsuc 1999)) (to_z-of_z w16 (number_at a k) fits) ∙ not_below (number_at a k) most

abbrev pub larger : List ℤ → List ℕ
larger a = sel_l {A = ℕ} (below_bound a) (replicate 8 63536) (map (of_z w16) a)

pub larger_length : (a : List ℤ) → length a ≡ 8 → length (map (to_z w16) (larger a)) ≡ 8
larger_length a eight =
    length-map (larger a) (to_z w16)
    ∙ length-sel_l {X = ℕ} (below_bound a) (replicate 8 63536) (map (of_z w16) a) (below_bound_length a eight) (below_bound_length a eight ∙ sym (bits_length a eight))
    ∙ below_bound_length a eight

pub larger_at : (a : List ℤ) (k : ℕ) → length a ≡ 8 → k < 8 → FitsSigned w16 (number_at a k)
    → neg_ℤ (pos 2000) ≤ℤ number_at a k → number_at (map (to_z w16) (larger a)) k ≡ number_at a k
larger_at a k eight within fits most =
    let long : length (larger a) ≡ 8 =
    length-sel_l {X = ℕ} (below_bound a) (replicate 8 63536) (map (of_z w16) a) (below_bound_length a eight) (below_bound_length a eight ∙ sym (bits_length a eight)) ∙ below_bound_length a eight in
    get_or-map (to_z w16) (larger a) k 0 (pos 0) (omega (arith, long))
    ∙ ap (to_z w16) (
    get_or-sel_l {X = ℕ} (below_bound a) (replicate 8 63536) (map (of_z w16) a) k 0 (omega (arith, below_bound_length a eight)) within (omega (arith, bits_length a eight))
    ∙ ap (λ b. cond b (get_or (replicate 8 63536) k 0) (get_or (map (of_z w16) a) k 0)) (below_bound_at a k eight within fits most)
    ∙ bits_at a k eight within
    )
    ∙ to_z-of_z w16 (number_at a k) fits

-- the tests as the bits of a byte
pub byte_fits : (a : List ℤ) → length a ≡ 8 → mask_l (tests a) % 2 ^ 64 < 256
byte_fits a eight =
    let below : mask_l (tests a) < 2 ^ length (tests a) = mask_l-lt (tests a) in
    let byte : mask_l (tests a) < 2 ^ 8 = subst (λ (n : ℕ). mask_l (tests a) < 2 ^ n) (tests_length a eight) below in
    subst (λ (n : ℕ). n < 256) (sym (mask_l-mod (tests a) 64 (omega (arith, tests_length a eight)))) byte

pub byte_bits : (a : List ℤ) (k : ℕ) → length a ≡ 8 → k < 8 → FitsSigned w16 (number_at a k)
    → bit_of (mask_l (tests a) % 2 ^ 64) k ≡ prints (floor_16 (number_at a k))
byte_bits a k eight within fits =
    ap (λ m. eqb (m / 2 ^ k % 2) 1) (mask_l-mod (tests a) 64 (omega (arith, tests_length a eight)))
    ∙ ap (λ b. eqb b 1) (bit_mask_l (tests a) k) ∙ one_if _ ∙ tests_at a k eight within fits

-- a property of each number below 8
pub each_of_eight : (P : ℕ → Type 0) → P 0 → P 1 → P 2 → P 3 → P 4 → P 5 → P 6 → P 7 → (k : ℕ) → k < 8 → P k
each_of_eight P a b c d e f g h zero within = a
each_of_eight P a b c d e f g h (suc zero) within = b
each_of_eight P a b c d e f g h (suc (suc zero)) within = c
each_of_eight P a b c d e f g h (suc (suc (suc zero))) within = d
each_of_eight P a b c d e f g h (suc (suc (suc (suc zero)))) within = e
each_of_eight P a b c d e f g h (suc (suc (suc (suc (suc zero))))) within = f
each_of_eight P a b c d e f g h (suc (suc (suc (suc (suc (suc zero)))))) within = g
each_of_eight P a b c d e f g h (suc (suc (suc (suc (suc (suc (suc zero))))))) within = h
each_of_eight P a b c d e f g h (suc (suc (suc (suc (suc (suc (suc (suc k)))))))) within = absurd (omega arith)

-- ---- vectors that were passed on, which a goal shows as put into lanes and taken out again

abbrev pub kept : List ℤ → List ℤ
kept a = map (to_z w16) (map (of_z w16) a)

pub kept_is : (a : List ℤ) (k : ℕ) (x : ℤ) → length a ≡ 8 → k < 8 → number_at a k ≡ x → FitsSigned w16 x
    → number_at (kept a) k ≡ x
kept_is a k x eight within is fits = kept_at a k eight within (rw is fits) ∙ is

pub sum_is : (a b result : List ℤ) (k : ℕ) (x y : ℤ) → length a ≡ 8 → length b ≡ 8 → k < 8 → number_at a k ≡ x
    → number_at b k ≡ y → FitsSigned w16 x → FitsSigned w16 y → FitsSigned w16 (x +ℤ y)
    → (FitsSigned w16 (number_at (kept a) k) → FitsSigned w16 (number_at (kept b) k)
    → FitsSigned w16 (number_at (kept a) k +ℤ number_at (kept b) k) → number_at result k
    ≡ number_at (kept a) k +ℤ number_at (kept b) k) → number_at result k ≡ x +ℤ y
sum_is a b result k x y long_a long_b within is_x is_y fx fy fits made =
    let ex : number_at (kept a) k ≡ x = kept_is a k x long_a within is_x fx in
    let ey : number_at (kept b) k ≡ y = kept_is b k y long_b within is_y fy in
    let now : FitsSigned w16 x → FitsSigned w16 y → FitsSigned w16 (x +ℤ y) → number_at result k ≡ x +ℤ y = rw (ex, ey) at made in
    now fx fy fits

pub product_is : (a result : List ℤ) (k : ℕ) (x factor : ℤ) → length a ≡ 8 → k < 8 → number_at a k ≡ x
    → FitsSigned w16 x → FitsSigned w16 (x *ℤ factor)
    → (FitsSigned w16 (number_at (kept a) k) → FitsSigned w16 (number_at (kept a) k *ℤ factor)
    → number_at result k ≡ number_at (kept a) k *ℤ factor) → number_at result k ≡ x *ℤ factor
product_is a result k x factor long within is fx fits made =
    let ex : number_at (kept a) k ≡ x = kept_is a k x long within is fx in
    let now : FitsSigned w16 x → FitsSigned w16 (x *ℤ factor) → number_at result k ≡ x *ℤ factor = rw ex at made in
    now fx fits

pub settled_is : (a result : List ℤ) (k : ℕ) (x : ℤ) → length a ≡ 8 → k < 8 → number_at a k ≡ x
    → FitsSigned w16 x → neg_ℤ (pos 2000) ≤ℤ x
    → (FitsSigned w16 (number_at (kept a) k) → neg_ℤ (pos 2000) ≤ℤ number_at (kept a) k → number_at result k
    ≡ number_at (kept a) k) → number_at result k ≡ x
settled_is a result k x long within is fits most made =
    let ex : number_at (kept a) k ≡ x = kept_is a k x long within is fits in
    let now : FitsSigned w16 x → neg_ℤ (pos 2000) ≤ℤ x → number_at result k ≡ x = rw ex at made in
    now fits most

-- the first lane of a vector that was moved up behind numbers of a list
pub first_lane : (numbers loaded result : List ℤ) (last place : ℕ) → length loaded ≡ 8 → length result ≡ 8
    → (FitsSigned w16 (number_at numbers last) → number_at loaded 7 ≡ number_at numbers last)
    → (FitsSigned w16 (number_at (kept loaded) 7) → number_at result 0 ≡ number_at (kept loaded) 7)
    → FitsSigned w16 (number_at numbers place) → last ≡ place
    → number_at (kept result) 0 ≡ number_at numbers place
first_lane numbers loaded result last place eight long load move fits same =
    let last_fits : FitsSigned w16 (number_at numbers last) = subst (λ (n : ℕ). FitsSigned w16 (number_at numbers n)) (sym same) fits in
    let is : number_at (kept loaded) 7 ≡ number_at numbers last = kept_is loaded 7 _ eight (omega arith) (load last_fits) last_fits in
    kept_is result 0 _ long (omega arith) (move (rw is last_fits) ∙ is) last_fits ∙ ap (number_at numbers) same
