-- The parts add up to the whole sum.
use Rattle.std.proofs.Common.{◌≡◌, ◌∙◌, ◌+ℤ◌, ◌*ℤ◌, ◌≤ℤ◌, ℤ, FitsSigned, w16, neg_ℤ, refl, arith, pos}
use Rattle.std.proofs.lemmas.Int.{ints}
use Rattle.scr_diffuse.specs.Diffusion.{IsError}
use Rattle.scr_diffuse.specs.Passes.{number_at}
use Rattle.scr_diffuse.proofs.LaneLemmas.{kept_is, product_is, settled_is, sum_is}
use Rattle.scr_diffuse.proofs.lanes.whole_sums.Goals as goal

value_fits : (v : ℤ) → pos 0 ≤ℤ v → v ≤ℤ pos 255 → FitsSigned w16 v
value_fits v least most = omega (arith, ints)

value_product : (v : ℤ) → pos 0 ≤ℤ v → v ≤ℤ pos 255 → FitsSigned w16 (v *ℤ pos 16)
value_product v least most = omega (arith, ints)

error_fits : (x : ℤ) → IsError x → FitsSigned w16 x
error_fits x small = omega (arith, ints)

by_three : (x : ℤ) → IsError x → FitsSigned w16 (x *ℤ pos 3)
by_three x small = omega (arith, ints)

by_five : (x : ℤ) → IsError x → FitsSigned w16 (x *ℤ pos 5)
by_five x small = omega (arith, ints)

by_seven : (x : ℤ) → IsError x → FitsSigned w16 (x *ℤ pos 7)
by_seven x small = omega (arith, ints)

right_fits : (v r : ℤ) → pos 0 ≤ℤ v → v ≤ℤ pos 255 → IsError r → FitsSigned w16 ((v *ℤ pos 16) +ℤ (r *ℤ pos 3))
right_fits v r least most small_r = omega (arith, ints)

corner_fits : (a b : ℤ) → IsError a → IsError b → FitsSigned w16 ((a *ℤ pos 5) +ℤ b)
corner_fits a b small_a small_b = omega (arith, ints)

above_fits : (v r a b : ℤ) → pos 0 ≤ℤ v → v ≤ℤ pos 255 → IsError r → IsError a → IsError b
    → FitsSigned w16 (((v *ℤ pos 16) +ℤ (r *ℤ pos 3)) +ℤ ((a *ℤ pos 5) +ℤ b))
above_fits v r a b least most small_r small_a small_b = omega (arith, ints)

above_high : (v r a b : ℤ) → pos 0 ≤ℤ v → IsError r → IsError a → IsError b
    → neg_ℤ (pos 2000) ≤ℤ (((v *ℤ pos 16) +ℤ (r *ℤ pos 3)) +ℤ ((a *ℤ pos 5) +ℤ b))
above_high v r a b least small_r small_a small_b = omega (arith, ints)

whole_fits : (v l r a b : ℤ) → pos 0 ≤ℤ v → v ≤ℤ pos 255 → IsError l → IsError r → IsError a → IsError b
    → FitsSigned w16 ((((v *ℤ pos 16) +ℤ (r *ℤ pos 3)) +ℤ ((a *ℤ pos 5) +ℤ b)) +ℤ (l *ℤ pos 7))
whole_fits v l r a b least most small_l small_r small_a small_b = omega (arith, ints)

in_order : (v l r a b : ℤ)
    → (((v *ℤ pos 16) +ℤ (r *ℤ pos 3)) +ℤ ((a *ℤ pos 5) +ℤ b)) +ℤ (l *ℤ pos 7)
    ≡ (pos 16 *ℤ v) +ℤ (pos 7 *ℤ l) +ℤ (pos 3 *ℤ r) +ℤ (pos 5 *ℤ a) +ℤ b
in_order v l r a b = omega (arith, ints)

pub returns-clause-sums : goal.returns-clause-sums
returns-clause-sums c = λ k within.
    let v : ℤ = number_at c.args.values k in
    let l : ℤ = number_at c.args.left k in
    let r : ℤ = number_at c.args.above_right k in
    let a : ℤ = number_at c.args.above k in
    let b : ℤ = number_at c.args.above_left k in
    let least : pos 0 ≤ℤ v = c.requires.values.least k within in
    let most : v ≤ℤ pos 255 = c.requires.values.most k within in
    let small_l : IsError l = c.requires.left.each k within in
    let small_r : IsError r = c.requires.above_right.each k within in
    let small_a : IsError a = c.requires.above.each k within in
    let small_b : IsError b = c.requires.above_left.each k within in
    let e1 : number_at c.times.result k ≡ v *ℤ pos 16 =
    product_is c.args.values c.times.result k v (pos 16) c.requires.values.eight within refl (value_fits v least most) (value_product v least most) (c.times.ensures.products k within) in
    let e2 : number_at c.times-2.result k ≡ r *ℤ pos 3 =
    product_is c.args.above_right c.times-2.result k r (pos 3) c.requires.above_right.eight within refl (error_fits r small_r) (by_three r small_r) (c.times-2.ensures.products k within) in
    let e3 : number_at c.plus-right.result k ≡ (v *ℤ pos 16) +ℤ (r *ℤ pos 3) =
    sum_is c.times.result c.times-2.result c.plus-right.result k _ _ c.times.ensures.eight c.times-2.ensures.eight within e1 e2 (value_product v least most) (by_three r small_r) (right_fits v r least most small_r) (c.plus-right.ensures.sums k within) in
    let e4 : number_at c.times-3.result k ≡ a *ℤ pos 5 =
    product_is c.args.above c.times-3.result k a (pos 5) c.requires.above.eight within refl (error_fits a small_a) (by_five a small_a) (c.times-3.ensures.products k within) in
    let e5 : number_at c.plus-corner.result k ≡ (a *ℤ pos 5) +ℤ b =
    sum_is c.times-3.result c.args.above_left c.plus-corner.result k _ _ c.times-3.ensures.eight c.requires.above_left.eight within e4 refl (by_five a small_a) (error_fits b small_b) (corner_fits a b small_a small_b) (c.plus-corner.ensures.sums k within) in
    let all : FitsSigned w16 (((v *ℤ pos 16) +ℤ (r *ℤ pos 3)) +ℤ ((a *ℤ pos 5) +ℤ b)) = above_fits v r a b least most small_r small_a small_b in
    let e6 : number_at c.plus.result k ≡ ((v *ℤ pos 16) +ℤ (r *ℤ pos 3)) +ℤ ((a *ℤ pos 5) +ℤ b) =
    sum_is c.plus-right.result c.plus-corner.result c.plus.result k _ _ c.plus-right.ensures.eight c.plus-corner.ensures.eight within e3 e5 (right_fits v r least most small_r) (corner_fits a b small_a small_b) all (c.plus.ensures.sums k within) in
    let held : number_at c.settled.result k ≡ ((v *ℤ pos 16) +ℤ (r *ℤ pos 3)) +ℤ ((a *ℤ pos 5) +ℤ b) =
    settled_is c.plus.result c.settled.result k _ c.plus.ensures.eight within e6 all (above_high v r a b least small_r small_a small_b) (c.settled.ensures.same k within) in
    let e7 : number_at c.times-4.result k ≡ l *ℤ pos 7 =
    product_is c.args.left c.times-4.result k l (pos 7) c.requires.left.eight within refl (error_fits l small_l) (by_seven l small_l) (c.times-4.ensures.products k within) in
    let whole = whole_fits v l r a b least most small_l small_r small_a small_b in
    let e8 : number_at c.plus-2.result k ≡ (((v *ℤ pos 16) +ℤ (r *ℤ pos 3)) +ℤ ((a *ℤ pos 5) +ℤ b)) +ℤ (l *ℤ pos 7) =
    sum_is c.settled.result c.times-4.result c.plus-2.result k _ _ c.settled.ensures.eight c.times-4.ensures.eight within held e7 all (by_seven l small_l) whole (c.plus-2.ensures.sums k within) in
    kept_is c.plus-2.result k _ c.plus-2.ensures.eight within e8 whole ∙ in_order v l r a b
