-- The list holds the errors of the row, and its pixels are the defined ones.
use Rattle.std.proofs.Common.{◌≡◌, ℕ, ℤ, List, ◌+◌, ◌-◌, ◌<◌, ◌∷◌, ◌++◌, [], length, arith, subst, ap, sym, ◌∙◌}
use Rattle.pr_base.specs.Bits.{bit_at}
use Rattle.scr_diffuse.specs.Diffuser.{StandBelow, PageFront, joined}
use Rattle.scr_diffuse.specs.Diffusion.{diffused_bit, error_left, prints}
use Rattle.scr_diffuse.specs.Passes.{errors_in, number_at}
use Rattle.scr_diffuse.proofs.StandLemmas.{joined_more, stand_next, v_next, lent_whole}
use Rattle.scr_diffuse.proofs.diffuser.Diffuser.row.Goals as goal

pub diffuse_row-requires-clause-right : goal.diffuse_row-requires-clause-right
diffuse_row-requires-clause-right c =
    let items : List ℤ = c.self.inside.errors.items in
    let width : length c.args.values.now ≡ length items - 2 = c.requires.width ∙ ap (λ (p : PageFront). p.width) (sym c.self.view_is) in
    let end : length c.args.values.now + 1 ≡ length items - 1 = omega (arith, c.self.invariant.room.1) in
    ap (λ list. number_at list (length c.args.values.now + 1)) c.deref_mut.ensures.value ∙ ap (number_at items) end ∙ c.self.invariant.right

pub invariant_of-self : goal.invariant_of-self
invariant_of-self c =
    let items : List ℤ = c.self.inside.errors.items in
    let new : List ℤ = c.diffuse_row.new.errors in
    let values : List ℕ = c.args.values.now in
    let width : length values ≡ length items - 2 = c.requires.width ∙ ap (λ (p : PageFront). p.width) (sym c.self.view_is) in
    let whole : c.self.inside.errors.len ≡ length new = omega arith in
    let size : length items ≡ length values + 2 = omega (arith, c.self.invariant.room.1) in
    let same : length new ≡ length items = omega (arith, ap length c.deref_mut.ensures.value) in
    let made : (k : ℕ) → number_at new k ≡ error_left (errors_in items) values k =
    λ k. c.diffuse_row.ensures.errors k ∙ ap (λ list. error_left (errors_in list) values k) c.deref_mut.ensures.value in
    let errors : List ℤ → _ = StandBelow (joined c.then-self-inside.result.steps) in
    subst errors (sym (lent_whole c.self.inside.errors.len new items whole))
    (stand_next (joined c.self.inside.rows.steps) _ values items new c.self.invariant (joined_more c.self.inside.rows.steps _ (values ∷ []) c.then-self-inside.ensures) size same
    (λ k. let byte = c.type_inv.values k in omega arith) made)

pub returns-clause-drawn : goal.returns-clause-drawn
returns-clause-drawn c =
    let items : List ℤ = c.self.inside.errors.items in
    let values : List ℕ = c.args.values.now in
    let drawn : (x : ℕ) → x < c.args.self.now.width → bit_at c.diffuse_row.new.bits (c.args.from + x) ≡ diffused_bit ((joined c.self.inside.rows.steps) ++ values ∷ []) x (length (joined c.self.inside.rows.steps)) =
    λ x within. c.diffuse_row.ensures.bits.inside x (omega (arith, c.requires.width))
    ∙ ap (λ list. prints (Rattle.scr_diffuse.specs.Diffusion.v_below (errors_in list) values x)) c.deref_mut.ensures.value
    ∙ ap prints (v_next (joined c.self.inside.rows.steps) values items x c.self.invariant) in
    let rows : (joined c.self.inside.rows.steps) ≡ c.args.self.now.rows = ap (λ (p : PageFront). p.rows) c.self.view_is in
    λ x within. drawn x within ∙ ap (λ all. diffused_bit (all ++ values ∷ []) x (length all)) rows
