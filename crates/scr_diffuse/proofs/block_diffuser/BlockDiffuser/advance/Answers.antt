-- The list holds the errors of the last row, and the pixels are the defined ones.
use Rattle.std.proofs.Common.{◌≡◌, ◌∙◌, ℕ, ◌-◌, ◌<◌, List, [], length, get_or, ap, sym, arith}
use Rattle.std.proofs.lemmas.List.{length-map}
use Rattle.scr_diffuse.specs.Block.{block_left, block_v, left_in, row_in, rows_in}
use Rattle.scr_diffuse.specs.Diffuser.{PageFront, joined}
use Rattle.scr_diffuse.specs.Diffusion.{prints}
use Rattle.scr_diffuse.specs.Passes.{number_at}
use Rattle.scr_diffuse.proofs.BlockLemmas.{below_margin, block_next}
use Rattle.scr_diffuse.proofs.StandLemmas.{joined_more}
use Rattle.scr_diffuse.proofs.block_diffuser.BlockDiffuser.advance.Goals as goal

pub diffuse_block-requires-clause-values : goal.diffuse_block-requires-clause-values
diffuse_block-requires-clause-values c = λ k within.
    let wide : length (row_in c.args.values.now k) ≡ length c.self.inside.dots.items - 21 = c.requires.width k within ∙ ap (λ (p : PageFront). p.width) (sym c.self.view_is) in
    omega (arith, wide, c.self.invariant.long, ap length c.deref_mut-2.ensures.value)

pub diffuse_block-requires-clause-left : goal.diffuse_block-requires-clause-left
diffuse_block-requires-clause-left c = λ x few. ap (λ errors. number_at errors x) c.deref_mut.ensures.value ∙ below_margin _ _ _ c.self.invariant.errors_are x few

pub invariant_of-self : goal.invariant_of-self
invariant_of-self c =
    let rows : List (List ℕ) = rows_in c.args.values.now in
    let before : List ℕ = c.self.inside.dots.items in
    let wide : (k : ℕ) → k < 8 → length (get_or rows k []) ≡ c.self.invariant.width =
    λ k within. (let same : length (row_in c.args.values.now k) ≡ length before - 21 = c.requires.width k within ∙ ap (λ (p : PageFront). p.width) (sym c.self.view_is) in omega (arith, same, c.self.invariant.long)) in
    block_next (joined c.self.inside.rows.steps) rows _ c.self.inside.errors.items c.diffuse_block.new.errors before c.diffuse_block.new.dots c.self.inside.columns.items c.diffuse_block.new.columns
    c.self.inside.errors.len c.self.inside.dots.len c.self.inside.columns.len c.self.invariant (length-map c.args.values.now (λ row. row.now) ∙ c.told-values) wide
    (omega (arith, ap length c.deref_mut.ensures.value)) (omega (arith, ap length c.deref_mut-2.ensures.value)) (omega (arith, ap length c.deref_mut-3.ensures.value))
    (λ x. c.diffuse_block.ensures.errors x ∙ ap (λ errors. block_left (left_in errors) rows 8 (x - 21)) c.deref_mut.ensures.value)
    c.diffuse_block.ensures.small
    (λ k x within inside. c.diffuse_block.ensures.dots k x within (omega (arith, ap length c.deref_mut-2.ensures.value, c.self.invariant.long))
    ∙ ap (λ errors. prints (block_v (left_in errors) rows k x)) c.deref_mut.ensures.value)
    (omega arith) (omega arith) (omega arith)
    (joined_more c.self.inside.rows.steps _ rows c.then-self-inside.ensures)
