-- The clauses are lemmas over any page.
use Rattle.std.proofs.Common.{ℕ, suc, ap, sym, ◌∙◌, [], get_or, add-one}
use Rattle.scr_diffuse.specs.Diffusion.{error_above, error_left, error_of}
use Rattle.scr_diffuse.proofs.DiffusionLemmas.{error_above-more, error_above-small, error-inside, error-outside, v_at-is}
use Rattle.scr_diffuse.proofs.laws.error_law.Goals as goal

pub returns-clause-inside : goal.returns-clause-inside
returns-clause-inside c = λ rows x y inside.
    let above = λ (k : ℕ). error_above rows k y in
    error_above-more rows x y ∙ ap (error_left above (get_or rows y [])) (add-one x)
    ∙ error-inside above (get_or rows y []) x inside ∙ ap error_of (sym (v_at-is rows x y))

pub returns-clause-outside : goal.returns-clause-outside
returns-clause-outside c = λ rows x y outside.
    let above = λ (k : ℕ). error_above rows k y in
    error_above-more rows x y ∙ ap (error_left above (get_or rows y [])) (add-one x)
    ∙ error-outside above (get_or rows y []) x outside

pub returns-clause-range : goal.returns-clause-range
returns-clause-range c = λ rows x y pixels. error_above-small rows (λ j k. pixels k j) (suc y) x
