-- The rows that the pixels depend on are the same.
use Rattle.std.proofs.Common.{◌+◌, [], get_or, ap, sym, ◌∙◌}
use Rattle.std.proofs.lemmas.List.{get_or-take}
use Rattle.scr_diffuse.specs.Diffusion.{prints}
use Rattle.scr_diffuse.proofs.DiffusionLemmas.{v_at-same}
use Rattle.scr_diffuse.proofs.laws.row_law.Goals as goal

pub returns : goal.returns
returns c = λ rows other x y same.
    ap prints (v_at-same rows other x y (λ j below.
    sym (get_or-take (y + 1) rows j [] below) ∙ ap (λ front. get_or front j []) same ∙ get_or-take (y + 1) other j [] below))
