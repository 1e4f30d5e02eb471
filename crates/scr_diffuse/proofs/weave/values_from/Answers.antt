-- The values are loaded unchanged.
use Rattle.std.proofs.Common.{◌≡◌, ◌∙◌, ◌+◌, ◌-◌, List, ℕ, [], get_or, take, drop, ap, sym, arith}
use Rattle.std.proofs.lemmas.List.{get_or-drop, get_or-map, get_or-take}
use Rattle.std.proofs.lemmas.Simd.{get_or-chunk}
use Rattle.scr_diffuse.proofs.weave.values_from.Goals as goal

pub returns-clause-values : goal.returns-clause-values
returns-clause-values c = λ x within.
    let first = c.args.first in
    let row : List ℕ = (get_or c.args.rows.now c.args.k (record { ref_ptr = (0, 0); now = [] })).now in
    let all : List ℕ = take (first + 16 - first) (drop first row) in
    let place : 0 + x ≡ x = omega arith in
    get_or-chunk 0 16 all x 0 within ∙ ap (λ (n : ℕ). get_or all n 0) place ∙ get_or-take (first + 16 - first) (drop first row) x 0 (omega arith) ∙ get_or-drop first row x 0
    ∙ ap (λ (l : List ℕ). get_or l (first + x) 0) (sym (get_or-map (λ r. r.now) c.args.rows.now c.args.k (record { ref_ptr = (0, 0); now = [] }) [] (omega (arith, c.told-rows))))
