-- The values are loaded unchanged, and widened.
use Rattle.std.proofs.Common.{◌≡◌, ◌∙◌, ◌+◌, ◌-◌, ◌*◌, ◌≤◌, ◌<◌, ℕ, List, pos, to_z, w16, w8, get_or, length, map, take, drop, ap, arith}
use Rattle.std.proofs.lemmas.Int.{ints}
use Rattle.std.proofs.lemmas.List.{get_or-drop, get_or-map, get_or-take, length-map}
use Rattle.std.proofs.lemmas.Simd.{get_or-chunk, length-chunk}
use lib.Lanes.{chunk}
use borrow.Rule.Simd.Lanes.{act1}
use mir.Syntax.{cast, unsigned, signed}
use borrow.Table.Row.{s_int}
use Rattle.std.proofs.lemmas.List.{length-drop, length-take}
use Rattle.scr_diffuse.specs.Passes.{number_at}
use Rattle.scr_diffuse.proofs.lanes.column_at.Goals as goal

-- a byte in a wider lane
abbrev wide : ℕ → ℕ
wide n = act1 (cast unsigned signed w16) (s_int w8) (s_int w16) n

wide_is : (n : ℕ) → n ≤ 255 → to_z w16 (wide n) ≡ pos n
wide_is n byte = omega (arith, ints)

made : (at k : ℕ) (columns : List ℕ) → at + 8 ≤ length columns → k < 8 → get_or columns (at + k) 0 ≤ 255
    → number_at (map (to_z w16) (map wide (chunk 0 8 (take (at + 8 - at) (drop at columns))))) k
    ≡ pos (get_or columns (at + k) 0)
made at k columns room within byte =
    let all : List ℕ = take (at + 8 - at) (drop at columns) in
    let loaded : List ℕ = chunk 0 8 all in
    let long : length loaded ≡ 8 = length-chunk 0 8 all (omega (arith, length-take (at + 8 - at) (drop at columns), length-drop at columns)) in
    let value : get_or loaded k 0 ≡ get_or columns (at + k) 0 = (let first : 0 + k ≡ k = omega arith in
    get_or-chunk 0 8 all k 0 within ∙ ap (λ (n : ℕ). get_or all n 0) first ∙ get_or-take (at + 8 - at) (drop at columns) k 0 (omega arith) ∙ get_or-drop at columns k 0) in
    get_or-map (to_z w16) (map wide loaded) k 0 (pos 0) (omega (arith, long, length-map loaded wide))
    ∙ ap (to_z w16) (get_or-map wide loaded k 0 0 (omega (arith, long)))
    ∙ ap (λ (n : ℕ). to_z w16 (wide n)) value
    ∙ wide_is (get_or columns (at + k) 0) byte

pub returns-clause-values : goal.returns-clause-values
returns-clause-values c = λ k within. made (8 * c.args.x) k c.args.columns.now c.requires within (omega (arith, c.type_inv.columns (8 * c.args.x + k)))
