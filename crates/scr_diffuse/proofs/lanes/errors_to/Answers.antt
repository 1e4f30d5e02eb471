-- The numbers are loaded unchanged.
use Rattle.std.proofs.Common.{◌≡◌, ◌∙◌, ◌+◌, ◌-◌, List, ℤ, pos, length, take, drop, ap, arith}
use Rattle.std.proofs.lemmas.List.{get_or-drop, get_or-take, length-drop, length-take}
use Rattle.scr_diffuse.specs.Passes.{number_at}
use Rattle.scr_diffuse.proofs.LaneLemmas.{kept_is}
use Rattle.scr_diffuse.proofs.lanes.errors_to.Goals as goal

pub returns-clause-last : goal.returns-clause-last
returns-clause-last c = λ fits.
    let last = c.args.last in
    let errors : List ℤ = c.args.errors.now in
    let part : List ℤ = take (last + 1 - (last - 7)) (drop (last - 7) errors) in
    let long : length part ≡ 8 = omega (arith, length-take (last + 1 - (last - 7)) (drop (last - 7) errors), length-drop (last - 7) errors) in
    let place : last - 7 + 7 ≡ last = omega arith in
    let is : number_at (take 8 part) 7 ≡ number_at errors last =
    get_or-take 8 part 7 (pos 0) (omega arith) ∙ get_or-take (last + 1 - (last - 7)) (drop (last - 7) errors) 7 (pos 0) (omega arith) ∙ get_or-drop (last - 7) errors 7 (pos 0) ∙ ap (number_at errors) place in
    kept_is (take 8 part) 7 (number_at errors last) (omega (arith, length-take 8 part)) (omega arith) is fits
