-- The errors are 0, and no row was taken.
use Rattle.std.proofs.Common.{◌≡◌, ℤ, List, length, arith, ap, subst, sym, ◌∙◌}
use Rattle.scr_diffuse.specs.Diffuser.{StandBelow, joined}
use Rattle.scr_diffuse.proofs.StandLemmas.{stand_at_start, lent_whole}
use Rattle.scr_diffuse.proofs.diffuser.Diffuser.restart.Goals as goal

pub invariant_of-self : goal.invariant_of-self
invariant_of-self c =
    let items : List ℤ = c.self.inside.errors.items in
    let whole : c.self.inside.errors.len ≡ length c.clear.new.errors = omega arith in
    let size : length c.clear.new.errors ≡ length items = omega (arith, ap length c.deref_mut.ensures.value) in
    let errors : List ℤ → _ = StandBelow (joined c.new-self-inside.result.steps) in
    subst errors (sym (lent_whole c.self.inside.errors.len c.clear.new.errors items whole))
    (stand_at_start _ _ c.self.invariant.room.0 (ap joined c.new-self-inside.ensures) (size ∙ c.self.invariant.room.1) c.clear.ensures)
