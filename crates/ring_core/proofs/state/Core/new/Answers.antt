use Rattle.std.proofs.Common.{rules, ◌≡◌, ◌<◌, subst, sym, arith}
use Rattle.ring_core.specs.Schedule.{Schedule}
use Rattle.ring_core.specs.Sound.{IsSound}
use Rattle.ring_core.proofs.Whole.{start_sound}
use Rattle.ring_core.proofs.state.Core.new.Goals as goal

same_sound : (x y : Schedule) → IsSound y → x ≡ y → IsSound x
same_sound x y h e = subst (λ (z : Schedule). IsSound z) (sym e) h

pub returns-clause-sound : goal.returns-clause-sound
returns-clause-sound c =
    let some : 0 < c.args.places = omega arith in
    same_sound _ _ (start_sound c.args.places c.args.readers c.args.total some) (search rules)
