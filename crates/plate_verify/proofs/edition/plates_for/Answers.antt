use Rattle.std.proofs.Common.{◌+◌, List, [], ◌∷◌, length, sym, ap, ◌∙◌, subst, length-append}
use Rattle.plate_bytes.specs.Made.{PlateState}
use Rattle.plate_verify.specs.Making.{HaveSides}
use Rattle.plate_verify.proofs.OrderLemmas.{sides_more}
use Rattle.plate_verify.proofs.edition.plates_for.Goals as goal

pub loop-i-preserved : goal.loop-i-preserved
loop-i-preserved c = record {
  have = subst {A = List PlateState} (λ l. HaveSides c.args.sides l) (sym c.in_ok-push.ensures.items)
      (sides_more c.args.sides c.loop-i.plates.items c.in_ok-new.field-0 c.loop-i.invariant.have c.in_ok-new.ensures);
  many = ap {A = List PlateState} length c.in_ok-push.ensures.items ∙ length-append c.loop-i.plates.items (c.in_ok-new.field-0 ∷ []) ∙ ap (λ n. n + 1) c.loop-i.invariant.many;
}
