use Rattle.std.proofs.Common.{◌≡◌, ◌∙◌, false, refl, sym, subst, arith}
use Rattle.std.proofs.lemmas.List.{length-set}
use Rattle.replate.specs.declared.maker.Maker.{Maker}
use Rattle.replate.specs.Making.{IsBeforeRow, keeps_next}
use Rattle.replate.proofs.PassLemmas.{passed_all, passed_more}
use Rattle.replate.proofs.remaking.pass_row.Goals as goal

pub loop-i-init : goal.loop-i-init
loop-i-init c = record {
  long = refl;
  passed' = record { done = λ j d less. absurd (omega (arith, less)); rest = λ j d from. refl };
}

pub pass-requires-clause-next : goal.pass-requires-clause-next
pass-requires-clause-next c =
    let was = c.loop-i.invariant in
    let long = was.long in
    let d = c.index-makers-i.result in
    subst IsBeforeRow (sym (was.passed'.rest c.loop-i.i d (omega arith)))
    (c.requires.next c.loop-i.i d (omega (arith, long)))

pub pass-requires-clause-other : goal.pass-requires-clause-other
pass-requires-clause-other c =
    let was = c.loop-i.invariant in
    let long = was.long in
    let d = c.index-makers-i.result in
    subst (λ (m : Maker). keeps_next m ≡ false) (sym (was.passed'.rest c.loop-i.i d (omega arith)))
    (c.requires.others c.loop-i.i d (omega (arith, long)))

pub loop-i-preserved : goal.loop-i-preserved
loop-i-preserved c =
    let was = c.loop-i.invariant in
    record {
      long = length-set c.loop-i.makers c.loop-i.i c.pass.new.self ∙ was.long;
      passed' = passed_more c.args.makers.now c.loop-i.makers c.loop-i.i c.index-makers-i.result
          c.pass.new.self (omega arith) was.passed' c.pass.ensures;
    }

pub returns : goal.returns
returns c =
    let was = c.loop-i.invariant in
    let long = was.long in
    let past = c.loop-i-test.false in
    passed_all c.args.makers.now c.loop-i.makers c.loop-i.i long (omega (arith, long)) was.passed'
