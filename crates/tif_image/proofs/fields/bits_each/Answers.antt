use Rattle.std.proofs.Common.{sym, ◌∙◌, arith}
use Rattle.std.proofs.lemmas.Result.{err_from_is_err_and}
use Rattle.tif_image.proofs.Values.{bits_each-all, bits_each-err, bits_each-other}
use Rattle.tif_image.proofs.fields.bits_each.Goals as goal

pub returns-in_err-number : goal.returns-in_err-number
returns-in_err-number c =
    let p = err_from_is_err_and c.from_residual.result c.from_residual.ensures.1 in
    rw (p.1, p.2)
    (sym (bits_each-err c.args.dir.now c.args.samples c.args.depth c.loop-i.i c.in_err-number.field-0.0 (omega arith) (sym c.number.ensures ∙ c.in_err-number.was)))

pub returns-then-branch-depth : goal.returns-then-branch-depth
returns-then-branch-depth c =
    sym (bits_each-other c.args.dir.now c.args.samples c.args.depth c.loop-i.i c.in_ok-number.field-0 (omega arith) (sym c.number.ensures ∙ c.in_ok-number.was) c.if-branch-depth.true)

pub returns : goal.returns
returns c =
    sym (bits_each-all c.args.dir.now c.args.samples c.args.depth c.requires (λ k lt. c.loop-i.invariant k (omega arith)))
