use Rattle.std.proofs.lemmas.Result.{err_from_is_err_and}
use Rattle.serde_json.specs.View.{view}
use Rattle.plan_json.proofs.SoundPlan.{in_object, in_number, in_plan}
use Rattle.plan_json.proofs.reading.plan_in.Goals as goal

pub returns-in_err-o : goal.returns-in_err-o
returns-in_err-o c =
    let p = err_from_is_err_and c.from_residual.result c.from_residual.ensures.1 in
    rw (p.1, p.2) (in_object (view c.args.value.now) _ c.in_err-o.ensures.value)

pub returns-in_err-number : goal.returns-in_err-number
returns-in_err-number c =
    let p = err_from_is_err_and c.from_residual-in_err-number.result c.from_residual-in_err-number.ensures.1 in
    rw (p.1, p.2) (in_number (view c.args.value.now) (view c.in_ok-o.o.value.now) c.in_ok-o.o.path _ c.in_ok-o.ensures.path c.in_ok-o.ensures.value c.in_err-number.ensures.value)

pub returns : goal.returns
returns c =
    rw (in_plan (view c.args.value.now) (view c.in_ok-o.o.value.now) c.in_ok-o.o.path c.in_ok-number.number c.in_ok-o.ensures.path c.in_ok-o.ensures.value c.in_ok-number.ensures.value) c.plan_by.ensures
