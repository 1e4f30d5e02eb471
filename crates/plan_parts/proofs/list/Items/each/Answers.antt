use Rattle.std.proofs.Common.{◌≡◌, length, rules}
use Rattle.std.proofs.lemmas.Result.{err_from_is_err_and}
use Rattle.plan_parts.proofs.Lists.{each-more, each-fails, each-done, each-count}
use Rattle.plan_parts.proofs.list.Items.each.Goals as goal

pub returns-in_err-one : goal.returns-in_err-one
returns-in_err-one g c =
    let p = err_from_is_err_and c.from_residual.result c.from_residual.ensures.1 in
    let path : c.as_str.result.now ≡ c.args.self.now.path = search rules in
    let count : c.len.result ≡ length c.loop-value.all.items = search rules in
    let failed = rw (path, count, c.as_slice.ensures.value) at c.in_err-one.ensures in
    rw (p.1, p.2) (record { value = each-fails _ _ _ _ _ c.loop-value.all.items _ _ c.loop-value-test.true c.value-item.is failed c.loop-value.invariant; count = tt })

pub loop-value-preserved : goal.loop-value-preserved
loop-value-preserved g c =
    let path : c.as_str.result.now ≡ c.args.self.now.path = search rules in
    let count : c.len.result ≡ length c.loop-value.all.items = search rules in
    let read = rw (path, count, c.as_slice.ensures.value) at c.in_ok-one.ensures in
    rw c.in_ok-push.ensures.items (each-more _ _ _ _ c.loop-value.all.items _ _ _ c.loop-value-test.true c.value-item.is read c.loop-value.invariant)

pub returns-clause-value : goal.returns-clause-value
returns-clause-value g c = each-done _ _ _ _ _ _ c.loop-value-test.false c.loop-value.invariant

pub returns-clause-count : goal.returns-clause-count
returns-clause-count g c = each-count _ _ _ _ (each-done _ _ _ _ _ _ c.loop-value-test.false c.loop-value.invariant)
