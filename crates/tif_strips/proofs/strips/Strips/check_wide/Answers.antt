use Rattle.std.proofs.Common.{None, Some, sym, ◌∙◌}
use Rattle.std.proofs.lemmas.Result.{err_from_is_err_and}
use Rattle.tif_strips.proofs.Faults.{strip_fault-fields}
use Rattle.tif_strips.proofs.Walks.{all_tested}
use Rattle.tif_strips.proofs.strips.Strips.check_wide.Goals as goal

pub returns-in_err-table-clause-fault : goal.returns-in_err-table-clause-fault
returns-in_err-table-clause-fault g c =
    let p = err_from_is_err_and c.from_residual.result c.from_residual.ensures.1 in
    rw (p.1, p.2) (sym (strip_fault-fields c.args.shape c.args.bytes.now c.in_err-table.field-0.0 (sym c.in_err-table.ensures.fault)))

pub invariant_of-result : goal.invariant_of-result
invariant_of-result g c = rw c.in_ok-table.ensures.table (record {
  striped = c.requires.shape;
  passed = sym (all_tested c.args.shape c.args.bytes.now c.in_ok-table.table c.strip_count.result None (sym c.in_ok-table.ensures.fault) c.in_ok-table.ensures.table c.strip_count.ensures.count (sym c.in-None.is ∙ c.test_wide.ensures.fault));
})

pub returns-in-Some-clause-fault : goal.returns-in-Some-clause-fault
returns-in-Some-clause-fault g c =
    all_tested c.args.shape c.args.bytes.now c.in_ok-table.table c.strip_count.result (Some c.in-Some.fault) (sym c.in_ok-table.ensures.fault) c.in_ok-table.ensures.table c.strip_count.ensures.count (sym c.in-Some.is ∙ c.test_wide.ensures.fault)

pub returns-in-None-clause-fault : goal.returns-in-None-clause-fault
returns-in-None-clause-fault g c =
    all_tested c.args.shape c.args.bytes.now c.in_ok-table.table c.strip_count.result None (sym c.in_ok-table.ensures.fault) c.in_ok-table.ensures.table c.strip_count.ensures.count (sym c.in-None.is ∙ c.test_wide.ensures.fault)
