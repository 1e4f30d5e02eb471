use Rattle.std.proofs.Common.{◌/◌, None, Some, refl, sym, ◌∙◌, arith}
use Rattle.tif_strips.proofs.Marks.{both_marked}
use Rattle.tif_strips.proofs.Walks.{both_tested}
use Rattle.tif_strips.proofs.walk.+halves.Goals as goal

pub test_wide-returns-in-Some-clause-fault : goal.test_wide-returns-in-Some-clause-fault
test_wide-returns-in-Some-clause-fault g t c =
    both_tested c.args.table.now c.args.first c.args.count (c.args.count / 2) (Some c.in-Some.fault) c.test_both-one.result.1 (Some c.in-Some.fault) (omega arith) (sym c.in-Some.is ∙ c.test_both-one.ensures.one.found) c.test_both-one.ensures.other.found refl

pub test_wide-returns-in-None-clause-fault : goal.test_wide-returns-in-None-clause-fault
test_wide-returns-in-None-clause-fault g t c =
    both_tested c.args.table.now c.args.first c.args.count (c.args.count / 2) None c.test_both-one.result.1 c.test_both-one.result.1 (omega arith) (sym c.in-None.is ∙ c.test_both-one.ensures.one.found) c.test_both-one.ensures.other.found refl

pub test_wide-returns-in-None-clause-marks : goal.test_wide-returns-in-None-clause-marks
test_wide-returns-in-None-clause-marks g t c = λ none.
    both_marked c.args.table.now c.args.first c.args.count (c.args.count / 2) c.args.per c.test_both-one.new.front c.test_both-one.new.back (omega arith) (c.test_both-one.auto.front ∙ c.split_at_mut-front.ensures.front_len ∙ c.rooms-room.ensures.front) (c.test_both-one.ensures.one.marked c.in-None.is) (c.test_both-one.ensures.other.marked none)
