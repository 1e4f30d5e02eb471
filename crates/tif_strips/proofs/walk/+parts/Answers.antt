use Rattle.std.proofs.Common.{◌≡◌, ◌+◌, ◌-◌, ◌/◌, None, Some, length, refl, sym, ◌∙◌, arith}
use Rattle.tif_strips.specs.Walk.{fault_among}
use Rattle.tif_strips.proofs.Marks.{both_marked, rest_room}
use Rattle.tif_strips.proofs.Walks.{among-nothing, both_tested}
use Rattle.tif_strips.proofs.walk.+parts.Goals as goal

pub returns-then-count-eq0-clause-fault : goal.returns-then-count-eq0-clause-fault
returns-then-count-eq0-clause-fault t c = rw c.if-count-eq0.true (sym (among-nothing c.args.table.now c.args.first))

pub returns-in-Some-clause-fault : goal.returns-in-Some-clause-fault
returns-in-Some-clause-fault t c =
    let half = c.args.count / 2 in
    both_tested c.args.table.now c.args.first c.args.count half (Some c.in-Some.fault) (fault_among c.args.table.now (c.args.first + half) (c.args.count - half)) (Some c.in-Some.fault) (omega arith) c.in-Some.ensures.fault refl refl

pub test-requires-2 : goal.test-requires-2
test-requires-2 t c =
    let all : c.args.first + c.args.count / 2 + (c.args.count - c.args.count / 2) ≡ c.args.first + c.args.count = omega arith in
    let room = rest_room c.args.count (c.args.count / 2) c.args.per (length c.split_at_mut-front.result.1.now) (omega arith) (c.split_at_mut-front.ensures.back_len ∙ c.requires.room) in
    (omega arith, (omega (arith, c.requires.within), (omega (arith, c.requires.fits), (c.requires.few, (room, c.test.ensures.passed)))))

pub returns-clause-fault : goal.returns-clause-fault
returns-clause-fault t c =
    both_tested c.args.table.now c.args.first c.args.count (c.args.count / 2) None c.test-2.result c.test-2.result (omega arith) (sym c.in_default.is ∙ c.test.ensures.fault) c.test-2.ensures.fault refl

pub returns-clause-marks : goal.returns-clause-marks
returns-clause-marks t c = λ none.
    both_marked c.args.table.now c.args.first c.args.count (c.args.count / 2) c.args.per c.test.new.marks c.test-2.new.marks (omega arith) (c.test.auto.marks ∙ c.split_at_mut-front.ensures.front_len) (c.test.ensures.marks c.in_default.is) (c.test-2.ensures.marks none)
