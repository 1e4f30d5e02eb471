use Rattle.std.proofs.Common.{arith}
use Rattle.plate_room.proofs.Numbers.{within_some, within_low, within_high, within_far}
use Rattle.plate_room.proofs.number.number_within.Goals as goal
use Rattle.plate_room.proofs.number.number_within.Goals.{else-least-number-via-then-least-number+else-number-most, else-least-number-via-else-least-number}

pub returns-then-number-most-clause-number : goal.returns-then-number-most-clause-number
returns-then-number-most-clause-number c =
    within_some c.args.word.now c.args.least c.args.most c.in-Some.number c.in-Some.ensures c.if-least-number.true c.if-number-most.true

pub returns-else-least-number-clause-number : goal.returns-else-least-number-clause-number
returns-else-least-number-clause-number c =
    elim c.else-least-number.branch [
      | else-least-number-via-then-least-number+else-number-most w ↦
          within_high c.args.word.now c.args.least c.args.most c.in-Some.number c.in-Some.ensures (omega (arith, w.if-number-most.false))
      | else-least-number-via-else-least-number w ↦
          within_low c.args.word.now c.args.least c.args.most c.in-Some.number c.in-Some.ensures (omega (arith, w.if-least-number.false))
    ]

pub returns-in-None-clause-number : goal.returns-in-None-clause-number
returns-in-None-clause-number c =
    within_far c.args.word.now c.args.least c.args.most c.in-None.ensures (omega (arith, c.ranges.most.fits))
