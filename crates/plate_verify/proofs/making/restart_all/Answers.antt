use Rattle.std.proofs.Common.{◌<◌, length, arith}
use Rattle.plate_verify.proofs.MakeLemmas.{restarted-none, restarted-more}
use Rattle.plate_verify.proofs.making.restart_all.Goals as goal

pub loop-i-init : goal.loop-i-init
loop-i-init c = λ sides have. restarted-none sides c.args.plates.now have

pub loop-i-preserved : goal.loop-i-preserved
loop-i-preserved c = λ sides have.
    let below : c.loop-i.i < length c.loop-i.plates = omega arith in
    restarted-more sides c.loop-i.i c.loop-i.plates c.index-plates-i.result c.restart.new.self (c.loop-i.invariant sides have) below c.in_ok-restart.ensures.rows

pub returns-clause-none : goal.returns-clause-none
returns-clause-none c = λ sides have. record { are = λ i d below. (c.loop-i.invariant sides have).done i d (omega arith) below }

pub returns-clause-sides : goal.returns-clause-sides
returns-clause-sides c = λ sides have. (c.loop-i.invariant sides have).sides'
