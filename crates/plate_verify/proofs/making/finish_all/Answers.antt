use Rattle.std.proofs.Common.{◌<◌, length, arith}
use Rattle.plate_verify.proofs.MakeLemmas.{finished-none, full-at, finished-more, finished-all}
use Rattle.plate_verify.proofs.making.finish_all.Goals as goal

pub loop-i-init : goal.loop-i-init
loop-i-init c = λ sides rows full. finished-none sides rows c.args.plates.now full

pub finish-requires : goal.finish-requires
finish-requires c =
    let below : c.loop-i.i < length c.loop-i.plates = omega arith in
    let r = c.requires in
    record {
      rows = r.rows c.loop-i.i;
      has = full-at r.sides r.rows c.args.plates.now c.loop-i.plates c.loop-i.i c.index-plates-i.result r.full (c.loop-i.invariant r.sides r.rows r.full) c.loop-i.auto.plates below;
    }

pub loop-i-preserved : goal.loop-i-preserved
loop-i-preserved c = λ sides rows full.
    let below : c.loop-i.i < length c.loop-i.plates = omega arith in
    let to = c.loop-i.invariant sides rows full in
    finished-more sides rows c.loop-i.plates c.loop-i.i c.index-plates-i.result c.finish.new.self to below
    (c.in_ok-finish.ensures.file (rows c.loop-i.i) (full-at sides rows c.args.plates.now c.loop-i.plates c.loop-i.i c.index-plates-i.result full to c.loop-i.auto.plates below))

pub returns : goal.returns
returns c = λ sides rows full. finished-all sides rows c.loop-i.plates c.loop-i.i (c.loop-i.invariant sides rows full) (omega arith)
