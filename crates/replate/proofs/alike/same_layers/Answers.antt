use Rattle.std.proofs.Common.{◌<◌, length, arith}
use Rattle.std.proofs.lemmas.Bool.{both_ways, false≢true}
use Rattle.replate.proofs.ListLemmas.{maps_differ, maps_more}
use Rattle.replate.proofs.alike.same_layers.Goals as goal

pub returns-then-not-same_layer : goal.returns-then-not-same_layer
returns-then-not-same_layer c =
    let behind : c.loop-i.i < length c.args.new.now = omega arith in (
      λ other. absurd (false≢true other),
      λ same. absurd (maps_differ _ _ c.args.old.now c.args.new.now c.loop-i.i _ c.loop-i-test.true behind
          (λ one. both_ways c.same_layer.result c.if-not-same_layer.true (c.same_layer.ensures.1 one)) same),
    )

pub loop-i-preserved : goal.loop-i-preserved
loop-i-preserved c =
    let behind : c.loop-i.i < length c.args.new.now = omega arith in
    maps_more _ _ c.args.old.now c.args.new.now c.loop-i.i _ c.loop-i-test.true behind
    (c.same_layer.ensures.0 c.if-not-same_layer.false) c.loop-i.invariant
