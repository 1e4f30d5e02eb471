use Rattle.std.proofs.Common.{◌≡◌, ℕ, length, ◌∙◌, rules, arith}
use Rattle.std.specs.Prelude.{min}
use Rattle.ring_turns.proofs.Halves.{back_may, back_min, both_turned, front_min, seam_min}
use Rattle.ring_turns.proofs.side_by_side.+halves.Goals as goal

pub turns-join_halves-requires-clause-may_last : goal.turns-join_halves-requires-clause-may_last
turns-join_halves-requires-clause-may_last g t c κs within =
    let half : ℕ = c.share-half.result in
    let cut : c.min.result ≡ min half (length c.args.others.now) = search rules in
    back_may g.X.TurnWith.may half c.args.all.now c.split_at_mut-a.result.1.now c.args.others.now c.split_at_mut-c.result.1.now c.split_at_mut-a.ensures.back (c.split_at_mut-c.ensures.back ∙ back_min half c.min.result c.args.others.now cut) c.requires.may

pub turns-returns : goal.turns-returns
turns-returns g t c =
    let half : ℕ = c.share-half.result in
    let cut : c.min.result ≡ min half (length c.args.others.now) = search rules in
    let x = c.split_at_mut-a.ensures in
    let y = c.split_at_mut-c.ensures in
    let a = c.join_halves.auto.a in
    let c' = c.join_halves.auto.c in
    let d = c.join_halves.auto.d in
    let long-a = x.front_len in
    let long-c = y.front_len in
    let long-d = y.back_len in
    record {
      turned = both_turned g.X.TurnWith.turned half c.args.all.now c.split_at_mut-a.result.0.now c.split_at_mut-a.result.1.now c.join_halves.new.a c.join_halves.new.b c.args.others.now c.split_at_mut-c.result.0.now c.split_at_mut-c.result.1.now c.join_halves.new.c
          c.join_halves.new.d x.front x.back (y.front ∙ front_min half c.min.result c.args.others.now cut) (y.back ∙ back_min half c.min.result c.args.others.now cut) (omega (arith, a, long-a))
          (seam_min half c.min.result (length c.args.others.now) c.join_halves.new.c c.join_halves.new.d cut (omega (arith, c', long-c)) (omega (arith, d, long-d))) c.join_halves.ensures.first c.join_halves.ensures.last;
    }
