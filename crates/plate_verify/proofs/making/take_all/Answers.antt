use Rattle.std.proofs.Common.{◌≡◌, ◌*◌, ℕ, length, map, drop, ap, ◌∙◌, refl, arith}
use Rattle.tif_packbits.specs.Frame.{frame_of}
use Rattle.plate_verify.specs.Making.{turn_rows}
use Rattle.plate_verify.proofs.MakeLemmas.{took_rows-none, each-takes, took_rows-more, took_rows-all}
use Rattle.plate_verify.proofs.making.take_all.Goals as goal

pub loop-y-init : goal.loop-y-init
loop-y-init g c = λ sides next none fed high. took_rows-none (length c.args.plates.now) sides next c.args.plates.now _ none fed.feeds

pub take_each-requires : goal.take_each-requires
take_each-requires g c =
    let k : ℕ = length c.args.plates.now in
    let r = c.requires in
    record {
      sides = r.sides;
      rows = turn_rows k r.next c.loop-y._y;
      next = drop (c.loop-y._y * k) r.next;
      takes = each-takes k r.sides r.next c.loop-y._y c.args.plates.now c.loop-y.plates _ _ _ _ (c.loop-y.invariant r.sides r.next r.none r.fed r.high) r.fed refl c.loop-y.auto.plates c.loop-y.auto.frame (omega (arith, r.high));
    }

pub loop-y-preserved : goal.loop-y-preserved
loop-y-preserved g c = λ sides next none fed high.
    let k : ℕ = length c.args.plates.now in
    let takes = each-takes k sides next c.loop-y._y c.args.plates.now c.loop-y.plates _ _ _ _ (c.loop-y.invariant sides next none fed high) fed refl c.loop-y.auto.plates c.loop-y.auto.frame (omega (arith, high)) in
    took_rows-more k sides next c.loop-y._y c.take_each.new.plates _ (length c.loop-y.plates) (c.in_ok-take_each.ensures.plates _ _ _ takes) c.loop-y.auto.plates (c.in_ok-take_each.ensures.feed _ _ _ takes)

pub returns-clause-plates : goal.returns-clause-plates
returns-clause-plates g c = λ sides next none fed high.
    took_rows-all (length c.args.plates.now) sides next c.loop-y._y c.args.height c.args.plates.now c.loop-y.plates _ _ _ (c.loop-y.invariant sides next none fed high) fed refl c.loop-y.auto.plates (omega arith) high

pub returns-clause-feed : goal.returns-clause-feed
returns-clause-feed g c = λ sides next none fed high.
    let all : c.loop-y._y ≡ c.args.height = omega arith in
    let took = c.loop-y.invariant sides next none fed high in
    took.feeds ∙ ap (λ n. map frame_of (drop (n * length c.args.plates.now) next)) all
