use Rattle.std.proofs.Common.{◌≡◌, ◌+◌, ◌<◌, [], length, map, drop, get_or, ap, ◌∙◌, arith}
use Rattle.tif_packbits.specs.Frame.{frame_of}
use Rattle.plate_verify.proofs.MakeLemmas.{took-none, took-next, took-more, took-all}
use Rattle.plate_verify.proofs.making.take_each.Goals as goal

pub loop-i-init : goal.loop-i-init
loop-i-init g c = λ sides rows next takes. took-none c.args.plates.now _ _ sides rows next takes

pub take_next-requires : goal.take_next-requires
take_next-requires g c =
    let below : c.loop-i.i < length c.loop-i.plates = omega arith in
    record {
      rows = c.requires.rows c.loop-i.i;
      row = get_or c.requires.next c.loop-i.i [];
      rest = map frame_of (drop (c.loop-i.i + 1) c.requires.next);
      takes = took-next c.args.plates.now _ _ c.requires.sides c.requires.rows c.requires.next c.loop-i.i c.loop-i.plates _ _ c.index-plates-i.result
          c.requires.takes (c.loop-i.invariant c.requires.sides c.requires.rows c.requires.next c.requires.takes) c.loop-i.auto.plates c.loop-i.auto.frame below;
    }

pub loop-i-preserved : goal.loop-i-preserved
loop-i-preserved g c = λ sides rows next takes.
    let below : c.loop-i.i < length c.loop-i.plates = omega arith in
    let took = c.loop-i.invariant sides rows next takes in
    let turn = took-next c.args.plates.now _ _ sides rows next c.loop-i.i c.loop-i.plates _ _ c.index-plates-i.result takes took c.loop-i.auto.plates c.loop-i.auto.frame below in
    took-more c.args.plates.now _ _ sides rows next c.loop-i.i c.loop-i.plates _ _ c.index-plates-i.result c.take_next.new.plate takes took below
    (c.in_ok-take_next.ensures.plate _ _ _ turn) (c.in_ok-take_next.ensures.feed _ _ _ turn)

pub returns-clause-plates : goal.returns-clause-plates
returns-clause-plates g c = λ sides rows next takes.
    took-all sides rows next c.loop-i.i c.loop-i.plates _ (c.loop-i.invariant sides rows next takes) (omega arith)

pub returns-clause-feed : goal.returns-clause-feed
returns-clause-feed g c = λ sides rows next takes.
    let at : c.loop-i.i ≡ length c.args.plates.now = omega arith in
    let took = c.loop-i.invariant sides rows next takes in
    took.feeds ∙ ap (λ n. map frame_of (drop n next)) at
