use Rattle.std.proofs.Common.{◌≡◌, ◌<◌, ◌≤◌, length, get_or, refl, sym, ap, subst, ◌∙◌, arith}
use Rattle.std.proofs.lemmas.Option.{same_Some, slice_get-get_or}
use Rattle.ring_lanes.specs.Writer.{WriterState}
use Rattle.ring_run.specs.Round.{IsTold}
use Rattle.ring_run.proofs.Rounds.{told_all, told_more, told_none}
use Rattle.ring_run.proofs.round.tell_readers.Goals as goal

pub hear-requires : goal.hear-requires
hear-requires g c =
    let it = c.loop-i.invariant in
    let i = c.loop-i.i in
    let less : i < length c.loop-i.seats = omega arith in
    let there = sym (it.told.rest i (let e : i ≤ i = omega arith in e)) ∙ slice_get-get_or c.loop-i.seats i c.index-seats-i.result less in
    record { table = c.requires.table i (get_or c.loop-i.seats i c.index-seats-i.result) there ∙ sym (ap (λ (w : WriterState). w.table) it.same) }

pub loop-i-init : goal.loop-i-init
loop-i-init g c = record { same = refl; told = told_none (IsTold c.args.writer.now) c.args.seats.now }

pub loop-i-preserved : goal.loop-i-preserved
loop-i-preserved g c =
    let it = c.loop-i.invariant in
    let i = c.loop-i.i in
    let end = get_or c.loop-i.seats i c.index-seats-i.result in
    let less : i < length c.loop-i.seats = omega arith in
    record {
      same = c.hear.ensures.same ∙ it.same;
      told = told_more (IsTold c.args.writer.now) c.args.seats.now c.loop-i.seats i c.hear.new.self less it.told
          (λ was wt at.
          let same : end ≡ was = same_Some end was (sym (slice_get-get_or c.loop-i.seats i c.index-seats-i.result less) ∙ at) in
          subst (λ (s : _). IsTold c.args.writer.now s c.hear.new.self) same
          (subst (λ (w : WriterState). IsTold w end c.hear.new.self) it.same c.hear.ensures.heard));
    }

pub returns-clause-told : goal.returns-clause-told
returns-clause-told g c =
    told_all (IsTold c.args.writer.now) c.args.seats.now c.loop-i.seats c.loop-i.i (omega arith) c.loop-i.invariant.told
