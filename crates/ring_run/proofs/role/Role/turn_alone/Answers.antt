use Rattle.std.proofs.Common.{◌≡◌, false, None, subst, sym, ◌∙◌, ap}
use Rattle.ring_run.specs.declared.role.Role.{Role}
use Rattle.ring_run.specs.declared.role.Role.TheVariants.{Counting}
use Rattle.ring_run.specs.Served.{SomeSeated, Turned, is_out}
use Rattle.ring_run.proofs.Serving.{counting_at, turned_counting}
use Rattle.ring_run.proofs.role.Role.turn_alone.Goals as goal

pub turn-end-requires-clause-frames : goal.turn-end-requires-clause-frames
turn-end-requires-clause-frames g c =
    let some = subst (λ (s : Role). SomeSeated None (record { reader = c.args.reader.now; role = s })) c.in-Counting.is c.requires.some in
    (counting_at some.work some.before None c.args.reader.now c.in-Counting.key some.carries some.is).1

pub returns-then-cursor-total : goal.returns-then-cursor-total
returns-then-cursor-total g c =
    let turn = c.turn-end.ensures in
    let joined : c.args.reader.now.left ≡ false = c.requires.some.is.left ∙ ap is_out c.in-Counting.is in
    record {
      turned = subst (λ (s : Role). Turned None None (record { reader = c.args.reader.now; role = s }) (record { reader = c.turn-end.new.reader; role = Counting c.turn-end.new.self })) (sym c.in-Counting.is)
          (turned_counting c.args.reader.now c.turn-end.new.reader c.in-Counting.key c.turn-end.new.self joined turn.rows turn.counts turn.bounded turn.reader turn.grows turn.within turn.gets_on);
    }
