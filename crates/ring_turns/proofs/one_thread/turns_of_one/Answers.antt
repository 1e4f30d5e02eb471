use Rattle.std.proofs.Common.{None}
use Rattle.ring_turns.proofs.one_thread.turns_of_one.Goals as goal

pub loop-look-init : goal.loop-look-init
loop-look-init g c = record {
  turned = c.turn_alone.ensures;
  may = g.met.X.TurnWith.may_again c.args.one.now c.turn_alone.new.self None None c.requires.may c.turn_alone.ensures;
}

pub loop-look-preserved : goal.loop-look-preserved
loop-look-preserved g c =
    let again = c.turn_alone-in-loop-look in
    record {
      turned = g.met.X.TurnWith.turned_again c.args.one.now c.loop-look.one again.new.self None None None c.loop-look.invariant.turned again.ensures;
      may = g.met.X.TurnWith.may_again c.loop-look.one again.new.self None None c.loop-look.invariant.may again.ensures;
    }
