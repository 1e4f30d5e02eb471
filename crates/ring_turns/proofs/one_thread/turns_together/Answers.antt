use Rattle.std.proofs.Common.{None}
use Rattle.ring_turns.proofs.OneThread.{are_turned_again, may_all_again}
use Rattle.ring_turns.proofs.one_thread.turns_together.Goals as goal

pub loop-pass-init : goal.loop-pass-init
loop-pass-init g c = record {
  one = c.ask_all.ensures.one;
  may_one = g.met.W.TurnWith.may_again c.args.one.now c.ask_all.new.one None None c.requires.may_one c.ask_all.ensures.one;
  turned = c.ask_all.ensures.turned;
  may = may_all_again g.X.TurnWith.may g.X.TurnWith.turned c.args.all.now c.args.others.now c.ask_all.new.all c.ask_all.new.others c.ask_all.auto.all g.met.X.TurnWith.may_again c.requires.may c.ask_all.ensures.turned;
}

pub loop-pass-preserved : goal.loop-pass-preserved
loop-pass-preserved g c =
    let again = c.ask_all-in-loop-pass in
    let it = c.loop-pass.invariant in
    record {
      one = g.met.W.TurnWith.turned_again c.args.one.now c.loop-pass.one again.new.one None None None it.one again.ensures.one;
      may_one = g.met.W.TurnWith.may_again c.loop-pass.one again.new.one None None it.may_one again.ensures.one;
      turned = are_turned_again g.X.TurnWith.turned c.args.all.now c.args.others.now c.loop-pass.all c.loop-pass.others again.new.all again.new.others again.auto.all g.met.X.TurnWith.turned_again it.turned again.ensures.turned;
      may = may_all_again g.X.TurnWith.may g.X.TurnWith.turned c.loop-pass.all c.loop-pass.others again.new.all again.new.others again.auto.all g.met.X.TurnWith.may_again it.may again.ensures.turned;
    }
