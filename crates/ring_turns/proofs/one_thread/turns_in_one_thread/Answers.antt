use Rattle.ring_turns.proofs.OneThread.{are_turned_again, may_all_again}
use Rattle.ring_turns.proofs.one_thread.turns_in_one_thread.Goals as goal

pub loop-pass-init : goal.loop-pass-init
loop-pass-init g c = record {
  turned = c.ask_each.ensures.turned;
  may = may_all_again g.X.TurnWith.may g.X.TurnWith.turned c.args.all.now c.args.others.now c.ask_each.new.all c.ask_each.new.others c.ask_each.auto.all g.met.X.TurnWith.may_again c.requires.may c.ask_each.ensures.turned;
}

pub loop-pass-preserved : goal.loop-pass-preserved
loop-pass-preserved g c =
    let again = c.ask_each-in-loop-pass in
    record {
      turned = are_turned_again g.X.TurnWith.turned c.args.all.now c.args.others.now c.loop-pass.all c.loop-pass.others again.new.all again.new.others again.auto.all g.met.X.TurnWith.turned_again c.loop-pass.invariant.turned again.ensures.turned;
      may = may_all_again g.X.TurnWith.may g.X.TurnWith.turned c.loop-pass.all c.loop-pass.others again.new.all again.new.others again.auto.all g.met.X.TurnWith.may_again c.loop-pass.invariant.may again.ensures.turned;
    }
