use Rattle.serde_json.proofs.Views.{get_item_within, get_item_past}
use Rattle.plan_parts.proofs.list.Items.get.Goals as goal

pub returns-then-i-self-clause-value : goal.returns-then-i-self-clause-value
returns-then-i-self-clause-value c =
    get_item_within c.args.self.now.values.now c.args.i c.index-self-i.result c.if-i-self.true

pub returns-else-i-self-clause-value : goal.returns-else-i-self-clause-value
returns-else-i-self-clause-value c = get_item_past c.args.self.now.values.now c.args.i c.if-i-self.false
