use Rattle.plan_json.proofs.Law.{law}
use Rattle.plan_json.proofs.laws.plan_one_is_plan_two.Goals as goal

pub returns : goal.returns
returns c = law
