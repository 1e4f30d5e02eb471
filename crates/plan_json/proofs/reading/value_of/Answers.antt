use Rattle.std.proofs.Common.{rules}
use Rattle.plan_json.proofs.Json.{json-some, json-none}
use Rattle.plan_json.proofs.reading.value_of.Goals as goal

pub returns-in-Ok : goal.returns-in-Ok
returns-in-Ok c = json-some _ _ c.in-Ok.ensures.ok.0 c.in-Ok.ensures.ok.1

pub returns-else-is_memory : goal.returns-else-is_memory
returns-else-is_memory c = json-none _ (c.in-Err.ensures.err (search rules))
