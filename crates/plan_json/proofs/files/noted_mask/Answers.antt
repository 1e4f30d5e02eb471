use Rattle.plan_json.proofs.Mentions.{mask-some, mask-none}
use Rattle.plan_json.proofs.files.noted_mask.Goals as goal

pub returns-in_ok-noted-in-Some : goal.returns-in_ok-noted-in-Some
returns-in_ok-noted-in-Some c = rw (c.in-Some.is, ← c.as_str.ensures) (mask-some _ _ _ _ c.in_ok-noted-in-Some.ensures.files c.in_ok-noted-in-Some.ensures.index)

pub returns-in-None : goal.returns-in-None
returns-in-None c = rw c.in-None.is (mask-none _)
