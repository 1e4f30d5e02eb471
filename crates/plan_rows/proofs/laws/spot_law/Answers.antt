use Rattle.plan_rows.proofs.SpotLemmas.{groups_alike, places_alike, keeps_alike, files_alike}
use Rattle.plan_rows.proofs.laws.spot_law.Goals as goal

pub returns-clause-groups : goal.returns-clause-groups
returns-clause-groups c = groups_alike

pub returns-clause-rows : goal.returns-clause-rows
returns-clause-rows c = places_alike

pub returns-clause-keeps : goal.returns-clause-keeps
returns-clause-keeps c = keeps_alike

pub returns-clause-files : goal.returns-clause-files
returns-clause-files c = files_alike
