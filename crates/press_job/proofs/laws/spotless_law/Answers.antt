use Rattle.press_job.proofs.SpotlessLemmas.{plates_alike, sites_alike}
use Rattle.press_job.proofs.laws.spotless_law.Goals as goal

pub returns-clause-rows : goal.returns-clause-rows
returns-clause-rows c = plates_alike

pub returns-clause-sites : goal.returns-clause-sites
returns-clause-sites c = sites_alike
