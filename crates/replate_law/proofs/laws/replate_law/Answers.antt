use Rattle.replate_law.proofs.Remade as remade
use Rattle.replate_law.proofs.Unmade as unmade
use Rattle.replate_law.proofs.laws.replate_law.Goals as goal

pub returns-clause-held : goal.returns-clause-held
returns-clause-held c = unmade.held

pub returns-clause-same : goal.returns-clause-same
returns-clause-same c = unmade.same

pub returns-clause-remade : goal.returns-clause-remade
returns-clause-remade c = λ before after out path old_site site made before_is after_is old_low low name told.
    remade.remade before after out path old_site site made before_is after_is old_low low name told

pub returns-clause-new_site : goal.returns-clause-new_site
returns-clause-new_site c = λ before after out site made before_is after_is low other told.
    remade.new_site before after out site made before_is after_is low other told
