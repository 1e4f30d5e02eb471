use Rattle.replate_law.proofs.Parts as parts
use Rattle.replate_law.proofs.Sites as sites
use Rattle.replate_law.proofs.laws.part_law.Goals as goal

pub returns-clause-turned : goal.returns-clause-turned
returns-clause-turned c = parts.turned

pub returns-clause-unmade : goal.returns-clause-unmade
returns-clause-unmade c = parts.unmade

pub returns-clause-same : goal.returns-clause-same
returns-clause-same c = parts.same

pub returns-clause-files : goal.returns-clause-files
returns-clause-files c = sites.files
