use Rattle.std.proofs.Common.{ap, ◌∙◌}
use Rattle.plan_json.specs.Files.{texts}
use Rattle.plan_json.proofs.Mentions.{shown-insert_key, shown-index_of}
use Rattle.plan_json.proofs.files.noted.Goals as goal

pub returns-clause-files : goal.returns-clause-files
returns-clause-files c = ap texts c.in_ok-found.ensures.keys ∙ shown-insert_key c.args.files.now.keys c.args.file

pub returns-clause-index : goal.returns-clause-index
returns-clause-index c = c.in_ok-found.ensures.index ∙ shown-index_of c.args.files.now.keys c.args.file.now
