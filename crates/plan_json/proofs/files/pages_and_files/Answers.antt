use Rattle.std.proofs.Common.{ap, ◌∙◌}
use Rattle.plan_json.specs.Files.{texts}
use Rattle.plan_json.proofs.Mentions.{pages-placed}
use Rattle.plan_json.proofs.files.pages_and_files.Goals as goal

pub returns-clause-pages : goal.returns-clause-pages
returns-clause-pages c = (pages-placed _ _ _ _ (ap texts c.new-files.ensures.empty) c.in_ok-placed.ensures).0

pub returns-clause-files : goal.returns-clause-files
returns-clause-files c =
    c.in_ok-names.ensures ∙ ap texts c.as_slice.ensures.keys ∙ (pages-placed _ _ _ _ (ap texts c.new-files.ensures.empty) c.in_ok-placed.ensures).1
