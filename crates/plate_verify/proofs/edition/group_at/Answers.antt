use Rattle.plate_verify.proofs.OrderLemmas.{group_is, section_at}
use Rattle.plate_verify.proofs.edition.group_at.Goals as goal

pub returns-clause-is : goal.returns-clause-is
returns-clause-is c = group_is c.args.plan.now c.args.rows.now c.args.index c.group.result.now c.requires.rows c.group.ensures

pub returns-clause-section : goal.returns-clause-section
returns-clause-section c =
    section_at c.args.plan.now c.args.index c.group.result.now c.files-files.ensures.plan
    (group_is c.args.plan.now c.args.rows.now c.args.index c.group.result.now c.requires.rows c.group.ensures) c.requires.index
