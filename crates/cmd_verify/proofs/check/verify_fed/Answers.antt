use Rattle.cmd_base.proofs.Rows.{frames_in, total_in}
use Rattle.cmd_verify.proofs.Verifying.{verifies_found, verifies_lost}
use Rattle.cmd_verify.proofs.check.verify_fed.Goals as goal

pub verify-requires-clause-frames : goal.verify-requires-clause-frames
verify-requires-clause-frames g c = frames_in c.plan.result.now c.args.job.now _ c.plan.ensures.plan c.plan.ensures.valid c.requires.feed

pub verify-requires-clause-total : goal.verify-requires-clause-total
verify-requires-clause-total g c = total_in c.args.job.now _ c.rows.result.now c.rows.ensures c.requires.feed

pub returns-in-Ok-clause-verifies : goal.returns-in-Ok-clause-verifies
returns-in-Ok-clause-verifies g c =
    verifies_found g.H.Shelf c.args.shelf.now c.verify.new.shelf c.plan.result.now c.args.job.now _ c.args.out.now c.in-Ok.checked
    c.plan.ensures.plan c.plan.ensures.valid c.requires.feed c.in-Ok.ensures.found c.in-Ok.ensures.long c.in-Ok.ensures.short

pub returns-in-Err-Shelf-clause-verifies : goal.returns-in-Err-Shelf-clause-verifies
returns-in-Err-Shelf-clause-verifies g c =
    verifies_lost g.H.Shelf c.args.shelf.now c.verify.new.shelf c.plan.result.now c.args.job.now _ c.args.out.now c.in-Err-Shelf.path
    c.plan.ensures.plan c.plan.ensures.valid c.requires.feed (rw c.in-Err-Shelf.field-0-is at c.in-Err-Shelf.ensures.failed)
