use Rattle.cmd_base.proofs.Rows.{frames_in, total_in}
use Rattle.verify_tests.proofs.feed.are_same.Goals as goal

pub verify-requires-clause-frames : goal.verify-requires-clause-frames
verify-requires-clause-frames g c = frames_in c.plan.result.now c.args.job.now _ c.plan.ensures.plan c.plan.ensures.valid c.requires

pub verify-requires-clause-total : goal.verify-requires-clause-total
verify-requires-clause-total g c = total_in c.args.job.now _ c.rows.result.now c.rows.ensures c.requires
