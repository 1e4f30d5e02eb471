use Rattle.std.proofs.Common.{length, arith}
use Rattle.pr_ports.proofs.Offsets.{half_within}
use Rattle.pr_ports.proofs.shares.+shares.Goals as goal

pub overflow_mul-half : goal.overflow_mul-half
overflow_mul-half g t c = omega (arith, c.requires, half_within (length c.args.into.now) (c.args.threads))

pub overflow_add-middle : goal.overflow_add-middle
overflow_add-middle g t c = omega (arith, c.requires, half_within (length c.args.into.now) (c.args.threads))

pub split_at_mut-front-requires : goal.split_at_mut-front-requires
split_at_mut-front-requires g t c = half_within (length c.args.into.now) c.args.threads
