use Rattle.std.proofs.Common.{◌/◌, length, arith}
use Rattle.pr_ports.proofs.Offsets.{half_within}
use Rattle.pr_ports.proofs.comparing.+comparing.Goals as goal

pub overflow_mul-half : goal.overflow_mul-half
overflow_mul-half g t c = omega (arith, c.requires, half_within (length c.args.bytes.now) (length c.args.room.now / 262144))

pub overflow_add-middle : goal.overflow_add-middle
overflow_add-middle g t c = omega (arith, c.requires, half_within (length c.args.bytes.now) (length c.args.room.now / 262144))

pub split_at-requires : goal.split_at-requires
split_at-requires g t c = half_within (length c.args.bytes.now) (length c.args.room.now / 262144)
