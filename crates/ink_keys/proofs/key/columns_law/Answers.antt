use Rattle.std.proofs.Common.{arith}
use Rattle.ink_keys.proofs.Columns.{has_columns}
use Rattle.ink_keys.proofs.key.columns_law.Goals as goal

pub returns : goal.returns
returns c = has_columns c.args.width c.args.keys c.args.k c.args.x (omega arith) (omega arith)
