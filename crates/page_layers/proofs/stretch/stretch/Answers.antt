use Rattle.std.proofs.Common.{arith}
use Rattle.page_layers.proofs.stretch.stretch.Goals as goal

pub copy-requires : goal.copy-requires
copy-requires c = λ n below.
    let enough = rw (c.in-1-eq1.is-0, c.in-1-eq1.is-1) at c.requires.enough in
    omega (arith, enough n (omega arith))
