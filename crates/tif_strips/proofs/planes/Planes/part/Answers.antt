use Rattle.std.proofs.Common.{◌-◌, arith}
use Rattle.tif_strips.specs.Planes.{aheads_of}
use Rattle.tif_strips.proofs.Ahead.{enough-later, three-later}
use Rattle.tif_strips.proofs.planes.Planes.part.Goals as goal

pub skip-requires-2 : goal.skip-requires-2
skip-requires-2 c =
    let before = enough-later c.args.from (c.args.row - c.args.from) c.args.row _ (aheads_of c.skip.new.self) c.skip.ensures.left (omega arith) c.requires.enough in
    record {
      enough = enough-later c.args.count (c.args.row - c.args.from - c.args.count)
          (c.args.row - c.args.from) _ _ c.fill.ensures.left (omega arith) before;
    }

pub returns-clause-left : goal.returns-clause-left
returns-clause-left c =
    three-later c.args.from c.args.count c.args.row _ _ _ _ c.skip.ensures.left c.fill.ensures.left c.skip-2.ensures.left c.requires.within
