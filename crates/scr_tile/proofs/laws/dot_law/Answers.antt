-- Both laws hold for every power of two, so for the four sides that are built.
use Rattle.scr_tile.proofs.DotLemmas.{doubled, indexes_once, prints_below}
use Rattle.scr_tile.proofs.laws.dot_law.Goals as goal

pub returns-clause-indexes : goal.returns-clause-indexes
returns-clause-indexes c =
    let d = doubled c.args.n c.requires in indexes_once c.args.n d.0 d.1

pub returns-clause-dots : goal.returns-clause-dots
returns-clause-dots c =
    let d = doubled c.args.n c.requires in prints_below c.args.n d.0 d.1
