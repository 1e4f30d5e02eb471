use Rattle.plate_verify.proofs.MakeLemmas.{on_ok, fits_next, takes_row}
use Rattle.plate_verify.proofs.making.take_next.Goals as goal

pub next-requires : goal.next-requires
next-requires g c =
    fits_next c.args.plate.now _ _ c.requires.rows c.requires.row c.requires.rest c.requires.takes

pub push-requires : goal.push-requires
push-requires g c = record {
  rows = c.requires.rows;
  row = c.requires.row;
  takes = takes_row c.args.plate.now _ _ c.requires.rows c.requires.row c.requires.rest _ _ _ c.requires.takes c.next.ensures c.framed.ensures.held;
}

pub returns-clause-plate : goal.returns-clause-plate
returns-clause-plate g c =
    on_ok c.push.result _ _ c.push.ensures.rows
    (λ push rows row rest takes. push rows row (takes_row c.args.plate.now _ _ rows row rest _ _ _ takes c.next.ensures c.framed.ensures.held))
