use Rattle.std.proofs.Common.{◌∙◌, ap, arith}
use Rattle.std.proofs.lemmas.List.{take_rest}
use Rattle.tif_packbits.specs.Packbits.{run_len}
use Rattle.tif_packbits.proofs.Pairs.{run_from_pairs, literal_from_pairs, pairs_behind}
use Rattle.tif_packbits.proofs.row_front.front_by.Goals as goal

pub returns-then-pairs-eq3 : goal.returns-then-pairs-eq3
returns-then-pairs-eq3 c =
    let long : _ = run_from_pairs c.args.row.now c.args.pairs c.requires.block c.requires.pairs c.if-pairs-eq3.true in
    (omega (arith, c.run_by.ensures), c.run_by.ensures)

pub returns-in-None : goal.returns-in-None
returns-in-None c =
    (literal_from_pairs c.args.row.now c.args.pairs c.requires.block c.requires.pairs c.if-pairs-eq3.false, c.front_literal.ensures)

pub run_by-run-requires-clause-pairs : goal.run_by-run-requires-clause-pairs
run_by-run-requires-clause-pairs c = pairs_behind c.args.row.now c.args.pairs c.in-Some.n (omega arith) c.requires.pairs

pub returns-in-Some : goal.returns-in-Some
returns-in-Some c =
    let is : _ = c.run_by-run.ensures ∙ ap run_len (take_rest c.args.row.now c.in-Some.n) in (
      literal_from_pairs c.args.row.now c.args.pairs c.requires.block c.requires.pairs c.if-pairs-eq3.false,
      c.in-Some.ensures.1,
      omega (arith, is, c.in-Some.ensures.2),
      is,
    )
