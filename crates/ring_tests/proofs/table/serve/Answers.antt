use Rattle.std.proofs.Common.{◌≢◌, ◌∙◌, arith}
use Rattle.ring_rule.specs.Views.{left_word}
use Rattle.ring_tests.proofs.Rows.{offered_fill, offered_row}
use Rattle.ring_tests.proofs.table.serve.Goals as goal

pub fill-requires : goal.fill-requires
fill-requires c =
    let w = c.args.writer.now.view in
    let joined : c.args.cursor ≢ left_word = λ e. omega arith in
    record {
      may = offered_fill 2 2 5 c.args.head c.args.reader c.args.cursor w joined c.requires;
      bytes = c.row_bytes.ensures ∙ offered_row 2 2 5 c.args.head c.args.reader c.args.cursor w c.requires;
    }
