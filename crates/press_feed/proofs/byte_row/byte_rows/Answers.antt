-- Each row has so many bytes, since it has no pixel set.
use Rattle.std.proofs.Common.{◌∙◌, length, ap, arith}
use Rattle.std.proofs.lemmas.List.{length-replicate}
use Rattle.press_feed.proofs.byte_row.byte_rows.Goals as goal

pub returns-clause-rows : goal.returns-clause-rows
returns-clause-rows c = record {
  count_is = omega arith;
  long = λ k d less. ap length (c.loop-row.invariant.each k d less) ∙ length-replicate c.args.len 0;
}
