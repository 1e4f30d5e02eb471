use Rattle.std.proofs.Common.{arith}
use Rattle.job_gen.proofs.ImageRows.{mask_row_end, mask_row_more}
use Rattle.job_gen.proofs.images.put_mask_row.Goals as goal

pub loop-j-preserved : goal.loop-j-preserved
loop-j-preserved c =
    mask_row_more c.args.half c.loop-j.j c.args.rows.now.items c.loop-j.rows.items c.push.new.self.items c.mask_byte.result c.loop-j.invariant
    c.in_ok-push.ensures.items c.mask_byte.ensures

pub returns : goal.returns
returns c = mask_row_end c.args.half c.args.y c.loop-j.j c.args.rows.now.items c.loop-j.rows.items (omega arith) c.loop-j.invariant
