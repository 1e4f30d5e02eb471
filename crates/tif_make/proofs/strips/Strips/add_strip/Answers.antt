use Rattle.std.proofs.Common.{arith}
use Rattle.tif_make.specs.Strips.{strip}
use Rattle.tif_make.proofs.Growing.{grows-one}
use Rattle.tif_make.proofs.strips.Strips.add_strip.Goals as goal

pub returns : goal.returns
returns c =
    grows-one c.args.first (strip c.args.form.now c.args.rows.now c.args.plane c.args.i) c.args.self.now _ c.len-place.result c.len.result
    c.in_ok-put_strip.ensures (omega arith) c.in_ok-push.ensures.items (omega arith) c.in_ok-push-2.ensures.items
