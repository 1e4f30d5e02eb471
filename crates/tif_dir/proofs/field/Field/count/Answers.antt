use Rattle.std.proofs.Common.{sym}
use Rattle.tif_dir.proofs.Values.{length-values_in}
use Rattle.tif_dir.proofs.field.Field.count.Goals as goal

pub returns : goal.returns
returns c =
    let f = c.self.inside in
    rw (← c.self.view_is) (sym (length-values_in f.order f.kind f.count f.bytes.now))
