use Rattle.std.proofs.Common.{◌≡◌, ◌≢◌, ap, ◌∙◌}
use Rattle.tif_strips.specs.Strips.{Image, planes}
use Rattle.tif_strips.proofs.Shapes.{four_planes}
use Rattle.tif_strips.proofs.strip_table.StripTable.begin.Goals as goal

pub four-requires-clause-planes : goal.four-requires-clause-planes
four-requires-clause-planes c =
    let shape : c.self.inside.shape ≡ c.args.self.now.shape = ap (λ (i : Image). i.shape) c.self.view_is in
    let counted : c.planes.result ≡ planes c.args.self.now.shape = rw shape at c.planes.ensures.count in
    let more : planes c.args.self.now.shape ≢ 1 = λ one. c.if-planes-eq1.false (counted ∙ one) in
    (four_planes c.args.self.now.shape more).0
