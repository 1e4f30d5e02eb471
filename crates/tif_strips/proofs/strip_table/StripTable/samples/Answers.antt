use Rattle.std.proofs.Common.{◌≡◌, ◌*◌, drop, ap, ◌∙◌}
use Rattle.tif_strips.specs.declared.shape.Shape.{Shape}
use Rattle.tif_strips.specs.Strips.{Image, plane_row_length, samples_in}
use Rattle.tif_strips.proofs.Places.{above_enough}
use Rattle.tif_strips.proofs.Shapes.{strip_rows-within}
use Rattle.tif_strips.proofs.strip_table.StripTable.samples.Goals as goal

pub of_row-requires-clause-mark : goal.of_row-requires-clause-mark
of_row-requires-clause-mark c =
    let shape : c.self.inside.shape ≡ c.args.self.now.shape = ap (λ (i : Image). i.shape) c.self.view_is in
    let row : c.plane_row_len-row.result ≡ plane_row_length c.args.self.now.shape = rw shape at c.plane_row_len-row.ensures.len in
    rw (c.stored-stored.ensures, row) c.mark-mark.ensures.mark

pub of_row-requires-clause-short : goal.of_row-requires-clause-short
of_row-requires-clause-short c =
    let shape : c.self.inside.shape ≡ c.args.self.now.shape = ap (λ (i : Image). i.shape) c.self.view_is in
    (c.plane_row_len-row.ensures.within, strip_rows-within c.self.inside.shape c.args.i c.args.above c.self.invariant.striped (rw shape c.requires.above))

pub of_row-requires-clause-enough : goal.of_row-requires-clause-enough
of_row-requires-clause-enough c =
    let image = c.args.self.now in
    let shape : c.self.inside.shape ≡ image.shape = ap (λ (i : Image). i.shape) c.self.view_is in
    let row : c.plane_row_len-row.result ≡ plane_row_length image.shape = rw shape at c.plane_row_len-row.ensures.len in
    rw (row, shape, c.stored-stored.ensures) (above_enough image.shape image.bytes c.args.plane c.args.i c.args.above c.requires.passed c.requires.plane c.requires.within c.requires.above)

pub returns : goal.returns
returns c =
    let image = c.args.self.now in
    let shape : c.self.inside.shape ≡ image.shape = ap (λ (i : Image). i.shape) c.self.view_is in
    let row : c.plane_row_len-row.result ≡ plane_row_length image.shape = rw shape at c.plane_row_len-row.ensures.len in
    c.of_row.ensures ∙ ap (λ n. drop (c.args.above * n) (samples_in c.self.inside.shape.packed c.stored-stored.result.now)) row
    ∙ ap (λ (s : Shape). drop (c.args.above * plane_row_length image.shape) (samples_in s.packed c.stored-stored.result.now)) shape
    ∙ ap (λ own. drop (c.args.above * plane_row_length image.shape) (samples_in image.shape.packed own)) c.stored-stored.ensures
