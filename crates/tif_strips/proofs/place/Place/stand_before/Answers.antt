use Rattle.std.proofs.Common.{◌-◌, ◌/◌, ◌%◌, ◌<◌, ap, ◌∙◌, arith}
use Rattle.tif_strips.specs.declared.shape.Shape.{Shape}
use Rattle.tif_strips.specs.Strips.{strip_rows}
use Rattle.tif_strips.proofs.Places.{IsPlace-inside}
use Rattle.tif_strips.proofs.Shapes.{row_in_strip, strip_of_row}
use Rattle.tif_strips.proofs.place.Place.stand_before.Goals as goal

pub begin-self-requires-clause-within : goal.begin-self-requires-clause-within
begin-self-requires-clause-within c =
    let long = ap (λ (s : Shape). s.length) c.shape-shape.ensures.shape in
    let below : c.args.y < c.args.table.now.shape.length = omega arith in
    rw c.shape-shape.ensures.shape (strip_of_row c.args.table.now.shape c.args.y c.requires.place.striped below)

pub begin-self-requires-clause-above : goal.begin-self-requires-clause-above
begin-self-requires-clause-above c =
    let long = ap (λ (s : Shape). s.length) c.shape-shape.ensures.shape in
    let below : c.args.y < c.args.table.now.shape.length = omega arith in
    rw c.shape-shape.ensures.shape (row_in_strip c.args.table.now.shape c.args.y c.requires.place.striped below)

pub strip_rows-requires-clause-within : goal.strip_rows-requires-clause-within
strip_rows-requires-clause-within c =
    let long = ap (λ (s : Shape). s.length) c.shape-shape.ensures.shape in
    let below : c.args.y < c.args.table.now.shape.length = omega arith in
    rw c.shape-shape.ensures.shape (strip_of_row c.args.table.now.shape c.args.y c.requires.place.striped below)

pub overflow_sub-self : goal.overflow_sub-self
overflow_sub-self c =
    let long = ap (λ (s : Shape). s.length) c.shape-shape.ensures.shape in
    let below : c.args.y < c.args.table.now.shape.length = omega arith in
    let under = row_in_strip c.args.table.now.shape c.args.y c.requires.place.striped below in
    rw (c.strip_rows.ensures.rows, c.shape-shape.ensures.shape) (omega (arith, under))

pub returns-clause-place : goal.returns-clause-place
returns-clause-place c =
    let image = c.args.table.now in
    let long = ap (λ (s : Shape). s.length) c.shape-shape.ensures.shape in
    let below : c.args.y < image.shape.length = omega arith in
    let own = c.shape-shape.result in
    let strip = c.args.y / own.rows_per_strip in
    let above = c.args.y % own.rows_per_strip in
    IsPlace-inside image c.args.self.now c.args.y strip above (c.strip_rows.result - above) c.begin-self.result c.requires.place below
    (ap (λ (s : Shape). c.args.y / s.rows_per_strip) c.shape-shape.ensures.shape) (ap (λ (s : Shape). c.args.y % s.rows_per_strip) c.shape-shape.ensures.shape)
    (ap (λ n. n - above) (c.strip_rows.ensures.rows ∙ ap (λ (s : Shape). strip_rows s strip) c.shape-shape.ensures.shape)) c.begin-self.ensures
