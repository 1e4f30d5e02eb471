use Rattle.std.proofs.Common.{rules, ◌≡◌, ◌-◌, ◌/◌, ◌*◌, ◌+◌, ◌<◌, true, ap, subst}
use Rattle.tif_strips.specs.Strips.{Image, strip_count, strips_per_plane}
use Rattle.tif_strips.specs.Marks.{MarksOf, marks_per_strip}
use Rattle.tif_strips.proofs.Marks.{mark_of_row, mark_within}
use Rattle.tif_strips.proofs.strip_table.StripTable.mark.Goals as goal

pub returns-clause-mark : goal.returns-clause-mark
returns-clause-mark c =
    let image = c.args.self.now in
    let shape : c.self.inside.shape ≡ image.shape = ap (λ (i : Image). i.shape) c.self.view_is in
    let marks : MarksOf image c.self.inside.marks.now = subst {A = Image} (λ i. MarksOf i c.self.inside.marks.now) c.self.view_is c.self.invariant.marks_are in
    let number : c.strip_number-number.result ≡ c.args.plane * strips_per_plane image.shape + c.args.i = rw shape at c.strip_number-number.ensures.number in
    let within : c.strip_number-number.result < strip_count image.shape = rw shape at c.strip_number-number.ensures.within in
    let per : c.marks_per_strip.result ≡ marks_per_strip image.shape = rw shape at c.marks_per_strip.ensures.marks in
    let own : c.self.inside.shape.packed ≡ true = search rules in
    let packed : image.shape.packed ≡ true = rw shape at own in
    let under : c.args.above / 64 - 1 < c.marks_per_strip.result = rw per (mark_within image.shape c.args.i c.args.above packed c.requires.above c.if-marked-eq0.false) in
    rw (← number, c.mark_at.ensures) (mark_of_row image c.marks_per_strip.result c.strip_number-number.result c.args.above c.self.inside.marks.now marks per within under c.if-marked-eq0.false)
