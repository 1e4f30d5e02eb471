use Rattle.std.proofs.Common.{◌*◌, ◌∙◌, ap, sum_by}
use Rattle.drill_mem.specs.Dots.{bytes_of, file_dots}
use Rattle.drill_mem.proofs.Plates.{all_plates}
use Rattle.drill_mem.proofs.dots.count_dots.Goals as goal

pub returns : goal.returns
returns c = λ dpi plates is sides.
    c.dots_in.ensures
    ∙ ap (λ n. sum_by (file_dots (n * c.args.height)) (bytes_of c.args.files.now)) c.row_bytes.ensures
    ∙ all_plates c.args.width dpi c.args.height (bytes_of c.args.files.now) plates is sides
