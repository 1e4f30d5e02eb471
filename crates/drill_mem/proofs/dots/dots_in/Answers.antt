use Rattle.std.proofs.Common.{◌≡◌, ◌≤◌, ◌<◌, List, ℕ, [], length, get_or, ap, sym, ◌∙◌, arith}
use Rattle.std.specs.Global.{Vec}
use Rattle.std.proofs.lemmas.List.{get_or-map, length-map}
use Rattle.drill_mem.specs.Dots.{bytes_of}
use Rattle.drill_mem.proofs.dots.dots_in.Goals as goal

pub dots_of-dots-requires : goal.dots_of-dots-requires
dots_of-dots-requires c =
    let bytes = λ (file : List ℕ × Vec ℕ). file.1.items in
    let within : c.loop-file.file-index < length (bytes_of c.args.files.now) =
    omega (arith, length-map c.args.files.now bytes, c.loop-file-test.true) in
    let long : 8 ≤ length (get_or (bytes_of c.args.files.now) c.loop-file.file-index []) =
    c.requires.plates c.loop-file.file-index [] within in
    let same : get_or (bytes_of c.args.files.now) c.loop-file.file-index [] ≡ c.deref.result.now =
    get_or-map bytes c.args.files.now c.loop-file.file-index c.file-item.result [] c.loop-file-test.true
    ∙ ap bytes (sym c.file-item.is) ∙ sym c.deref.ensures.value in
    omega (arith, ap length same, long)
