use Rattle.std.proofs.Common.{◌≡◌, ◌*◌, ◌%◌, ◌≤◌, true, length, drop, refl, ap, ◌∙◌}
use Rattle.std.proofs.lemmas.List.{take_rest}
use Rattle.tif_packbits.specs.Packbits.{expansion}
use Rattle.tif_strips.specs.Planes.{ahead_of}
use Rattle.tif_strips.proofs.Marks.{behind_mark}
use Rattle.tif_strips.proofs.samples.Samples.of_row.Goals as goal

pub skip-requires-2 : goal.skip-requires-2
skip-requires-2 c =
    let packed : c.args.packed ≡ true = c.requires.packed (λ none. c.if-mark-eq0.false none) in
    let enough : c.args.above * c.args.row ≤ length (expansion c.args.stored.now) = rw packed at c.requires.enough in
    let ahead : ahead_of c.new-samples-2.result ≡ expansion (drop c.args.mark c.args.stored.now) = c.new-samples-2.ensures ∙ (rw (packed, take_rest c.args.stored.now c.args.mark) refl) in
    rw ahead (behind_mark c.args.stored.now c.args.mark c.args.row c.args.above (λ none. c.if-mark-eq0.false none) c.requires.mark enough).0

pub returns : goal.returns
returns c =
    let packed : c.args.packed ≡ true = c.requires.packed (λ none. c.if-mark-eq0.false none) in
    let enough : c.args.above * c.args.row ≤ length (expansion c.args.stored.now) = rw packed at c.requires.enough in
    let ahead : ahead_of c.new-samples-2.result ≡ expansion (drop c.args.mark c.args.stored.now) = c.new-samples-2.ensures ∙ (rw (packed, take_rest c.args.stored.now c.args.mark) refl) in
    let behind = behind_mark c.args.stored.now c.args.mark c.args.row c.args.above (λ none. c.if-mark-eq0.false none) c.requires.mark enough in
    c.skip-2.ensures ∙ ap (drop (c.args.above % 64 * c.args.row)) ahead ∙ behind.1 ∙ (rw packed refl)
