use Rattle.std.proofs.Common.{◌≡◌, ◌*◌, ◌-◌, length, drop, get_or, sym, ap, ◌∙◌, arith, length-take, length-drop}
use Rattle.tif_dir.proofs.Values.{number_of-take, length-values_in, get_or-values_in, value-fits}
use Rattle.tif_dir.specs.Directory.{size_of}
use Rattle.tif_dir.proofs.field.Field.at.Goals as goal

pub slice_bounds-read-count : goal.slice_bounds-read-count
slice_bounds-read-count c =
    let f = c.self.inside in
    let fits = value-fits f.order f.kind f.count f.bytes.now c.args.self.now c.args.i c.self.view_is c.self.invariant c.requires in
    rw c.size.ensures (omega (arith, fits))

pub slice_bounds-read-start : goal.slice_bounds-read-start
slice_bounds-read-start c =
    let f = c.self.inside in
    let fits = value-fits f.order f.kind f.count f.bytes.now c.args.self.now c.args.i c.self.view_is c.self.invariant c.requires in
    rw c.size.ensures (omega (arith, fits))

pub read-requires : goal.read-requires
read-requires c =
    let f = c.self.inside in
    let fits = value-fits f.order f.kind f.count f.bytes.now c.args.self.now c.args.i c.self.view_is c.self.invariant c.requires in
    rw c.size.ensures (simp (length-take, length-drop) (omega (arith, fits)))

pub returns : goal.returns
returns c =
    let f = c.self.inside in
    let fits = value-fits f.order f.kind f.count f.bytes.now c.args.self.now c.args.i c.self.view_is c.self.invariant c.requires in
    let counted : length c.args.self.now ≡ f.count = ap length (sym c.self.view_is) ∙ length-values_in f.order f.kind f.count f.bytes.now in
    let value = get_or-values_in f.order f.kind f.count f.bytes.now c.args.i (omega arith) in
    let start = size_of f.kind * c.args.i in
    let own = number_of-take f.order (size_of f.kind) (length f.bytes.now - start) (drop start f.bytes.now) (omega (arith, fits)) in
    (rw c.size.ensures at c.read.ensures) ∙ own ∙ sym value ∙ ap (λ values. get_or values c.args.i 0) c.self.view_is
