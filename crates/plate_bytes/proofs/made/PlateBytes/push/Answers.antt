use Rattle.std.proofs.Common.{◌≡◌, ℕ, ◌+◌, ◌/◌, ◌<◌, List, [], ◌∷◌, ◌++◌, length, sym, ap, subst, ◌∙◌, length-append, arith}
use Rattle.tif_plate.specs.Plate.{rows_each}
use Rattle.plate_bytes.specs.Made.{PlateState, IsPlate}
use Rattle.plate_bytes.specs.Strips.{StripState, counted, row_after}
use Rattle.plate_bytes.proofs.Counts.{length-counted, next-more, packing-few}
use Rattle.plate_bytes.proofs.Growing.{HasParts, parts, end-fits, so_far-more}
use Rattle.plate_bytes.proofs.made.PlateBytes.push.Goals as goal

pub append-requires : goal.append-requires
append-requires c =
    let is : IsPlate c.args.self.now = subst {A = PlateState} (λ p. IsPlate p) c.self.view_is c.self.invariant.0 in
    let bytes : length c.self.inside.bytes.items ≡ length c.args.self.now.bytes = ap {A = PlateState} (λ p. length p.bytes) c.self.view_is in
    omega (arith, bytes, end-fits c.args.self.now c.requires.rows c.requires.row c.args.packed.now is c.requires.takes)

pub count-requires : goal.count-requires
count-requires c =
    let is : IsPlate c.args.self.now = subst {A = PlateState} (λ p. IsPlate p) c.self.view_is c.self.invariant.0 in
    omega (arith, packing-few c.args.self.now.width c.requires.row is.width.1 c.requires.takes.size, ap length c.requires.takes.is)

pub invariant_of-self-2 : goal.invariant_of-self-2
invariant_of-self-2 c =
    let p : HasParts c.args.self.now c.requires.rows = parts c.args.self.now c.requires.rows c.requires.takes.has in
    let old : StripState = c.self.inside.strips in
    let new : StripState = c.count.new.self in
    let here : length c.self.inside.ends.items ≡ length c.args.self.now.ends = ap {A = PlateState} (λ p. length p.ends) c.self.view_is in
    let high : old.sides.height ≡ c.args.self.now.height = ap {A = PlateState} (λ p. p.height) c.self.view_is in
    let last : List ℕ = length (c.self.inside.bytes.items ++ c.args.packed.now) ∷ [] in
    let more : length c.append.new.ends.items ≡ length c.self.inside.ends.items + 1 = ap length c.in_ok-append.ensures.ends ∙ length-append c.self.inside.ends.items last in
    let next : old.next ≡ length c.self.inside.ends.items = c.self.invariant.1 (omega (arith, p.many, here, high, c.requires.takes.more)) in
    let P : StripState → Type 0 = λ s. IsPlate (record { width = s.sides.width; height = s.sides.height; dpi = s.sides.dpi; bytes = c.append.new.bytes.items; counts = s.counts; ends = c.append.new.ends.items }) in
    let Q : StripState → Type 0 = λ s. length c.append.new.ends.items < s.sides.height → s.next ≡ length c.append.new.ends.items in (
      subst P (sym c.count.ensures)
          (record {
            width = c.self.invariant.0.width;
            height = c.self.invariant.0.height;
            dpi = c.self.invariant.0.dpi;
            strips = length-counted old.next (old.next / rows_each old.sides.width) (length c.args.packed.now) old.counts ∙ c.self.invariant.0.strips;
            rows = omega (arith, p.many, here, high, more, c.requires.takes.more);
          }),
      subst Q (sym c.count.ensures) (λ less. ap (row_after old.sides.height) next ∙ next-more old.sides.height (length c.self.inside.ends.items) (omega (arith, more)) ∙ sym more),
    )

pub returns-clause-rows : goal.returns-clause-rows
returns-clause-rows c =
    let old : StripState = c.self.inside.strips in
    λ rows row takes.
    let p : HasParts c.args.self.now rows = parts c.args.self.now rows takes.has in
    let here : length c.self.inside.ends.items ≡ length c.args.self.now.ends = ap {A = PlateState} (λ p. length p.ends) c.self.view_is in
    let high : old.sides.height ≡ c.args.self.now.height = ap {A = PlateState} (λ p. p.height) c.self.view_is in
    let next : old.next ≡ length c.self.inside.ends.items = c.self.invariant.1 (omega (arith, p.many, here, high, takes.more)) in
    so_far-more c.args.self.now _ rows row c.args.packed.now takes
    (record {
      width = ap {A = StripState} (λ s. s.sides.width) c.count.ensures ∙ ap {A = PlateState} (λ p. p.width) c.self.view_is;
      height = ap {A = StripState} (λ s. s.sides.height) c.count.ensures ∙ ap {A = PlateState} (λ p. p.height) c.self.view_is;
      dpi = ap {A = StripState} (λ s. s.sides.dpi) c.count.ensures ∙ ap {A = PlateState} (λ p. p.dpi) c.self.view_is;
    })
    (c.in_ok-append.ensures.bytes ∙ ap {A = PlateState} (λ p. p.bytes ++ c.args.packed.now) c.self.view_is)
    (c.in_ok-append.ensures.ends ∙ ap {A = PlateState} (λ p. p.ends ++ length (p.bytes ++ c.args.packed.now) ∷ []) c.self.view_is)
    (ap {A = StripState} (λ s. s.counts) c.count.ensures
    ∙ ap (λ y. counted y (y / rows_each old.sides.width) (length c.args.packed.now) old.counts) next
    ∙ ap {A = PlateState} (λ p. counted (length p.ends) (length p.ends / rows_each p.width) (length c.args.packed.now) p.counts) c.self.view_is)
