use Rattle.std.proofs.Common.{◌≡◌, ◌++◌, length, ap, ◌∙◌, arith}
use Rattle.tif_plate.specs.Tail.{tail_bytes, tail_offset}
use Rattle.pr_base.specs.Offset.{with_offset}
use Rattle.plate_bytes.specs.Made.{PlateState}
use Rattle.plate_bytes.specs.Strips.{StripState}
use Rattle.plate_bytes.proofs.Growing.{front-there, whole-is}
use Rattle.plate_bytes.proofs.made.PlateBytes.finish.Goals as goal

pub close-requires : goal.close-requires
close-requires c =
    let bytes : length c.self.inside.bytes.items ≡ length c.args.self.now.bytes = ap {A = PlateState} (λ p. length p.bytes) c.self.view_is in
    omega (arith, bytes, front-there c.args.self.now c.requires.rows c.requires.has.has)

pub returns-clause-file : goal.returns-clause-file
returns-clause-file c =
    λ rows has.
    whole-is c.args.self.now _ rows has
    (record {
      width = ap {A = StripState} (λ s. s.sides.width) c.close.ensures.strips ∙ ap {A = PlateState} (λ p. p.width) c.self.view_is;
      height = ap {A = StripState} (λ s. s.sides.height) c.close.ensures.strips ∙ ap {A = PlateState} (λ p. p.height) c.self.view_is;
      dpi = ap {A = StripState} (λ s. s.sides.dpi) c.close.ensures.strips ∙ ap {A = PlateState} (λ p. p.dpi) c.self.view_is;
    })
    (c.in_ok-close.ensures.bytes
    ∙ ap {A = PlateState} (λ p. with_offset (tail_offset p.counts) (p.bytes ++ tail_bytes p.width p.height p.dpi p.counts)) c.self.view_is)
    (ap {A = StripState} (λ s. s.counts) c.close.ensures.strips ∙ ap {A = PlateState} (λ p. p.counts) c.self.view_is)
    (ap {A = PlateState} (λ p. p.ends) c.self.view_is)
