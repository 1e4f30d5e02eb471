use Rattle.std.proofs.Common.{[], ◌++◌, replicate, sym, ap, ◌∙◌}
use Rattle.tif_plate.specs.Plate.{strip_count}
use Rattle.tif_plate.specs.declared.sides.Sides.{Sides}
use Rattle.plate_bytes.specs.Made.{PlateState, so_far}
use Rattle.plate_bytes.proofs.Growing.{so_far-none}
use Rattle.plate_bytes.proofs.made.PlateBytes.new.Goals as goal

pub returns : goal.returns
returns c =
    let new : PlateState = record {
      width = c.in_ok-strips.strips.sides.width;
      height = c.in_ok-strips.strips.sides.height;
      dpi = c.in_ok-strips.strips.sides.dpi;
      bytes = c.extend_from_slice.new.self.items;
      counts = c.in_ok-strips.strips.counts;
      ends = c.new-2.result.items;
    } in
    so_far-none new
    (c.in_ok-extend_from_slice.ensures.items ∙ ap (λ l. l ++ c.plate_front.result) c.new-bytes.ensures.items ∙ c.plate_front.ensures)
    (c.in_ok-strips.ensures.counts ∙ ap {A = Sides} (λ s. replicate (strip_count s.width s.height) 0) (sym c.in_ok-strips.ensures.sides))
    c.new-2.ensures.items
    ∙ ap {A = Sides} (λ s. so_far s.width s.height s.dpi []) c.in_ok-strips.ensures.sides
