use Rattle.std.proofs.Common.{ℕ, List, [], ◌++◌, replicate, sym, ap, ◌∙◌}
use Rattle.tif_plate.specs.Plate.{strip_count}
use Rattle.plate_bytes.specs.Made.{PlateState, so_far}
use Rattle.plate_bytes.specs.Strips.{StripState}
use Rattle.plate_bytes.proofs.Growing.{so_far-none}
use Rattle.plate_bytes.proofs.made.PlateBytes.restart.Goals as goal

pub returns-clause-rows : goal.returns-clause-rows
returns-clause-rows c =
    let old : StripState = c.self.inside.strips in
    let new : StripState = c.clear-2.new.self in
    let next : PlateState = record {
      width = new.sides.width;
      height = new.sides.height;
      dpi = new.sides.dpi;
      bytes = c.extend_from_slice.new.self.items;
      counts = new.counts;
      ends = c.clear-3.new.self.items;
    } in
    so_far-none next
    (c.in_ok-extend_from_slice.ensures.items ∙ ap (λ l. l ++ c.plate_front.result) c.clear.ensures.items ∙ c.plate_front.ensures)
    (ap {A = StripState} (λ s. s.counts) c.clear-2.ensures
    ∙ ap {A = ℕ} {B = List ℕ} (λ n. replicate {A = ℕ} n 0) c.self.invariant.0.strips
    ∙ ap {A = StripState} (λ s. replicate {A = ℕ} (strip_count s.sides.width s.sides.height) 0) (sym c.clear-2.ensures))
    c.clear-3.ensures.items
    ∙ ap {A = StripState} (λ s. so_far s.sides.width s.sides.height s.sides.dpi []) c.clear-2.ensures
    ∙ ap {A = PlateState} (λ p. so_far p.width p.height p.dpi []) c.self.view_is
