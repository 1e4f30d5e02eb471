use Rattle.std.proofs.Common.{true, ap}
use Rattle.page_layers.specs.Inks.{Planes}
use Rattle.page_layers.specs.Rows.{IsInkOf}
use Rattle.page_layers.proofs.Slices.{IsInkOf_kept, IsInkOf_read, slice_written}
use Rattle.page_layers.proofs.ink_row.InkRow.read_planes.Goals as goal

pub returns-then-not-inks-clause-cyan : goal.returns-then-not-inks-clause-cyan
returns-then-not-inks-clause-cyan c = IsInkOf_kept c.args.inks.colour c.args.image.now c.args.y 0 c.args.first _ _ c.if-not-inks.true (ap (λ (planes : Planes). planes.cyan) c.self.view_is)

pub returns-then-not-inks-clause-magenta : goal.returns-then-not-inks-clause-magenta
returns-then-not-inks-clause-magenta c = IsInkOf_kept c.args.inks.colour c.args.image.now c.args.y 1 c.args.first _ _ c.if-not-inks.true (ap (λ (planes : Planes). planes.magenta) c.self.view_is)

pub returns-then-not-inks-clause-yellow : goal.returns-then-not-inks-clause-yellow
returns-then-not-inks-clause-yellow c = IsInkOf_kept c.args.inks.colour c.args.image.now c.args.y 2 c.args.first _ _ c.if-not-inks.true (ap (λ (planes : Planes). planes.yellow) c.self.view_is)

pub returns-then-not-inks-clause-black : goal.returns-then-not-inks-clause-black
returns-then-not-inks-clause-black c =
    slice_written (IsInkOf true c.args.image.now c.args.y 3 c.args.first) _ _ _ c.deref_mut.result.now c.reach_planes.new.black (ap (λ (planes : Planes). planes.black) c.self.view_is)
    c.deref_mut.ensures.value c.deref_mut.ensures.len c.reach_planes.auto.black
    (IsInkOf_read _ c.args.image.now c.args.y 3 c.args.first _ _ c.reach_planes.auto.black c.reach_planes.ensures.black)

pub returns-clause-cyan : goal.returns-clause-cyan
returns-clause-cyan c =
    slice_written (IsInkOf c.args.inks.colour c.args.image.now c.args.y 0 c.args.first) _ _ _ c.deref_mut-2.result.now c.reach_planes-2.new.cyan (ap (λ (planes : Planes). planes.cyan) c.self.view_is)
    c.deref_mut-2.ensures.value c.deref_mut-2.ensures.len c.reach_planes-2.auto.cyan
    (IsInkOf_read _ c.args.image.now c.args.y 0 c.args.first _ _ c.reach_planes-2.auto.cyan c.reach_planes-2.ensures.cyan)

pub returns-clause-magenta : goal.returns-clause-magenta
returns-clause-magenta c =
    slice_written (IsInkOf c.args.inks.colour c.args.image.now c.args.y 1 c.args.first) _ _ _ c.deref_mut-3.result.now c.reach_planes-2.new.magenta (ap (λ (planes : Planes). planes.magenta) c.self.view_is)
    c.deref_mut-3.ensures.value c.deref_mut-3.ensures.len c.reach_planes-2.auto.magenta
    (IsInkOf_read _ c.args.image.now c.args.y 1 c.args.first _ _ c.reach_planes-2.auto.magenta c.reach_planes-2.ensures.magenta)

pub returns-clause-yellow : goal.returns-clause-yellow
returns-clause-yellow c =
    slice_written (IsInkOf c.args.inks.colour c.args.image.now c.args.y 2 c.args.first) _ _ _ c.deref_mut-4.result.now c.reach_planes-2.new.yellow (ap (λ (planes : Planes). planes.yellow) c.self.view_is)
    c.deref_mut-4.ensures.value c.deref_mut-4.ensures.len c.reach_planes-2.auto.yellow
    (IsInkOf_read _ c.args.image.now c.args.y 2 c.args.first _ _ c.reach_planes-2.auto.yellow c.reach_planes-2.ensures.yellow)

pub returns-clause-black : goal.returns-clause-black
returns-clause-black c =
    slice_written (IsInkOf true c.args.image.now c.args.y 3 c.args.first) _ _ _ c.deref_mut-5.result.now c.reach_planes-2.new.black (ap (λ (planes : Planes). planes.black) c.self.view_is)
    c.deref_mut-5.ensures.value c.deref_mut-5.ensures.len c.reach_planes-2.auto.black
    (IsInkOf_read _ c.args.image.now c.args.y 3 c.args.first _ _ c.reach_planes-2.auto.black c.reach_planes-2.ensures.black)
