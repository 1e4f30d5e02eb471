use Rattle.std.proofs.Common.{true, ap}
use Rattle.page_layers.specs.Inks.{Planes}
use Rattle.page_layers.specs.Rows.{HasSamples}
use Rattle.page_layers.proofs.Slices.{slice_written}
use Rattle.page_layers.proofs.ink_row.InkRow.set_samples.Goals as goal

pub returns-clause-cyan : goal.returns-clause-cyan
returns-clause-cyan c =
    slice_written (HasSamples c.args.inks.colour c.args.pixels.now 0 c.args.scale) _ _ _ c.deref_mut.result.now c.set_sample.new.into (ap (λ (planes : Planes). planes.cyan) c.self.view_is)
    c.deref_mut.ensures.value c.deref_mut.ensures.len c.set_sample.ensures.long c.set_sample.ensures

pub returns-clause-magenta : goal.returns-clause-magenta
returns-clause-magenta c =
    slice_written (HasSamples c.args.inks.colour c.args.pixels.now 1 c.args.scale) _ _ _ c.deref_mut-2.result.now c.set_sample-2.new.into (ap (λ (planes : Planes). planes.magenta) c.self.view_is)
    c.deref_mut-2.ensures.value c.deref_mut-2.ensures.len c.set_sample-2.ensures.long c.set_sample-2.ensures

pub returns-clause-yellow : goal.returns-clause-yellow
returns-clause-yellow c =
    slice_written (HasSamples c.args.inks.colour c.args.pixels.now 2 c.args.scale) _ _ _ c.deref_mut-3.result.now c.set_sample-3.new.into (ap (λ (planes : Planes). planes.yellow) c.self.view_is)
    c.deref_mut-3.ensures.value c.deref_mut-3.ensures.len c.set_sample-3.ensures.long c.set_sample-3.ensures

pub returns-clause-black : goal.returns-clause-black
returns-clause-black c =
    slice_written (HasSamples true c.args.pixels.now 3 c.args.scale) _ _ _ c.deref_mut-4.result.now c.set_sample-4.new.into (ap (λ (planes : Planes). planes.black) c.self.view_is)
    c.deref_mut-4.ensures.value c.deref_mut-4.ensures.len c.set_sample-4.ensures.long c.set_sample-4.ensures
