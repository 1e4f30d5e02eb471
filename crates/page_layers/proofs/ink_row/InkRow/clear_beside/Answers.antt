use Rattle.std.proofs.Common.{true, ap}
use Rattle.page_layers.specs.Inks.{Planes}
use Rattle.page_layers.specs.Rows.{IsClearBeside}
use Rattle.page_layers.proofs.Slices.{slice_written}
use Rattle.page_layers.proofs.ink_row.InkRow.clear_beside.Goals as goal

pub returns-clause-cyan : goal.returns-clause-cyan
returns-clause-cyan c =
    slice_written (λ old new. IsClearBeside c.args.inks.colour c.args.from c.args.to new) _ _ _ c.deref_mut.result.now c.clear_beside.new.into (ap (λ (planes : Planes). planes.cyan) c.self.view_is)
    c.deref_mut.ensures.value c.deref_mut.ensures.len c.clear_beside.ensures.long c.clear_beside.ensures.clear

pub returns-clause-magenta : goal.returns-clause-magenta
returns-clause-magenta c =
    slice_written (λ old new. IsClearBeside c.args.inks.colour c.args.from c.args.to new) _ _ _ c.deref_mut-2.result.now c.clear_beside-2.new.into (ap (λ (planes : Planes). planes.magenta) c.self.view_is)
    c.deref_mut-2.ensures.value c.deref_mut-2.ensures.len c.clear_beside-2.ensures.long c.clear_beside-2.ensures.clear

pub returns-clause-yellow : goal.returns-clause-yellow
returns-clause-yellow c =
    slice_written (λ old new. IsClearBeside c.args.inks.colour c.args.from c.args.to new) _ _ _ c.deref_mut-3.result.now c.clear_beside-3.new.into (ap (λ (planes : Planes). planes.yellow) c.self.view_is)
    c.deref_mut-3.ensures.value c.deref_mut-3.ensures.len c.clear_beside-3.ensures.long c.clear_beside-3.ensures.clear

pub returns-clause-black : goal.returns-clause-black
returns-clause-black c =
    slice_written (λ old new. IsClearBeside true c.args.from c.args.to new) _ _ _ c.deref_mut-4.result.now c.clear_beside-4.new.into (ap (λ (planes : Planes). planes.black) c.self.view_is)
    c.deref_mut-4.ensures.value c.deref_mut-4.ensures.len c.clear_beside-4.ensures.long c.clear_beside-4.ensures.clear

pub returns-clause-spot : goal.returns-clause-spot
returns-clause-spot c =
    slice_written (λ old new. IsClearBeside c.args.inks.spot c.args.from c.args.to new) _ _ _ c.deref_mut-5.result.now c.clear_beside-5.new.into (ap (λ (planes : Planes). planes.spot) c.self.view_is)
    c.deref_mut-5.ensures.value c.deref_mut-5.ensures.len c.clear_beside-5.ensures.long c.clear_beside-5.ensures.clear
