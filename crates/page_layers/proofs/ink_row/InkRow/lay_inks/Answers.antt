use Rattle.std.proofs.Common.{ap, rules}
use Rattle.page_layers.specs.Inks.{Planes}
use Rattle.page_layers.proofs.Slices.{LaysSpan_written}
use Rattle.page_layers.proofs.ink_row.InkRow.lay_inks.Goals as goal

pub returns-clause-cyan : goal.returns-clause-cyan
returns-clause-cyan c =
    LaysSpan_written _ _ c.args.from _ _ _ c.args.admitted.now _ _ c.deref_mut.result.now c.lay_ink.new.into (ap (λ (planes : Planes). planes.cyan) c.self.view_is)
    c.deref_mut.ensures.value c.deref_mut.ensures.len (search rules) (search rules) c.lay_ink.ensures

pub returns-clause-magenta : goal.returns-clause-magenta
returns-clause-magenta c =
    LaysSpan_written _ _ c.args.from _ _ _ c.args.admitted.now _ _ c.deref_mut-2.result.now c.lay_ink-2.new.into (ap (λ (planes : Planes). planes.magenta) c.self.view_is)
    c.deref_mut-2.ensures.value c.deref_mut-2.ensures.len (search rules) (search rules) c.lay_ink-2.ensures

pub returns-clause-yellow : goal.returns-clause-yellow
returns-clause-yellow c =
    LaysSpan_written _ _ c.args.from _ _ _ c.args.admitted.now _ _ c.deref_mut-3.result.now c.lay_ink-3.new.into (ap (λ (planes : Planes). planes.yellow) c.self.view_is)
    c.deref_mut-3.ensures.value c.deref_mut-3.ensures.len (search rules) (search rules) c.lay_ink-3.ensures

pub returns-clause-black : goal.returns-clause-black
returns-clause-black c =
    LaysSpan_written _ _ c.args.from _ _ _ c.args.admitted.now _ _ c.deref_mut-4.result.now c.lay_ink-4.new.into (ap (λ (planes : Planes). planes.black) c.self.view_is)
    c.deref_mut-4.ensures.value c.deref_mut-4.ensures.len (search rules) (search rules) c.lay_ink-4.ensures
