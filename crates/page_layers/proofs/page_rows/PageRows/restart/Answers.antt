use Rattle.std.proofs.Common.{◌≡◌, length, drop, ◌∙◌, arith}
use Rattle.std.proofs.lemmas.List.{take_at}
use Rattle.page_layers.proofs.page_rows.PageRows.restart.Goals as goal

pub invariant_of-self : goal.invariant_of-self
invariant_of-self c =
    let long : length c.restart_layers.new.layers ≡ c.self.inside.layers.len = c.restart_layers.auto.layers ∙ c.deref_mut.ensures.len in
    let whole = take_at c.restart_layers.new.layers (drop (length c.restart_layers.new.layers) c.self.inside.layers.items) c.self.inside.layers.len long in
    rw whole
    (record {
      wide = c.self.invariant.wide;
      high = c.self.invariant.high;
      within = omega arith;
      layers_fit = omega (arith, c.self.invariant.layers_fit);
      rooms_fit = omega (arith, c.self.invariant.rooms_fit);
      ready = c.restart_layers.ensures.ready c.self.inside.width c.self.inside.next (rw c.deref_mut.ensures.value c.self.invariant.ready);
    })
