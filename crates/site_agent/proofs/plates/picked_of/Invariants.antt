use Rattle.std.proofs.Common.{◌≡◌, ◌++◌, length}
use Rattle.site_agent.specs.Picked.{kept_where}
use Rattle.site_agent.proofs.plates.picked_of.Given as goal

abbrev pub invariant-loop-plate : goal.invariant-loop-plate
invariant-loop-plate l = record {
  picked : l.picked.items ≡ kept_where l.wanted l.yielded;
  all : l.yielded ++ l.plate-iterator.rest.items ≡ l.fn.plates.items;
  here : l.index ≡ length l.yielded;
}
