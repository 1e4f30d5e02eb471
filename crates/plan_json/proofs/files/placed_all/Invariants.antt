use Rattle.std.proofs.Common.{take}
use Rattle.plan_json.specs.Files.{texts, PlacesAll}
use Rattle.plan_json.proofs.files.placed_all.Given as goal

abbrev pub invariant-loop-item : goal.invariant-loop-item
invariant-loop-item g l =
    PlacesAll g.T.Placed.names g.T.Placed.placed_with (texts l.initial.files.keys) (take l.item-index l.items) (texts l.files.keys) l.all.items
