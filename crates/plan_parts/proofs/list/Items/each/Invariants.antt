use Rattle.std.proofs.Common.{[]}
use Rattle.plan_parts.specs.Reading.{each_after}
use Rattle.plan_parts.proofs.Lists.{Reads}
use Rattle.serde_json.specs.View.{items_view}
use Rattle.plan_parts.proofs.list.Items.each.Given as goal

abbrev pub invariant-loop-value : goal.invariant-loop-value
invariant-loop-value g l =
    Reads (g.I.ItemReader.reads l.read) l.self.path l.value-items
    (each_after [] (g.I.ItemReader.reads l.read) l.self.path (items_view l.value-items)) l.all.items l.value-index
