-- Reading a value or an object at its place, and the items of a list.
use Rattle.serde_json.specs.View.{view, items_view}
use Rattle.serde_json.specs.Data.{Items as ItemsData}
use Rattle.std.specs.Prelude.{ℕ, List}
use Rattle.plan_parts.specs.Place.{path_of}
use Rattle.plan_parts.specs.Reading.{Read, Reader}
use Rattle.plan_parts.specs.declared.node.Node.{Node}
use Rattle.plan_parts.specs.declared.object.Object.{Object}
use Rattle.plan_parts.specs.declared.list.Items.{Items}

-- what a reader reads from a value at its place
abbrev pub at : {A : Type 0} → Node → Reader A → Read A
at node read = read (path_of node.place) (view node.value.now)

-- what a reader reads from an object at its path
abbrev pub inside : {A : Type 0} → Object → Reader A → Read A
inside o read = read o.path (view o.value.now)

-- what is read from the items of a list at its path
abbrev pub among : {A : Type 0} → Items → (List ℕ → ItemsData → Read A) → Read A
among items read = read items.path (items_view items.values.now)
