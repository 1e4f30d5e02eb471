-- The path of a place.
use Rattle.std.specs.Prelude.{ℕ, List, []}
use Rattle.plan_parts.specs.Reading.{at_key, at_item}
use Rattle.plan_parts.specs.declared.place.Place.{Place}
use Rattle.plan_parts.specs.declared.place.Place.TheVariants.{Top, Key, Item}

abbrev pub path_of : Place → List ℕ
path_of Top = []
path_of (Key path key) = at_key path.now key.now
path_of (Item path i) = at_item path.now i
