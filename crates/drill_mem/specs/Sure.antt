-- The states of a shelf and of racks that do not fail.
use Rattle.std.specs.Prelude.{◌≡◌, [], None}
use Rattle.std.specs.Option.{ForSome}
use Rattle.pr_ports.specs.Shelf.{held_at}
use Rattle.pr_ports.specs.Mem.{ShelfState}
use Rattle.pr_rack.specs.Mem.{MemState}

-- no call is set to fail, and the path of the last failed load is not held
pub record IsSureShelf (shelf : ShelfState) : Type 0 where
  pub calm : shelf.failing ≡ []
  pub missed_is : ForSome shelf.missed (λ path. held_at shelf.files path ≡ None)

-- no call is set to fail
abbrev pub IsSureRack : MemState → Type 0
IsSureRack rack = rack.failing ≡ []
