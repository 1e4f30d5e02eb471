-- What contracts see of a deck, and its invariant.
use Rattle.std.specs.Prelude.{◌≡◌, ℕ, ◌-◌, ◌^◌, ◌<◌, ◌≤◌, Bool, true, List, length, Option, Some, slice_get}
use Rattle.std.specs.Global.{Vec}
use Rattle.std.specs.List.{All}
use Rattle.std.specs.Option.{ForSome}

-- a deck
pub record DeckState : Type 0 where
  -- the rows of its deal
  pub rows : List (List ℕ)
  -- how many rows were put or passed
  pub put : ℕ
  -- the last of them was put
  pub there : Bool
  -- it was taken and not yet given back
  pub out : Bool

-- the invariant of a deck of these rows, with put rows put or passed and this buffer in its place
pub record Keeps (rows : List (List ℕ)) (size put : ℕ) (there : Bool) (place : Option (Vec ℕ)) : Type 0 where
  -- a row's number fits 64 bits
  pub counted : length rows < 2 ^ 64
  pub sized : All (λ row. length row ≡ size) rows
  pub among : put ≤ length rows
  -- the buffer is as long as a row
  pub wide : ForSome place (λ buffer. length buffer.items ≡ size)
  -- if the last row was put, the buffer holds it
  pub some : there ≡ true → 0 < put
  pub last : ForSome place (λ buffer. there ≡ true → slice_get rows (put - 1) ≡ Some buffer.items)
