-- The invariant of a deck after a row is put.
use Rattle.std.proofs.Common.{◌≡◌, ℕ, ◌+◌, ◌-◌, ◌<◌, Bool, true, List, length, ap, ◌∙◌, Option, Some, slice_get, arith}
use Rattle.std.specs.Global.{Vec}
use Rattle.std.specs.Vec.{with_items}
use Rattle.std.proofs.lemmas.List.{with_items_is}
use Rattle.std.proofs.lemmas.List.Elements.{All-get_or}
use Rattle.std.proofs.lemmas.Option.{slice_get_within, get_or_from_slice_get}
use Rattle.ring_lanes.specs.Deck.{Keeps}

-- the row before the next number is the row put last
last_put : (rows : List (List ℕ)) (put : ℕ) (row items : List ℕ) → slice_get rows put ≡ Some row → items ≡ row → slice_get rows (put + 1 - 1) ≡ Some items
last_put rows put row items next same = let e : put + 1 - 1 ≡ put = omega arith in rw (e, same) next

-- two names for one buffer have the same contents
read_back : (v b : Vec ℕ) (row : List ℕ) → Some v ≡ Some b → v.items ≡ row → b.items ≡ row
read_back v b row is same = cc

-- after the next row is copied into the buffer, the place holds that row
pub puts : {rows : List (List ℕ)} {size put : ℕ} {there : Bool} {place : Option (Vec ℕ)} (row new : List ℕ) (v : Vec ℕ) → place ≡ Some v →
    slice_get rows put ≡ Some row → new ≡ row → Keeps rows size put there place → Keeps rows size (put + 1) true (Some (with_items v new))
puts {rows} {size} {put} {there} row new v is next same kept =
    let within : put < length rows = slice_get_within rows put row next in
    let long : length row ≡ size = rw (get_or_from_slice_get rows put row row next) at (All-get_or (λ row. length row ≡ size) rows put row within kept.sized) in
    let fits : length new ≡ v.len = omega (arith, ap {B = ℕ} length same, long, kept.wide v is, v.ok.0) in
    let now : (with_items v new).items ≡ row = with_items_is v new fits ∙ same in
    record {
      counted = kept.counted;
      sized = kept.sized;
      among = omega arith;
      wide = λ b is. ap {B = ℕ} length (read_back (with_items v new) b row is now) ∙ long;
      some = λ _. omega arith;
      last = λ b is there. last_put rows put row b.items next (read_back (with_items v new) b row is now);
    }
