-- Turns of each value of a list, with the one at its index in another list, or alone where there is none.
use Rattle.std.specs.Prelude.{◌≡◌, ℕ, List, Option, slice_get, Some}

-- each may take its turn
abbrev pub MayAllTurn : {X Y : Type 0} → (X → Option Y → Type 0) → List X → List Y → Type 0
MayAllTurn {X} {Y} may xs ys = (i : ℕ) (x : X) → slice_get xs i ≡ Some x → may x (slice_get ys i)

-- each took its turn
abbrev pub AreTurned : {X Y : Type 0} → (X → Option Y → X → Option Y → Type 0) → List X → List Y → List X
    → List Y → Type 0
AreTurned {X} {Y} turned xs ys xs' ys' = (i : ℕ) (x x' : X) → slice_get xs i ≡ Some x
    → slice_get xs' i ≡ Some x' → turned x (slice_get ys i) x' (slice_get ys' i)
