-- Turns in one thread, over and over again.
use Rattle.std.proofs.Common.{◌≡◌, ℕ, ◌<◌, ◌≤◌, List, Option, length, get_or, Some, arith}
use Rattle.std.specs.Prelude.{slice_get}
use Rattle.std.proofs.lemmas.Option.{slice_get-get_or, slice_get_within}
use Rattle.ring_turns.specs.Turns.{AreTurned, MayAllTurn}

-- the first n took their turns, and the others didn't yet
pub record TurnedUpTo {X Y : Type 0} (turned : X → Option Y → X → Option Y → Type 0) (xs : List X) (ys : List Y) (ps : List X) (qs : List Y) (n : ℕ) : Type 0 where
  pub done : (j : ℕ) (x p : X) → j < n → slice_get xs j ≡ Some x → slice_get ps j ≡ Some p → turned x (slice_get ys j) p (slice_get qs j)
  pub rest : (j : ℕ) → n ≤ j → slice_get ps j ≡ slice_get xs j
  pub others : (j : ℕ) → n ≤ j → slice_get qs j ≡ slice_get ys j

-- what stands there in a list as long
there : {X : Type 0} (xs ps : List X) (i : ℕ) (p : X) → length ps ≡ length xs → slice_get ps i ≡ Some p → slice_get xs i ≡ Some (get_or xs i p)
there xs ps i p same at = slice_get-get_or xs i p (omega (arith, same, slice_get_within ps i p at))

-- behind turns of all, each may take another, and the turns behind them make one turn of each
pub may_all_again : {X Y : Type 0} (may : X → Option Y → Type 0) (turned : X → Option Y → X → Option Y → Type 0) (xs : List X) (ys : List Y) (ps : List X) (qs : List Y) → length ps ≡ length xs
    → ((x p : X) (y q : Option Y) → may x y → turned x y p q → may p q) → MayAllTurn may xs ys → AreTurned turned xs ys ps qs → MayAllTurn may ps qs
may_all_again may turned xs ys ps qs same again may-all are i p at-p =
    let at-x = there xs ps i p same at-p in
    again (get_or xs i p) p (slice_get ys i) (slice_get qs i) (may-all i (get_or xs i p) at-x) (are i (get_or xs i p) p at-x at-p)

pub are_turned_again : {X Y : Type 0} (turned : X → Option Y → X → Option Y → Type 0) (xs : List X) (ys : List Y) (ps : List X) (qs : List Y) (us : List X) (vs : List Y) → length us ≡ length ps
    → ((x p u : X) (y q v : Option Y) → turned x y p q → turned p q u v → turned x y u v) → AreTurned turned xs ys ps qs → AreTurned turned ps qs us vs → AreTurned turned xs ys us vs
are_turned_again turned xs ys ps qs us vs same again first next i x u at-x at-u =
    let at-p = there ps us i u same at-u in
    again x (get_or ps i u) u (slice_get ys i) (slice_get qs i) (slice_get vs i) (first i x (get_or ps i u) at-x at-p) (next i (get_or ps i u) u at-p at-u)
