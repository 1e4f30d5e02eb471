-- A round of a run: the effect of the notes and of the turns.
use Rattle.std.proofs.Common.{◌≡◌, ◌≢◌, ℕ, zero, suc, ◌+◌, ◌<◌, ◌≤◌, ◌⊎◌, Bool, true, false, not, ◌&&◌, ◌||◌, List, [], ◌∷◌, length, map, set, get_or, Option, Some, None, refl, sym, ap, subst, ◌∙◌, inl, inr, ⊎_elim, arith}
use Rattle.std.specs.Prelude.{nat_lt, slice_get}
use Rattle.std.specs.List.{list_any}
use Rattle.std.specs.Option.{option_map}
use Rattle.std.proofs.lemmas.Bool.{cases_Bool, cases_lt, ltb-false, ltb-true}
use Rattle.std.proofs.lemmas.Option.{same_Some, slice_get-get_or, slice_get-map, slice_get_within}
use Rattle.ring_rule.specs.declared.view.RingNumbers.{RingNumbers}
use Rattle.ring_rule.specs.Views.{cursor_in}
use Rattle.ring_rule.specs.Marks.{CursorNoteMark}
use Rattle.ring_lanes.specs.Note.{told_by_reader}
use Rattle.ring_lanes.specs.Reader.{ReaderState}
use Rattle.ring_lanes.specs.Writer.{HasRoom, IsLoaded, OthersStand, WriterState, cursor_known}
use Rattle.pr_rack.specs.Told.{RackTells}
use Rattle.site_agent.proofs.Racks.{set-aside, set-here}
use Rattle.ring_turns.specs.Feeding.{Fed, MayFeed}
use Rattle.ring_turns.specs.Turns.{AreTurned}
use Rattle.ring_run.specs.declared.role.Role.{Role}
use Rattle.ring_run.specs.Round.{AreAtTable, AreEndsOf, AreTold, Falls, IsEndOf, IsTold, Knows, KnowsAll, KnowsMore, StaySeated, all_to_take}
use Rattle.ring_run.specs.Seat.{SeatData, are_going, is_going, is_stopped}
use Rattle.ring_run.specs.Served.{AreSomeSeated, Carries, IsSeated, IsServed, SomeSeated, Turned, Work, is_out, to_take}

-- ---- lists

-- elements after the written one are unchanged
set-stays : {X : Type 0} (xs : List X) (i j : ℕ) (x : X) → i < j → slice_get (set xs i x) j ≡ slice_get xs j
set-stays [] i j x less = refl
set-stays (y ∷ xs) zero zero x less = absurd (omega (arith, less))
set-stays (y ∷ xs) zero (suc j) x less = refl
set-stays (y ∷ xs) (suc i) zero x less = absurd (omega (arith, less))
set-stays (y ∷ xs) (suc i) (suc j) x less = set-stays xs i j x (omega (arith, less))

-- the element at an index of a mapped list
pub mapped : {X Y : Type 0} (f : X → Y) (xs : List X) (i : ℕ) (y : Y) → slice_get (map f xs) i ≡ Some y → (x : X) × (slice_get xs i ≡ Some x) × (f x ≡ y)
mapped f [] i y there = absurd (none there) where
  none : None ≡ Some y → ⊥
  none e = cc
mapped f (x ∷ xs) zero y there = (x, refl, same_Some (f x) y there)
mapped f (x ∷ xs) (suc i) y there = mapped f xs i y there

-- some element passes a test
abbrev pub Passes : {X : Type 0} → (X → Bool) → List X → Type 0
Passes {X} p xs = (i : ℕ) × (x : X) × (slice_get xs i ≡ Some x) × (p x ≡ true)

any_in : {X : Type 0} (p : X → Bool) (x : X) (xs : List X) → (p x || list_any p xs) ≡ true → (list_any p xs ≡ true → Passes p xs) → (p x ≡ true) ⊎ (p x ≡ false) → Passes p (x ∷ xs)
any_in p x xs some rest (inl passes) = (0, x, refl, passes)
any_in p x xs some rest (inr fails) =
    let at = rest (ap (λ b. b || list_any p xs) (sym fails) ∙ some) in
    (suc at.0, at.1, at.2, at.3)

pub any_at : {X : Type 0} (p : X → Bool) (xs : List X) → list_any p xs ≡ true → Passes p xs
any_at p [] none = absurd (let e : false ≡ true = none in cc)
any_at p (x ∷ xs) some = any_in p x xs some (λ e. any_at p xs e) (cases_Bool (p x))

-- no element passes the test
pub none_at : {X : Type 0} (p : X → Bool) (xs : List X) (i : ℕ) (x : X) → list_any p xs ≡ false → slice_get xs i ≡ Some x → p x ≡ false
none_at p [] i x none there = absurd (nothing there) where
  nothing : None ≡ Some x → ⊥
  nothing e = cc
none_at p (y ∷ xs) zero x none there = ap p (sym (same_Some y x there)) ∙ first (p y) (list_any p xs) none where
  first : (a b : Bool) → (a || b) ≡ false → a ≡ false
  first false b e = refl
  first true b e = absurd (let f : true ≡ false = e in cc)
none_at p (y ∷ xs) (suc i) x none there = none_at p xs i x (rest (p y) (list_any p xs) none) there where
  rest : (a b : Bool) → (a || b) ≡ false → b ≡ false
  rest false b e = e
  rest true b e = absurd (let f : true ≡ false = e in cc)

-- ---- the readers' notes

-- the writer knows the ends of the first ones
abbrev pub KnowsUpTo : List ℕ → List SeatData → ℕ → Type 0
KnowsUpTo known seats i = (j : ℕ) (seat : SeatData) → j < i → slice_get seats j ≡ Some seat → Knows known seat.reader

-- the writer still knows what it knew where it knows more
pub knows_on : (old new : List ℕ) (reader : ReaderState) → KnowsMore old new → Knows old reader → Knows new reader
knows_on old new reader more knows = record {
  left = λ out. none (cursor_known new reader.number) refl (knows.left out);
  cursor = λ k is.
      let was = more reader.number k is in
      let low = knows.cursor was.0 was.1 in
      let grown' = was.2 in
      omega (arith, low, grown');
} where
  none : (known : Option ℕ) → known ≡ cursor_known new reader.number → cursor_known old reader.number ≡ None → cursor_known new reader.number ≡ None
  none None is out = sym is
  none (Some k) is out =
      let was = more reader.number k (sym is) in
      let e : None ≡ Some was.0 = sym out ∙ was.1 in absurd (cc)

pub more_again : (old mid new : List ℕ) → KnowsMore old mid → KnowsMore mid new → KnowsMore old new
more_again old mid new first next r k is =
    let then = next r k is in
    let was = first r then.0 then.1 in
    let low = was.2 in
    let high = then.2 in
    (was.0, was.1, omega (arith, low, high))

pub more_same : (known : List ℕ) → KnowsMore known known
more_same known r k is = (k, is, (let e : k ≤ k = omega arith in e))

-- the effect of a note of one reader
pub noted_more : (old new : WriterState) (number : ℕ) → IsLoaded old new number → OthersStand old new number → KnowsMore old.known new.known
noted_more old new number loaded others r k is =
    ⊎_elim
    (λ (own : r ≡ number).
    let found = loaded.found k (ap (cursor_known new.known) (sym own) ∙ is) in
    let low = found.2 in
    (found.0, ap (cursor_known old.known) own ∙ found.1, low))
    (λ (other : r ≢ number). (k, sym (ap cursor_in (others r other).known) ∙ is, (let e : k ≤ k = omega arith in e)))
    (same_or r number) where
      same_or : (a b : ℕ) → (a ≡ b) ⊎ (a ≢ b)
      same_or a b = ⊎_elim (λ (less : a < b). inr (λ e. omega (arith, less, e))) (λ (more : b ≤ a). ⊎_elim (λ (less' : b < a). inr (λ e. omega (arith, less', e))) (λ (more' : a ≤ b). inl (omega (arith, more, more'))) (cases_lt b a)) (cases_lt a b)

pub knows_more : (old new : WriterState) (seats : List SeatData) (i : ℕ) (seat : SeatData) (mark : CursorNoteMark) → slice_get seats i ≡ Some seat → mark ≡ told_by_reader seat.reader → ((k : ℕ) → cursor_known new.known mark.note.number ≡ Some k → mark.note.taken ≤ k)
    → (mark.note.left ≡ true → cursor_known new.known mark.note.number ≡ None) → KnowsMore old.known new.known → KnowsUpTo old.known seats i → KnowsUpTo new.known seats (i + 1)
knows_more old new seats i seat mark there is cursor left more upto j y less at =
    ⊎_elim
    (λ (before : j < i). knows_on old.known new.known y.reader more (upto j y before at))
    (λ (from : i ≤ j).
    let index : j ≡ i = omega (arith, from, less) in
    let same : seat ≡ y = same_Some seat y (sym there ∙ ap (slice_get seats) (sym index) ∙ at) in
    subst (λ (z : SeatData). Knows new.known z.reader) same
    (subst (λ (m : CursorNoteMark). ((k : ℕ) → cursor_known new.known m.note.number ≡ Some k → m.note.taken ≤ k) → (m.note.left ≡ true → cursor_known new.known m.note.number ≡ None) → Knows new.known seat.reader) (sym is)
    (λ c l. record { left = l; cursor = c }) cursor left))
    (cases_lt j i)

-- ---- the writer's notes

-- the first ones were notified
pub record ToldUpTo {X : Type 0} (told : X → X → Type 0) (were are : List X) (i : ℕ) : Type 0 where
  pub done : (j : ℕ) (was is : X) → j < i → slice_get were j ≡ Some was → slice_get are j ≡ Some is → told was is
  pub rest : (j : ℕ) → i ≤ j → slice_get are j ≡ slice_get were j

pub told_none : {X : Type 0} (told : X → X → Type 0) (xs : List X) → ToldUpTo told xs xs 0
told_none told xs = record { done = λ j was is less. absurd (omega (arith, less)); rest = λ j from. refl }

pub told_more : {X : Type 0} (told : X → X → Type 0) (were are : List X) (i : ℕ) (x : X) → i < length are → ToldUpTo told were are i → ((was : X) → slice_get were i ≡ Some was → slice_get are i ≡ Some was → told was x) → ToldUpTo told were (set are i x) (i + 1)
told_more told were are i x within upto here = record {
  done = λ j was is less wt it.
      ⊎_elim
      (λ (before : j < i). upto.done j was is before wt (set-aside are i j x is (λ e. omega (arith, e, before)) it))
      (λ (from : i ≤ j).
      let index : j ≡ i = omega (arith, from, less) in
      let is-is : x ≡ is = set-here are i x is (ap (slice_get (set are i x)) (sym index) ∙ it) in
      let was-at : slice_get were i ≡ Some was = ap (slice_get were) (sym index) ∙ wt in
      subst (λ (y : _). told was y) is-is (here was was-at (upto.rest i (let e : i ≤ i = omega arith in e) ∙ was-at)))
      (cases_lt j i);
  rest = λ j from. stay j from;
} where
  stay : (j : ℕ) → i + 1 ≤ j → slice_get (set are i x) j ≡ slice_get were j
  stay j from = set-stays are i j x (omega (arith, from)) ∙ upto.rest j (omega (arith, from))

pub told_all : {X : Type 0} (told : X → X → Type 0) (were are : List X) (i : ℕ) → length were ≤ i → ToldUpTo told were are i → (j : ℕ) (was is : X) → slice_get were j ≡ Some was → slice_get are j ≡ Some is → told was is
told_all told were are i all upto j was is wt it = upto.done j was is (omega (arith, slice_get_within were j was wt, all)) wt it

-- ---- a reader that was notified

told_seated : (w : WriterState) (was is : SeatData) (work : Work) (site : ℕ) (before now : Option RackTells) → IsTold w was is → IsSeated work site before now was → IsSeated work site before now is
told_seated w was is work site before now told seated =
    let stays = told.stays in
    let ring : is.reader.ring ≡ was.reader.ring = ap (λ (x : ReaderState). x.ring) stays in
    let cursor : is.reader.cursor ≡ was.reader.cursor = ap (λ (x : ReaderState). x.cursor) stays in
    record {
      home = ap (λ (x : ReaderState). x.held) stays ∙ seated.home;
      within = (let t : is.reader.ring.total ≡ was.reader.ring.total = ap (λ (r : RingNumbers). r.total) ring in let low = seated.within in omega (arith, cursor, t, low));
      left = ap (λ (x : ReaderState). x.left) stays ∙ seated.left ∙ ap is_out (sym told.role);
      is = subst (λ (role : Role). IsServed work site is.reader.ring is.reader.cursor before now role) (sym told.role)
          (subst (λ (n : ℕ). IsServed work site is.reader.ring n before now was.role) (sym cursor)
          (subst (λ (r : RingNumbers). IsServed work site r was.reader.cursor before now was.role) (sym ring) seated.is));
    }

some_told : (w : WriterState) (was is : SeatData) (now : Option RackTells) → IsTold w was is → SomeSeated now was → SomeSeated now is
some_told w was is now told some = record {
  work = some.work;
  before = some.before;
  carries = subst (λ (ring : RingNumbers). Carries some.work.delivery ring) (sym (ap (λ (x : ReaderState). x.ring) told.stays)) some.carries;
  is = subst (λ (n : ℕ). IsSeated some.work n some.before now is) (sym (ap (λ (x : ReaderState). x.number) told.stays))
      (told_seated w was is some.work was.reader.number some.before now told some.is);
}

-- each reader that was notified may take its turn
pub may_turn : {X : Type 0} (tell : X → RackTells) (w : WriterState) (were are : List SeatData) (racks : List X) → length are ≡ length were → AreTold w were are → AreSomeSeated (map tell racks) were
    → (i : ℕ) (seat : SeatData) → slice_get are i ≡ Some seat → SomeSeated (option_map tell (slice_get racks i)) seat
may_turn tell w were are racks same told some i seat at =
    let within = slice_get_within are i seat at in
    let was : SeatData = get_or were i seat in
    let was-at : slice_get were i ≡ Some was = slice_get-get_or were i seat (omega (arith, within, same)) in
    subst (λ (o : Option RackTells). SomeSeated o seat) (slice_get-map tell racks i)
    (some_told w was seat (slice_get (map tell racks) i) (told i was seat was-at at) (some i was was-at))

-- ---- a round

-- the effect of a round on one reader: it was notified, and took its turn
pub record Rounded (w : WriterState) (old new : Option RackTells) (was is : SeatData) : Type 0 where
  pub mid : SeatData
  pub told : IsTold w was mid
  pub turned : Turned old new mid is

abbrev pub AreRounded : WriterState → List RackTells → List RackTells → List SeatData → List SeatData → Type 0
AreRounded w old new were are = (i : ℕ) (was is : SeatData) → slice_get were i ≡ Some was → slice_get are i ≡ Some is → Rounded w (slice_get old i) (slice_get new i) was is

pub rounded : {X : Type 0} (tell : X → RackTells) (w : WriterState) (were mid are : List SeatData) (racks racks' : List X) → length mid ≡ length were → AreTold w were mid
    → AreTurned (λ x y x' y'. Turned (option_map tell y) (option_map tell y') x x') mid racks are racks' → AreRounded w (map tell racks) (map tell racks') were are
rounded tell w were mid are racks racks' same told turned i was is wt it =
    let within = slice_get_within were i was wt in
    let m : SeatData = get_or mid i was in
    let m-at : slice_get mid i ≡ Some m = slice_get-get_or mid i was (omega (arith, within, same)) in
    record {
      mid = m;
      told = told i was m wt m-at;
      turned = subst (λ (o : Option RackTells). Turned o (slice_get (map tell racks') i) m is) (sym (slice_get-map tell racks i))
          (subst (λ (o : Option RackTells). Turned (option_map tell (slice_get racks i)) o m is) (sym (slice_get-map tell racks' i)) (turned i m is m-at it));
    }

reader_stays : (w : WriterState) (old new : Option RackTells) (was is : SeatData) → Rounded w old new was is
    → is.reader ≡ record was.reader { cursor = is.reader.cursor; left = is.reader.left; seen = is.reader.seen; loads = is.reader.loads }
reader_stays w old new was is r =
    r.turned.end.stays ∙ ap {A = ReaderState} (λ x. record x { cursor = is.reader.cursor; left = is.reader.left; seen = is.reader.seen; loads = is.reader.loads }) r.told.stays

-- the readers' ends remain those of the writer's ring
pub ends_stay : (w before after : WriterState) (old new : List RackTells) (were are : List SeatData) → length were ≡ length are → after.table ≡ before.table → after.ring ≡ before.ring → AreEndsOf before were → AreRounded w old new were are → AreEndsOf after are
ends_stay w before after old new were are same table ring ends rounded = record {
  count = sym same ∙ ends.count ∙ ap (λ (r : RingNumbers). r.readers) (sym ring);
  each = λ i is at.
      let within = slice_get_within are i is at in
      let was : SeatData = get_or were i is in
      let was-at : slice_get were i ≡ Some was = slice_get-get_or were i is (omega (arith, within, same)) in
      let end = ends.each i was was-at in
      let stays = reader_stays w (slice_get old i) (slice_get new i) was is (rounded i was is was-at at) in
      record {
        table = ap (λ (x : ReaderState). x.table) stays ∙ end.table ∙ sym table;
        ring = ap (λ (x : ReaderState). x.ring) stays ∙ end.ring ∙ sym ring;
        number = ap (λ (x : ReaderState). x.number) stays ∙ end.number;
      };
}

-- in each run the readers remain seated
pub stay_seated : (w before : WriterState) (old new : List RackTells) (were are : List SeatData) → AreEndsOf before were → AreRounded w old new were are → StaySeated old new were are
stay_seated w before old new were are ends rounded work i first was is carries wt it seated =
    let r = rounded i was is wt it in
    let number : was.reader.number ≡ i = (ends.each i was wt).number in
    let number' : r.mid.reader.number ≡ was.reader.number = ap (λ (x : ReaderState). x.number) r.told.stays in
    let carries' : Carries work.delivery r.mid.reader.ring = subst (λ (ring : RingNumbers). Carries work.delivery ring) (sym (ap (λ (x : ReaderState). x.ring) r.told.stays)) carries in
    subst (λ (n : ℕ). IsSeated work n first (slice_get new i) is) (number' ∙ number)
    (r.turned.seated work first carries' (subst (λ (n : ℕ). IsSeated work n first (slice_get old i) r.mid) (sym (number' ∙ number)) (told_seated w was r.mid work i first (slice_get old i) r.told seated)))

-- ---- the measure

same_to_take : (w : WriterState) (was is : SeatData) → IsTold w was is → to_take is.reader ≡ to_take was.reader
same_to_take w was is told = ap to_take told.stays

to_take_fewer : (w : WriterState) (old new : Option RackTells) (was is : SeatData) → Rounded w old new was is → to_take is.reader ≤ to_take was.reader
to_take_fewer w old new was is r = let same = same_to_take w was r.mid r.told in let few = r.turned.end.fewer in omega (arith, same, few)

-- a reader that continues is joined, and a row is yet to come
going_parts : (reader : ReaderState) → is_going reader ≡ true → (reader.left ≡ false) × (reader.cursor < reader.ring.total)
going_parts reader going = by reader.left (nat_lt reader.cursor reader.ring.total) refl going where
  by : (left more : Bool) → more ≡ nat_lt reader.cursor reader.ring.total → (not left && more) ≡ true → (left ≡ false) × (reader.cursor < reader.ring.total)
  by true more e g = absurd (let f : false ≡ true = g in cc)
  by false false e g = absurd (let f : false ≡ true = g in cc)
  by false true e g = (refl, ltb-true reader.cursor reader.ring.total (sym e))

to_take_less : (w : WriterState) (old new : Option RackTells) (was is : SeatData) → Rounded w old new was is → is_going was.reader ≡ true → was.reader.cursor < w.head → to_take is.reader < to_take was.reader
to_take_less w old new was is r going below =
    let same = same_to_take w was r.mid r.told in
    let head = r.told.head going in
    let cursor : r.mid.reader.cursor ≡ was.reader.cursor = ap (λ (x : ReaderState). x.cursor) r.told.stays in
    let left : r.mid.reader.left ≡ false = ap (λ (x : ReaderState). x.left) r.told.stays ∙ (going_parts was.reader going).0 in
    let less = r.turned.end.gets_on left (omega (arith, cursor, head, below)) in
    omega (arith, same, less)

-- the sums over the readers
abbrev AreFewer : List SeatData → List SeatData → Type 0
AreFewer were are = (i : ℕ) (was is : SeatData) → slice_get were i ≡ Some was → slice_get are i ≡ Some is → to_take is.reader ≤ to_take was.reader

all_fewer : (were are : List SeatData) → length were ≡ length are → AreFewer were are → all_to_take are ≤ all_to_take were
unfolding all_to_take
all_fewer [] [] same each = omega arith
all_fewer [] (is ∷ are) same each = absurd (omega (arith, same))
all_fewer (was ∷ were) [] same each = absurd (omega (arith, same))
all_fewer (was ∷ were) (is ∷ are) same each =
    let first = each 0 was is refl refl in
    let rest = all_fewer were are (omega (arith, same)) (λ i w s. each (suc i) w s) in
    omega (arith, first, rest)

all_less : (were are : List SeatData) (at : ℕ) (was-at is-at : SeatData) → length were ≡ length are → AreFewer were are → slice_get were at ≡ Some was-at → slice_get are at ≡ Some is-at → to_take is-at.reader < to_take was-at.reader
    → all_to_take are < all_to_take were
unfolding all_to_take
all_less [] [] at was-at is-at same each wt it less = absurd (let e : None ≡ Some was-at = wt in cc)
all_less [] (is ∷ are) at was-at is-at same each wt it less = absurd (omega (arith, same))
all_less (was ∷ were) [] at was-at is-at same each wt it less = absurd (omega (arith, same))
all_less (was ∷ were) (is ∷ are) zero was-at is-at same each wt it less =
    let rest = all_fewer were are (omega (arith, same)) (λ i w s. each (suc i) w s) in
    let w-is : to_take was.reader ≡ to_take was-at.reader = ap (λ (x : SeatData). to_take x.reader) (same_Some was was-at wt) in
    let i-is : to_take is.reader ≡ to_take is-at.reader = ap (λ (x : SeatData). to_take x.reader) (same_Some is is-at it) in
    omega (arith, rest, w-is, i-is, less)
all_less (was ∷ were) (is ∷ are) (suc at) was-at is-at same each wt it less =
    let first = each 0 was is refl refl in
    let rest = all_less were are at was-at is-at (omega (arith, same)) (λ i w s. each (suc i) w s) wt it less in
    omega (arith, first, rest)

-- a reader that continues, with a row below this head
abbrev behind : ℕ → ReaderState → Bool
behind head reader = is_going reader && nat_lt reader.cursor head

behind_parts : (head : ℕ) (reader : ReaderState) → behind head reader ≡ true → (is_going reader ≡ true) × (reader.cursor < head)
behind_parts head reader is = by (is_going reader) (nat_lt reader.cursor head) refl refl is where
  by : (going low : Bool) → going ≡ is_going reader → low ≡ nat_lt reader.cursor head → (going && low) ≡ true → (is_going reader ≡ true) × (reader.cursor < head)
  by true true g l e = (sym g, ltb-true reader.cursor head (sym l))
  by true false g l e = absurd (let f : false ≡ true = e in cc)
  by false low g l e = absurd (let f : false ≡ true = e in cc)

not_behind : (head : ℕ) (reader : ReaderState) → behind head reader ≡ false → is_going reader ≡ true → head ≤ reader.cursor
not_behind head reader none going = by (nat_lt reader.cursor head) refl (ap (λ b. b && nat_lt reader.cursor head) (sym going) ∙ none) where
  by : (low : Bool) → low ≡ nat_lt reader.cursor head → low ≡ false → head ≤ reader.cursor
  by true l e = absurd (let f : true ≡ false = e in cc)
  by false l e = ltb-false reader.cursor head (sym l)

-- where no reader that continues is behind the head, the ring has room for the next row
room_for : (w : WriterState) (seats : List SeatData) → AreEndsOf w seats → KnowsAll w.known seats → w.head ≤ w.ring.total → 0 < w.ring.places
    → ((i : ℕ) (seat : SeatData) → slice_get seats i ≡ Some seat → is_going seat.reader ≡ true → w.head ≤ seat.reader.cursor) → HasRoom w
room_for w seats ends knows within places ahead r less k is =
    let any : SeatData = seat_at seats r (omega (arith, less, ends.count)) in
    let there : slice_get seats r ≡ Some any = seat_there seats r (omega (arith, less, ends.count)) in
    let end = ends.each r any there in
    let known : cursor_known w.known any.reader.number ≡ Some k = ap (cursor_known w.known) end.number ∙ is in
    by any.reader.left (nat_lt any.reader.cursor any.reader.ring.total) any there refl refl known end where
      seat_at : (seats : List SeatData) (r : ℕ) → r < length seats → SeatData
      seat_at [] r less = absurd (omega (arith, less))
      seat_at (seat ∷ seats) zero less = seat
      seat_at (seat ∷ seats) (suc r) less = seat_at seats r (omega (arith, less))

      seat_there : (seats : List SeatData) (r : ℕ) (less : r < length seats) → slice_get seats r ≡ Some (seat_at seats r less)
      seat_there [] r less = absurd (omega (arith, less))
      seat_there (seat ∷ seats) zero less = refl
      seat_there (seat ∷ seats) (suc r) less = seat_there seats r (omega (arith, less))

      by : (left more : Bool) (seat : SeatData) → slice_get seats r ≡ Some seat → left ≡ seat.reader.left → more ≡ nat_lt seat.reader.cursor seat.reader.ring.total → cursor_known w.known seat.reader.number ≡ Some k → IsEndOf w r seat.reader
          → w.head < k + w.ring.places
      by true more seat at l m known end =
          let none : None ≡ Some k = sym ((knows r seat at).left (sym l)) ∙ known in absurd (cc)
      by false true seat at l m known end =
          let going : is_going seat.reader ≡ true = ap (λ b. not b && nat_lt seat.reader.cursor seat.reader.ring.total) (sym l) ∙ sym m in
          let low = ahead r seat at going in
          let high = (knows r seat at).cursor k known in
          omega (arith, low, high, places)
      by false false seat at l m known end =
          let done : seat.reader.ring.total ≤ seat.reader.cursor = ltb-false seat.reader.cursor seat.reader.ring.total (sym m) in
          let total : seat.reader.ring.total ≡ w.ring.total = ap (λ (r : RingNumbers). r.total) end.ring in
          let high = (knows r seat at).cursor k known in
          omega (arith, done, total, high, within, places)

-- where a reader continues, a round leaves less to do
pub falls : (left : List (List ℕ)) (first w last : WriterState) (old new : List RackTells) (were are : List SeatData) → w ≡ record first { known = w.known; loads = w.loads } → AreEndsOf w were → KnowsAll w.known were
    → length were ≡ length are → AreRounded w old new were are → Fed left w last → 0 < w.ring.places → Falls first were last are
falls left first w last old new were are noted ends knows same rounded fed places going =
    let head : w.head ≡ first.head = ap (λ (x : WriterState). x.head) noted in
    let total : w.ring.total ≡ first.ring.total = ap (λ (x : WriterState). x.ring.total) noted in
    let total' : last.ring.total ≡ w.ring.total = ap (λ (x : WriterState). x.ring.total) fed.same in
    let grows = fed.grows in
    let within = fed.within in
    ⊎_elim
    (λ (some : list_any late were ≡ true).
    let at = any_at late were some in
    let parts = behind_parts w.head at.1.reader at.3 in
    let inside = slice_get_within were at.0 at.1 at.2 in
    let is : SeatData = get_or are at.0 at.1 in
    let is-at : slice_get are at.0 ≡ Some is = slice_get-get_or are at.0 at.1 (omega (arith, inside, same)) in
    let less = to_take_less w (slice_get old at.0) (slice_get new at.0) at.1 is (rounded at.0 at.1 is at.2 is-at) parts.0 parts.1 in
    let rest = all_less were are at.0 at.1 is same few at.2 is-at less in
    omega (arith, head, total, total', grows, within, rest))
    (λ (none : list_any late were ≡ false).
    let at = any_at (λ (seat : SeatData). is_going seat.reader) were going in
    let parts = going_parts at.1.reader at.3 in
    let inside = slice_get_within were at.0 at.1 at.2 in
    let is : SeatData = get_or are at.0 at.1 in
    let is-at : slice_get are at.0 ≡ Some is = slice_get-get_or are at.0 at.1 (omega (arith, inside, same)) in
    let ahead : w.head ≤ at.1.reader.cursor = not_behind w.head at.1.reader (none_at late were at.0 at.1 none at.2) at.3 in
    let end = ends.each at.0 at.1 at.2 in
    let ring : at.1.reader.ring.total ≡ w.ring.total = ap (λ (r : RingNumbers). r.total) end.ring in
    let low = parts.1 in
    let joined = (rounded at.0 at.1 is at.2 is-at).told.joined at.3 in
    let count = ends.count in
    let number = end.number in
    let room : HasRoom w = room_for w were ends knows (omega (arith, grows, within)) places (λ i seat there on. not_behind w.head seat.reader (none_at late were i seat none there) on) in
    let more = fed.gets_on (omega (arith, ahead, ring, low)) (at.1.reader.number, joined.0, omega (arith, inside, count, number), joined.1) room in
    let rest = all_fewer were are same few in
    omega (arith, head, total, total', within, more, rest))
    (cases_Bool (list_any late were)) where
      late : SeatData → Bool
      late seat = behind w.head seat.reader

      few : AreFewer were are
      few i was is wt it = to_take_fewer w (slice_get old i) (slice_get new i) was is (rounded i was is wt it)

-- the ends remain those of a writer that takes in notes
pub ends_told : (old new : WriterState) (seats : List SeatData) → new ≡ record old { known = new.known; loads = new.loads } → AreEndsOf old seats → AreEndsOf new seats
ends_told old new seats is ends = record {
  count = ends.count ∙ ap (λ (w : WriterState). w.ring.readers) (sym is);
  each = λ i seat at.
      let end = ends.each i seat at in
      record {
        table = end.table ∙ ap (λ (w : WriterState). w.table) (sym is);
        ring = end.ring ∙ ap (λ (w : WriterState). w.ring) (sym is);
        number = end.number;
      };
}

-- the readers' ends belong to the writer's ring
pub seats_at : (w w' : WriterState) (seats seats' : List SeatData) → AreEndsOf w seats → seats' ≡ seats → w'.table ≡ w.table → AreAtTable w' seats'
seats_at w w' seats seats' ends is table i seat there = (ends.each i seat (ap (λ list. slice_get list i) (sym is) ∙ there)).table ∙ sym table

-- the feed is unchanged where the writer took in notes
pub feed_noted : (left : List (List ℕ)) (w w' : WriterState) → w' ≡ record w { known = w'.known; loads = w'.loads } → MayFeed left w → MayFeed left w'
feed_noted left w w' same may = subst (λ (x : WriterState). MayFeed left x) (sym same) (record { feed = may.feed; rows = may.rows })

-- what one round leaves of the readers and the writer together
pub record RoundLeaves (w w' : WriterState) (old new : List RackTells) (seats seats' : List SeatData) : Type 0 where
  pub ring : w'.ring ≡ w.ring
  pub ends : AreEndsOf w' seats'
  pub seated : StaySeated old new seats seats'
  pub falls : Falls w seats w' seats'

-- once the writer knows of all readers, and all were notified and took their turns
pub round_leaves : {X : Type 0} (tell : X → RackTells) (left : List (List ℕ)) (w noted w' : WriterState) (seats told seats' : List SeatData) (racks racks' : List X) → AreEndsOf w seats → 0 < w.ring.places → noted ≡ record w { known = noted.known; loads = noted.loads }
    → KnowsAll noted.known seats → length told ≡ length seats → AreTold noted seats told → length seats' ≡ length told
    → AreTurned (λ x y x' y'. Turned (option_map tell y) (option_map tell y') x x') told racks seats' racks' → Fed left noted w'
    → RoundLeaves w w' (map tell racks) (map tell racks') seats seats'
round_leaves tell left w noted w' seats told seats' racks racks' ends places same knows long all-told seats-long turned fed =
    let seats-same : length seats ≡ length seats' = omega (arith, long, seats-long) in
    let rounds = rounded tell noted seats told seats' racks racks' long all-told turned in
    let after : w' ≡ record w { head = w'.head; known = w'.known; loads = w'.loads } =
    fed.same ∙ ap {A = WriterState} (λ x. record x { head = w'.head; known = w'.known; loads = w'.loads }) same in
    record {
      ring = ap (λ (x : WriterState). x.ring) after;
      ends = ends_stay noted w w' (map tell racks) (map tell racks') seats seats' seats-same (ap (λ (x : WriterState). x.table) after) (ap (λ (x : WriterState). x.ring) after) ends rounds;
      seated = stay_seated noted w (map tell racks) (map tell racks') seats seats' ends rounds;
      falls = falls left w noted w' (map tell racks) (map tell racks') seats seats' same (ends_told w noted seats same ends) knows seats-same rounds fed (omega (arith, places, ap (λ (x : WriterState). x.ring.places) same));
    }

-- ---- rounds

-- after a round each reader may take its turn again
pub some_on : (old new : List RackTells) (writer after : WriterState) (were are : List SeatData) → length were ≡ length are → AreSomeSeated old were → AreEndsOf writer were → AreEndsOf after are → after.ring ≡ writer.ring → StaySeated old new were are → AreSomeSeated new are
some_on old new writer after were are same some ends ends' ring stay i seat at =
    let within = slice_get_within are i seat at in
    let was : SeatData = get_or were i seat in
    let was-at : slice_get were i ≡ Some was = slice_get-get_or were i seat (omega (arith, within, same)) in
    let s = some i was was-at in
    let end = ends.each i was was-at in
    let end' = ends'.each i seat at in
    record {
      work = s.work;
      before = s.before;
      carries = subst (λ (r : RingNumbers). Carries s.work.delivery r) (end.ring ∙ sym ring ∙ sym end'.ring) s.carries;
      is = subst (λ (n : ℕ). IsSeated s.work n s.before (slice_get new i) seat) (sym end'.number)
          (stay s.work i s.before was seat s.carries was-at at (subst (λ (n : ℕ). IsSeated s.work n s.before (slice_get old i) was) end.number s.is));
    }

-- rounds in succession
pub stay_then : (old mid new : List RackTells) (were are last : List SeatData) (first writer : WriterState) → length are ≡ length last → AreEndsOf first were → AreEndsOf writer are → writer.ring ≡ first.ring → StaySeated old mid were are → StaySeated mid new are last
    → StaySeated old new were last
stay_then old mid new were are last first writer same ends ends' ring stay next work i before was is carries wt it seated =
    let within = slice_get_within last i is it in
    let m : SeatData = get_or are i is in
    let m-at : slice_get are i ≡ Some m = slice_get-get_or are i is (omega (arith, within, same)) in
    next work i before m is (subst (λ (r : RingNumbers). Carries work.delivery r) ((ends.each i was wt).ring ∙ sym ring ∙ sym (ends'.each i m m-at).ring) carries) m-at it
    (stay work i before was m carries wt m-at seated)

-- where the readers continue, one of them does
pub some_going : (seats : List SeatData) → are_going seats ≡ true → list_any (λ seat. is_going seat.reader) seats ≡ true
some_going seats on = first (list_any (λ (s : SeatData). is_going s.reader) seats) (not (list_any (λ (s : SeatData). is_stopped s.role) seats)) on where
  first : (a b : Bool) → (a && b) ≡ true → a ≡ true
  first true b e = refl
  first false b e = absurd (let f : false ≡ true = e in cc)

-- where they don't, and no site ran out of memory, none of them does
pub none_going : (seats : List SeatData) → are_going seats ≡ false → list_any (λ seat. is_stopped seat.role) seats ≡ false → list_any (λ seat. is_going seat.reader) seats ≡ false
none_going seats over none = by (list_any (λ (s : SeatData). is_going s.reader) seats) (list_any (λ (s : SeatData). is_stopped s.role) seats) none over where
  by : (a b : Bool) → b ≡ false → (a && not b) ≡ false → a ≡ false
  by false b e f = refl
  by true true e f = e
  by true false e f = absurd (let g : true ≡ false = f in cc)
