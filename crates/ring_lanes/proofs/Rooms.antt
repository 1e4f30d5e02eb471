-- The writer's pass over its readers when it checks for room.
use Rattle.std.proofs.Common.{◌≡◌, ℕ, ◌+◌, ◌<◌, ◌≤◌, sym, ap, ◌∙◌, subst, inl, inr, arith}
use Rattle.std.specs.Prelude.{Result, Ok, Err, IfErr, IsErrAnd}
use Rattle.std.proofs.lemmas.Bool.{cases_eq, cases_lt}
use Rattle.ring_rule.specs.declared.view.RingNumbers.{RingNumbers}
use Rattle.ring_rule.specs.Views.{cursor_in}
use Rattle.ring_lanes.specs.declared.answer.Full.{Full}
use Rattle.ring_lanes.specs.Writer.{WriterState, HasRoom, HasRoomFor, IsPassedOver, IsLook, IsBehind, IsFull, LooksOnce, LooksOnceAt, OthersStand}

-- only the known words and the counts of loads differ
abbrev pub IsSameEnd : WriterState → WriterState → Type 0
IsSameEnd before after = after ≡ record before { known = after.known; loads = after.loads }

-- each of the first n readers has room; no cursor of a later reader was loaded
pub record Visited (before after : WriterState) (n : ℕ) : Type 0 where
  pub same : IsSameEnd before after
  pub room : (r : ℕ) → r < n → HasRoomFor after r
  pub looks : (r : ℕ) → r < n → LooksOnceAt before after r
  pub rest : (r : ℕ) → n ≤ r → IsPassedOver before after r

same_head : (b a : WriterState) → IsSameEnd b a → a.head ≡ b.head
same_head b a e = ap (λ (w : WriterState). w.head) e

same_ring : (b a : WriterState) → IsSameEnd b a → a.ring ≡ b.ring
same_ring b a e = ap (λ (w : WriterState). w.ring) e

same_end : (b m a : WriterState) → IsSameEnd b m → IsSameEnd m a → IsSameEnd b a
same_end b m a p q = q ∙ ap (λ (w : WriterState). let v : WriterState = record w { known = a.known; loads = a.loads } in v) p

-- a reader whose cursor was not loaded keeps its known word
over_over : (b m a : WriterState) (r : ℕ) → IsPassedOver b m r → IsPassedOver m a r → IsPassedOver b a r
over_over b m a r p q = record { known = q.known ∙ p.known; loads = q.loads ∙ p.loads }

over_room : (m a : WriterState) (r : ℕ) → IsSameEnd m a → IsPassedOver m a r → HasRoomFor m r → HasRoomFor a r
over_room m a r e p h k f =
    let head = same_head m a e in
    let places : a.ring.places ≡ m.ring.places = ap (λ (g : RingNumbers). g.places) (same_ring m a e) in
    let low = h k (ap cursor_in (sym p.known) ∙ f) in
    omega arith

-- a load after a reader was passed over, and a reader passed over after a load
over_look : (b m a : WriterState) (r : ℕ) → IsSameEnd b m → IsPassedOver b m r → IsLook m a r → IsLook b a r
over_look b m a r e p l =
    let head = same_head b m e in
    let places : m.ring.places ≡ b.ring.places = ap (λ (g : RingNumbers). g.places) (same_ring b m e) in
    let behind = l.behind in
    record {
      known = l.known;
      known_is = ap cursor_in (sym p.known) ∙ l.known_is;
      behind = omega arith;
      loaded = record {
        counted = l.loaded.counted ∙ ap (λ n. n + 1) p.loads;
        found = λ k f. let (j, was, low, high) = l.loaded.found k f in (j, ap cursor_in (sym p.known) ∙ was, low, omega arith);
      };
    }

look_over : (b m a : WriterState) (r : ℕ) → IsLook b m r → IsPassedOver m a r → IsLook b a r
look_over b m a r l p = record {
  known = l.known;
  known_is = l.known_is;
  behind = l.behind;
  loaded = record { counted = p.loads ∙ l.loaded.counted; found = λ k f. l.loaded.found k (ap cursor_in (sym p.known) ∙ f) };
}

over_once : (b m a : WriterState) (r : ℕ) → IsSameEnd b m → IsPassedOver b m r → LooksOnceAt m a r → LooksOnceAt b a r
over_once b m a r e p (inl q) = inl (over_over b m a r p q)
over_once b m a r e p (inr l) = inr (over_look b m a r e p l)

once_over : (b m a : WriterState) (r : ℕ) → LooksOnceAt b m r → IsPassedOver m a r → LooksOnceAt b a r
once_over b m a r (inl q) p = inl (over_over b m a r q p)
once_over b m a r (inr l) p = inr (look_over b m a r l p)

-- one more reader has room
pub visited_more : (b m a : WriterState) (n : ℕ) → Visited b m n → HasRoomFor a n → LooksOnceAt m a n → OthersStand m a n → IsSameEnd m a → Visited b a (n + 1)
visited_more b m a n v room look others e = record {
  same = same_end b m a v.same e;
  room = λ r l. elim (cases_eq r n) [
    | inl is ↦ subst (HasRoomFor a) (sym is) room
    | inr other ↦ over_room m a r e (others r other) (v.room r (omega arith))
  ];
  looks = λ r l. elim (cases_eq r n) [
    | inl is ↦ subst (LooksOnceAt b a) (sym is) (over_once b m a n v.same (v.rest n (omega arith)) look)
    | inr other ↦ once_over b m a r (v.looks r (omega arith)) (others r other)
  ];
  rest = λ r l. over_over b m a r (v.rest r (omega arith)) (others r (λ e. omega arith));
}

-- each reader's cursor was loaded at most once
pub visited_looks : (b a : WriterState) (n : ℕ) → Visited b a n → LooksOnce b a
visited_looks b a n v r l = elim (cases_lt r n) [
  | inl low ↦ v.looks r low
  | inr high ↦ inl (v.rest r (omega arith))
]

-- once all readers are visited, the row may be published
pub visited_room : (b a : WriterState) (n : ℕ) → n ≡ b.ring.readers → Visited b a n → HasRoom a
visited_room b a n e v r l =
    let readers : a.ring.readers ≡ b.ring.readers = ap (λ (g : RingNumbers). g.readers) (same_ring b a v.same) in
    v.room r (omega arith)

-- a reader's number stays in range at each visit
pub visited_range : (b a : WriterState) (n r : ℕ) → Visited b a n → r < b.ring.readers → r < a.ring.readers
visited_range b a n r v l =
    let readers : a.ring.readers ≡ b.ring.readers = ap (λ (g : RingNumbers). g.readers) (same_ring b a v.same) in
    omega arith

-- the next reader is behind
pub visited_full : (b m a : WriterState) (n : ℕ) (full : Full) → n < b.ring.readers → Visited b m n → full.site ≡ n → IsBehind m a full → OthersStand m a n → IsSameEnd m a → IsFull b a full
visited_full b m a n full l v site h others e =
    let head = same_head b m v.same in
    let places : m.ring.places ≡ b.ring.places = ap (λ (g : RingNumbers). g.places) (same_ring b m v.same) in
    let behind = h.behind in
    record {
      in_range = omega arith;
      found = record { look = over_look b m a full.site v.same (v.rest full.site (omega arith)) h.look; found = h.found; behind = omega arith };
      first = λ r low. over_room m a r e (others r (λ is. omega arith)) (v.room r (omega arith));
      others = λ r high. over_over b m a r (v.rest r (omega arith)) (others r (λ is. omega arith));
    }

pub visited_full_looks : (b m a : WriterState) (n : ℕ) → Visited b m n → LooksOnceAt m a n → OthersStand m a n → IsSameEnd m a → LooksOnce b a
visited_full_looks b m a n v look others e r l = elim (cases_eq r n) [
  | inl is ↦ subst (LooksOnceAt b a) (sym is) (over_once b m a n v.same (v.rest n (omega arith)) look)
  | inr other ↦ once_over b m a r (visited_looks b m n v r l) (others r other)
]

-- an error that is passed on
pub err_told : {T E : Type 0} (F : E → Type 0) (r : Result T E) (x : E) → F x → IsErrAnd r (λ y. y ≡ x) → IfErr r F
err_told F (Ok v) x f h = absurd h
err_told F (Err y) x f h = subst F (sym h) f
